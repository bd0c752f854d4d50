use Rattle.std.proofs.Common.{◌≡◌, rules}
use Rattle.ca_model.specs.History as history
use Rattle.ca_world_data.specs.Seen.{intent_of}
use Rattle.ca_world_script.proofs.Tellings.{write-told}
use Rattle.ca_world_script.proofs.logs.put_noticed.Goals as goal

pub returns-in_ok-put_status-in-Write-clause-ok : goal.returns-in_ok-put_status-in-Write-clause-ok
returns-in_ok-put_status-in-Write-clause-ok c =
    let is : intent_of c.args.intent ≡ history.On c.in-On.channel (history.Request history.Write c.in-Request.number) = search rules in
    write-told (intent_of c.args.intent) c.in-On.channel c.in-Request.number c.args.outcome.now c.put_count-in-Write.new.text.items c.put_status.new.text.items c.args.text.now.items is c.in_ok-put_count-in-Write.ensures.ok c.in_ok-put_status-in-Write.ensures.ok
