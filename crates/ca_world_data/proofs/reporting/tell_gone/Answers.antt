use Rattle.std.proofs.Common.{◌<◌, ◌++◌, length, List, map, arith, sym, ap, ◌∙◌, Vec, Global}
use Rattle.ca_text.specs.Place.{At}
use Rattle.ca_model.specs.ServerEvents.{withdrawals}
use Rattle.ca_world_data.specs.declared.history.LogEntry.{LogEntry}
use Rattle.ca_world_data.specs.EndsWith.{gone_with}
use Rattle.ca_world_data.specs.Seen.{entry_of, joined_of, record_of}
use Rattle.ca_world_data.proofs.Gone.{gone-all, grown-told}
use Rattle.ca_world_data.proofs.Worlds.{found}
use Rattle.ca_world_data.proofs.reporting.tell_gone.Goals as goal

pub returns-then-life-len : goal.returns-then-life-len
returns-then-life-len c =
    let logs : List (Vec LogEntry Global) = c.args.logs.now.items in
    let log : Vec LogEntry Global = c.index_mut.result.now in
    let within : c.args.life < length logs = omega (arith, c.if-life-len.true, c.len.ensures) in
    let at : At logs c.args.life log = found logs c.args.life log log within c.index_mut.ensures.value in
    let gone = gone_with c.args.closed c.args.server c.args.core.now (map joined_of c.args.circuits.now) in
    grown-told logs c.args.life log c.tell_in.new.log (withdrawals gone (map record_of c.args.records.now)) at (c.tell_in.ensures ∙ ap (λ t. map entry_of log.items ++ t) (sym (gone-all gone c.args.records.now)))
