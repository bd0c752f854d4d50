use Rattle.ca_client_core.proofs.Rounds.{undone-search}
use Rattle.ca_client_core.proofs.client.ClientCore.note_searched.Goals as goal

pub returns-clause-kept : goal.returns-clause-kept
returns-clause-kept c =
    undone-search c.args.marks.now.items c.push.new.self.items c.args.self.now c.note_all_on.new.self c.args.circuit c.mark.result c.note_all_on.ensures.kept.0 c.in_ok-push.ensures.items c.mark.ensures c.note_all_on.ensures.kept.1
