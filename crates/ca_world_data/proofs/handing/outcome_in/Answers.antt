use Rattle.std.proofs.Common.{sym, ◌∙◌}
use Rattle.ca_world_data.proofs.Handed.{open_still, over}
use Rattle.ca_world_data.proofs.handing.outcome_in.Goals as goal

pub returns-then-is_over : goal.returns-then-is_over
returns-then-is_over c = over c.args.log.now c.args.request c.args.meant (sym c.is_over.ensures ∙ c.if-is_over.true)

pub returns : goal.returns
returns c = open_still c.args.log.now c.args.request c.args.meant c.outcome_line.result (sym c.is_over.ensures ∙ c.if-is_over.false) c.outcome_line.ensures
