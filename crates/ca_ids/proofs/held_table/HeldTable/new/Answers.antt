use Rattle.ca_arena.proofs.Runs.{IsSound-empty}
use Rattle.ca_ids.proofs.held_table.HeldTable.new.Goals as goal

pub invariant_of-result : goal.invariant_of-result
invariant_of-result g c = rw c.new.ensures IsSound-empty
