use Rattle.std.proofs.Common.{length}
use Rattle.ca_arena.specs.Arena.{walk_start}
use Rattle.ca_ids.proofs.Walks.{NoneOpenUpTo, left_of}
use Rattle.ca_ids.proofs.table.IdTable.next_of.Given as goal

abbrev pub invariant-loop-next : goal.invariant-loop-next
invariant-loop-next g l = NoneOpenUpTo l.self (walk_start l.fn.after) l.next

abbrev pub decreases-loop-next : goal.decreases-loop-next
decreases-loop-next g l = left_of (length l.self.given) l.next
