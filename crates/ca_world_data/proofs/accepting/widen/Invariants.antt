use Rattle.std.proofs.Common.{◌-◌, length}
use Rattle.ca_world_data.specs.Accepting.{Extends}
use Rattle.ca_world_data.proofs.accepting.widen.Given as goal

-- those that were there are there still
abbrev pub invariant-loop-numbers : goal.invariant-loop-numbers
invariant-loop-numbers l = record { kept : Extends l.initial.numbers.items l.numbers.items }

abbrev pub decreases-loop-numbers : goal.decreases-loop-numbers
decreases-loop-numbers l = l.places - length l.numbers.items
