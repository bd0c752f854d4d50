use Rattle.std.proofs.Common.{◌≡◌, ℕ, List, ◌<◌, false, get_or}
use Rattle.ca_display.specs.States.{is_named}
use Rattle.ca_display.proofs.states.place_of.Given as goal

abbrev pub invariant-loop-i : goal.invariant-loop-i
invariant-loop-i l = (k : ℕ) (d : List ℕ) → k < l.i → is_named l.name (get_or l.states k d) ≡ false
