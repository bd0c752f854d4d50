use Rattle.std.proofs.Common.{◌≡◌, ◌<◌, ℕ, List, ◌++◌, length}
use Rattle.ca_script.specs.Grammar.{lines_of}
use Rattle.ca_world_script.specs.Scripts.{AddsAll, nothing, reading}
use Rattle.ca_world_script.specs.Index.{added_of}
use Rattle.ca_world_script.proofs.script.read_script.Given as goal

-- The lines above those left were read.
abbrev pub invariant-loop-left : goal.invariant-loop-left
invariant-loop-left l = record {
  above : List (List ℕ);
  split : lines_of l.text ≡ above ++ lines_of l.left;
  leads : AddsAll nothing above (reading l.script (added_of l.types));
  some : 0 < length l.left → 0 < length l.text;
}

abbrev pub decreases-loop-left : goal.decreases-loop-left
decreases-loop-left l = length l.left
