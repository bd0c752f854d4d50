use Rattle.std.proofs.Common.{List, ◌++◌, length}
use Rattle.ca_script.specs.Lines.{AreEach}
use Rattle.ca_model.specs.Ends.{Address}
use Rattle.ca_world_script.specs.Lines.{IsAddress}
use Rattle.ca_world_script.proofs.clients.read_addresses.Given as goal

-- The words read are these addresses; where all words are addresses, the words left are.
abbrev pub invariant-loop-words : goal.invariant-loop-words
invariant-loop-words l = record {
  reads : (xs : List Address) → AreEach IsAddress l.words xs → AreEach IsAddress l.fn.words (l.items.items ++ xs);
  leaves : (xs : List Address) → AreEach IsAddress l.fn.words xs → (ys : List Address) × AreEach IsAddress l.words ys;
}

abbrev pub decreases-loop-words : goal.decreases-loop-words
decreases-loop-words l = length l.words
