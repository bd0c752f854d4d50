use Rattle.std.proofs.Common.{List, ◌++◌, length}
use Rattle.ca_script.specs.Lines.{AreEach}
use Rattle.ca_script.proofs.element.read_all.Given as goal

-- The words read are these elements; where all words are elements, the words left are.
abbrev pub invariant-loop-words : goal.invariant-loop-words
invariant-loop-words g l = record {
  reads : (xs : List _) → AreEach g.E.Element.says l.words xs → AreEach g.E.Element.says l.fn.words (l.items.items ++ xs);
  leaves : (xs : List _) → AreEach g.E.Element.says l.fn.words xs → (ys : List _) × AreEach g.E.Element.says l.words ys;
}

abbrev pub decreases-loop-words : goal.decreases-loop-words
decreases-loop-words g l = length l.words
