use Rattle.std.proofs.Common.{◌≡◌, ◌≤◌, ◌++◌, drop, length}
use Rattle.ca_repeat.specs.Fan.{to_others}
use Rattle.ca_repeat.specs.First.{passed}
use Rattle.ca_repeat.proofs.repeater.hand_on.Given as goal

abbrev pub invariant-loop-member : goal.invariant-loop-member
invariant-loop-member l = (l.sends.items ++ to_others (passed l.first l.from.ip l.bytes) l.from (drop l.member-index l.members) ≡ l.initial.sends.items ++ to_others (passed l.first l.from.ip l.bytes) l.from l.members) × (length l.initial.sends.items ≤ length l.sends.items)
