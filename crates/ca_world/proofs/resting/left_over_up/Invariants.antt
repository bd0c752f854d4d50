use Rattle.std.proofs.Common.{◌≡◌, ◌-◌, drop}
use Rattle.ca_world.specs.Resting.{bytes_up}
use Rattle.ca_world.proofs.resting.left_over_up.Given as goal

-- the messages that are left take off the rest
abbrev pub invariant-loop-sent : goal.invariant-loop-sent
invariant-loop-sent l = record { left : l.left - bytes_up (drop l.sent-index l.messages) ≡ l.waiting - bytes_up l.messages }
