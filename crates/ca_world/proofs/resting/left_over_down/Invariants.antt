use Rattle.std.proofs.Common.{◌≡◌, ◌-◌, drop}
use Rattle.ca_world.specs.Resting.{bytes_down}
use Rattle.ca_world.proofs.resting.left_over_down.Given as goal

-- the messages that are left take off the rest
abbrev pub invariant-loop-told : goal.invariant-loop-told
invariant-loop-told l = record { left : l.left - bytes_down (drop l.told-index l.messages) ≡ l.waiting - bytes_down l.messages }
