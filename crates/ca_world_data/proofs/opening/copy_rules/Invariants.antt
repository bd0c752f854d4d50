use Rattle.std.proofs.Common.{◌≡◌, ◌++◌, drop, map}
use Rattle.ca_world_data.specs.Settings.{rule_of}
use Rattle.ca_world_data.proofs.opening.copy_rules.Given as goal

-- the rules that are left make up the rest
abbrev pub invariant-loop-rule : goal.invariant-loop-rule
invariant-loop-rule l = record { copy : l.copy.items ++ map rule_of (drop l.rule-index l.rules) ≡ map rule_of l.rules }
