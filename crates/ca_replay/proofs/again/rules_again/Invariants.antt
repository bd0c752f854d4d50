use Rattle.std.proofs.Common.{◌≡◌, take}
use Rattle.std.specs.Prelude.{map}
use Rattle.ca_world_data.specs.Settings.{rule_of}
use Rattle.ca_replay.proofs.again.rules_again.Given as goal

abbrev pub invariant-loop-rule : goal.invariant-loop-rule
invariant-loop-rule l = map rule_of l.all.items ≡ map rule_of (take l.rule-index l.rules)
