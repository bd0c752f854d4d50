use Rattle.std.proofs.Common.{◌≡◌, drop}
use Rattle.ca_records.specs.Rules.{rights}
use Rattle.ca_records.proofs.rules.rights.Given as goal

abbrev pub invariant-loop-rule : goal.invariant-loop-rule
invariant-loop-rule l = rights (drop l.rule-index l.rules) l.user l.host l.name ≡ rights l.rules l.user l.host l.name
