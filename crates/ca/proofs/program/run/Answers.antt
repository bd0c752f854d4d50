use Rattle.std.proofs.Common.{Some, inl, refl, rules}
use Rattle.ca.specs.declared.line.CommandLine.TheVariants.{Repeater}
use Rattle.ca.proofs.program.run.Goals as goal

pub returns-in-Ok-Some-Repeater : goal.returns-in-Ok-Some-Repeater
returns-in-Ok-Some-Repeater g c =
    inl (Some (Repeater c.in-Ok-Some-Repeater.line), search rules, (refl, c.repeater_bound.ensures.quiet, (c.bind.result, c.repeater_bound.ensures.repeats)))
