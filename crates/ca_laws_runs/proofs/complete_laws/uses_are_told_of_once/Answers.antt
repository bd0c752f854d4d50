use Rattle.ca_laws_runs.proofs.ToldTwice.{run-told-once}
use Rattle.ca_laws_runs.proofs.complete_laws.uses_are_told_of_once.Goals as goal

pub returns : goal.returns
returns c = run-told-once
