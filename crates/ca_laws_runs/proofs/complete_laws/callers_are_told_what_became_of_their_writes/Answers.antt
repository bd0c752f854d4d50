use Rattle.ca_laws_runs.proofs.ToldWrites.{run-done, run-failed}
use Rattle.ca_laws_runs.proofs.complete_laws.callers_are_told_what_became_of_their_writes.Goals as goal

pub returns : goal.returns
returns c = record { done = run-done; failed = run-failed }
