use Rattle.ca_laws_parts.proofs.Noticed.{told-done, told-failed}
use Rattle.ca_laws_parts.proofs.writes_in_runs.callers_are_told_what_became_of_writes.Goals as goal

pub returns : goal.returns
returns c = record { done = told-done; failed = told-failed }
