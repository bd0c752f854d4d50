use Rattle.ca_laws_runs.proofs.ToldWhole.{run-requests}
use Rattle.ca_laws_runs.proofs.complete_laws.requests_are_told_of_their_own.Goals as goal

pub returns : goal.returns
returns c = run-requests
