use Rattle.ca_laws_runs.proofs.OnceRuns.{stands-once}
use Rattle.ca_laws_runs.proofs.once_laws.a_request_is_at_one_place.Goals as goal

pub returns : goal.returns
returns c = stands-once
