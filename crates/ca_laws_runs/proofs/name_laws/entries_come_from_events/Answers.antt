use Rattle.ca_laws_runs.proofs.OriginsRuns.{run-traced}
use Rattle.ca_laws_runs.proofs.name_laws.entries_come_from_events.Goals as goal

pub returns : goal.returns
returns c = run-traced
