use Rattle.ca_laws_runs.proofs.FaceRuns.{run-settings}
use Rattle.ca_laws_runs.proofs.knew_laws.servers_keep_their_settings.Goals as goal

pub returns : goal.returns
returns c = run-settings
