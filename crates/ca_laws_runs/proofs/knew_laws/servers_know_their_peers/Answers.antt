use Rattle.ca_laws_runs.proofs.FaceRuns.{run-know-faces}
use Rattle.ca_laws_runs.proofs.knew_laws.servers_know_their_peers.Goals as goal

pub returns : goal.returns
returns c = run-know-faces
