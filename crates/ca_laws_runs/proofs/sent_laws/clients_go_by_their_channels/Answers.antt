use Rattle.ca_laws_runs.proofs.LegalCut.{run-channels}
use Rattle.ca_laws_runs.proofs.sent_laws.clients_go_by_their_channels.Goals as goal

pub returns : goal.returns
returns c = run-channels
