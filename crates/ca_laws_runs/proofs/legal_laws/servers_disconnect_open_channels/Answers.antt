use Rattle.ca_laws_runs.proofs.LegalRemovals.{run-disconnects}
use Rattle.ca_laws_runs.proofs.legal_laws.servers_disconnect_open_channels.Goals as goal

pub returns : goal.returns
returns c = run-disconnects
