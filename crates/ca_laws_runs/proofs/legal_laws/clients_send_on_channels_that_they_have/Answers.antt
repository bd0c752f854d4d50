use Rattle.ca_laws_runs.proofs.LegalRead.{run-channels}
use Rattle.ca_laws_runs.proofs.legal_laws.clients_send_on_channels_that_they_have.Goals as goal

pub returns : goal.returns
returns c = run-channels
