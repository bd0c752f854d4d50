use Rattle.ca_laws_runs.proofs.AllCalled.{run-called}
use Rattle.ca_laws_runs.proofs.legal_laws.what_a_client_sends_was_called.Goals as goal

pub returns : goal.returns
returns c = run-called
