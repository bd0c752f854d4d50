use Rattle.ca_laws_runs.proofs.AddsAnew.{run-adds-renewed}
use Rattle.ca_laws_runs.proofs.legal_laws.live_channels_are_subscribed_to.Goals as goal

pub returns : goal.returns
returns c = run-adds-renewed
