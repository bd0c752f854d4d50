use Rattle.ca_laws_runs.proofs.AddedSince.{run-added-renewed}
use Rattle.ca_laws_runs.proofs.legal_laws.live_subscriptions_were_added.Goals as goal

pub returns : goal.returns
returns c = run-added-renewed
