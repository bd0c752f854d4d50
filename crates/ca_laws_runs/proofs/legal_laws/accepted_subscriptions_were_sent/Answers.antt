use Rattle.ca_laws_runs.proofs.OnceSentRuns.{is-sent}
use Rattle.ca_laws_runs.proofs.legal_laws.accepted_subscriptions_were_sent.Goals as goal

pub returns : goal.returns
returns c = is-sent
