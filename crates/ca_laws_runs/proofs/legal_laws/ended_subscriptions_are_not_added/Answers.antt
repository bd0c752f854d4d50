use Rattle.ca_laws_runs.proofs.LegalEnded.{run-none-ended}
use Rattle.ca_laws_runs.proofs.legal_laws.ended_subscriptions_are_not_added.Goals as goal

pub returns : goal.returns
returns c = run-none-ended
