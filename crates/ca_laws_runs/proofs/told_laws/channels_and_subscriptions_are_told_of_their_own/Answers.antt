use Rattle.ca_laws_runs.proofs.ToldRuns.{run-lasting}
use Rattle.ca_laws_runs.proofs.told_laws.channels_and_subscriptions_are_told_of_their_own.Goals as goal

pub returns : goal.returns
returns c = run-lasting
