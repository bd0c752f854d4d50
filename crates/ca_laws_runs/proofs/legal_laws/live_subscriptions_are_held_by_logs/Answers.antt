use Rattle.ca_laws_runs.proofs.HeldLogs.{run-held-logs}
use Rattle.ca_laws_runs.proofs.legal_laws.live_subscriptions_are_held_by_logs.Goals as goal

pub returns : goal.returns
returns c = run-held-logs
