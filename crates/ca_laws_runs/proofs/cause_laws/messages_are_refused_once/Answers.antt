use Rattle.ca_laws_runs.proofs.Refused.{run-errors-quote, run-refused-once}
use Rattle.ca_laws_runs.proofs.cause_laws.messages_are_refused_once.Goals as goal

pub returns : goal.returns
returns c = record { once = run-refused-once; quote = run-errors-quote }
