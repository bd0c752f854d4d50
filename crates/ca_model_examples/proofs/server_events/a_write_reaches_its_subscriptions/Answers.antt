use Rattle.ca_model_examples.proofs.ServerHappens.{write-happens, pump-happens}
use Rattle.ca_model_examples.proofs.server_events.a_write_reaches_its_subscriptions.Goals as goal

pub returns : goal.returns
returns c = record { step = write-happens; pump = pump-happens }
