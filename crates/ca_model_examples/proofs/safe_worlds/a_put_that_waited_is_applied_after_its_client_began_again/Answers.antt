use Rattle.ca_model_examples.proofs.WaitedRest.{waited-safe}
use Rattle.ca_model_examples.proofs.WaitedLegal.{waited-legal}
use Rattle.ca_model_examples.proofs.safe_worlds.a_put_that_waited_is_applied_after_its_client_began_again.Goals as goal

pub returns : goal.returns
returns c = record { safe = waited-safe; legal = waited-legal }
