use Rattle.ca_model_examples.proofs.Moved.{moved-legal, moved-safe}
use Rattle.ca_model_examples.proofs.safe_worlds.a_channel_that_moves_to_an_earlier_circuit_is_safe_and_legal.Goals as goal

pub returns : goal.returns
returns c = record { safe = moved-safe; legal = moved-legal }
