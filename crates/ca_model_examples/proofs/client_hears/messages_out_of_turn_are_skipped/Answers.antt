use Rattle.ca_model_examples.proofs.ClientHears.{out-of-turn}
use Rattle.ca_model_examples.proofs.client_hears.messages_out_of_turn_are_skipped.Goals as goal

pub returns : goal.returns
returns c = out-of-turn
