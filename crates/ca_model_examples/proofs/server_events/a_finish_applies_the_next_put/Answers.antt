use Rattle.ca_model_examples.proofs.ServerHappens.{finish-happens, finishes-refused}
use Rattle.ca_model_examples.proofs.server_events.a_finish_applies_the_next_put.Goals as goal

pub returns : goal.returns
returns c = record { finished = finish-happens; refused = finishes-refused }
