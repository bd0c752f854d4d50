use Rattle.ca_model_examples.proofs.Engine.{answers-versions}
use Rattle.ca_model_examples.proofs.server_calls.an_engine_answers.Goals as goal

pub returns : goal.returns
returns c = answers-versions
