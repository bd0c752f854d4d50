use Rattle.ca_model_examples.proofs.Echoes.{echo-safe, invented, echoes-safe, out-of-step}
use Rattle.ca_model_examples.proofs.unsafe_worlds.an_echo_is_answered_in_its_step.Goals as goal

pub returns : goal.returns
returns c = record { answered = echo-safe; invented = invented; both = echoes-safe; out_of_step = out-of-step }
