use Rattle.ca_model_examples.proofs.Requests.{lost-safe, completed-twice}
use Rattle.ca_model_examples.proofs.unsafe_worlds.a_read_completes_once.Goals as goal

pub returns : goal.returns
returns c = record { once = lost-safe; twice = completed-twice }
