use Rattle.ca_model_examples.proofs.Uses.{done-safe, failed-safe, done-unmade, failed-made}
use Rattle.ca_model_examples.proofs.unsafe_worlds.a_put_is_told_as_it_went.Goals as goal

pub returns : goal.returns
returns c = record { done = done-safe; failed = failed-safe; done_unmade = done-unmade; failed_made = failed-made }
