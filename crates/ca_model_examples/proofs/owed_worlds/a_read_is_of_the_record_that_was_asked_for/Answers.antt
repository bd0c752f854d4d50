use Rattle.ca_model_examples.proofs.OwnValue.{is-own, never-of-another}
use Rattle.ca_model_examples.proofs.owed_worlds.a_read_is_of_the_record_that_was_asked_for.Goals as goal

pub returns : goal.returns
returns c = record { own = is-own; of_another = never-of-another }
