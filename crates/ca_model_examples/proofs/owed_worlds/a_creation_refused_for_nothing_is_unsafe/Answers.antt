use Rattle.ca_model_examples.proofs.RefusedCreation.{never-refused-creation}
use Rattle.ca_model_examples.proofs.owed_worlds.a_creation_refused_for_nothing_is_unsafe.Goals as goal

pub returns : goal.returns
returns c = never-refused-creation
