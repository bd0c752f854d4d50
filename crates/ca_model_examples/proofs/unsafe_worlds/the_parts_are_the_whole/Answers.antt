use Rattle.ca_model_examples.specs.Worlds.{AnyDue}
use Rattle.ca_model_examples.proofs.Quiet.{parts, steps-implied, whole}
use Rattle.ca_model_examples.proofs.unsafe_worlds.the_parts_are_the_whole.Goals as goal

pub returns : goal.returns
returns c = record { whole = whole AnyDue; parts = parts AnyDue; implied = steps-implied AnyDue }
