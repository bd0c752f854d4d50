use Rattle.ca_model_examples.proofs.Crossed.{sees-crossed}
use Rattle.ca_model_examples.proofs.safe_worlds.updates_of_two_circuits_may_cross.Goals as goal

pub returns : goal.returns
returns c = sees-crossed
