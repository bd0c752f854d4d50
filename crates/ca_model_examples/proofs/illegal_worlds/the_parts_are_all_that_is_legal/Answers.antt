use Rattle.ca_model_examples.proofs.Sent.{all-legal, each-legal}
use Rattle.ca_model_examples.proofs.illegal_worlds.the_parts_are_all_that_is_legal.Goals as goal

pub returns : goal.returns
returns c = record { whole = all-legal; parts = each-legal }
