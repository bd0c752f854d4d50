use Rattle.ca_model_examples.proofs.Illegal.{closed-untold, removed-untold}
use Rattle.ca_model_examples.proofs.illegal_worlds.what_must_be_sent.Goals as goal

pub returns : goal.returns
returns c = record { closed = closed-untold; untold = removed-untold }
