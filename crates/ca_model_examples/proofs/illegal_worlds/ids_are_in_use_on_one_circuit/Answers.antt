use Rattle.ca_model_examples.proofs.Illegal.{cids-apart, cids-ended, cids-later, cids-shared}
use Rattle.ca_model_examples.proofs.illegal_worlds.ids_are_in_use_on_one_circuit.Goals as goal

pub returns : goal.returns
returns c = record { apart = cids-apart; apart_later = cids-later; shared = cids-shared; ended = cids-ended }
