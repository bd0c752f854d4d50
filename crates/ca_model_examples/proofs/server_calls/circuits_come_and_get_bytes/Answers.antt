use Rattle.ca_model_examples.proofs.ServerAnswers.{accepts-first, accepts-not-so, gives-bytes, sends-bytes}
use Rattle.ca_model_examples.proofs.server_calls.circuits_come_and_get_bytes.Goals as goal

pub returns : goal.returns
returns c = record { accepts = accepts-first; accepts_not_so = accepts-not-so; gives = gives-bytes; sends = sends-bytes }
