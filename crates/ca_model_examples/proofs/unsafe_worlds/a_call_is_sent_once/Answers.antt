use Rattle.ca_model_examples.proofs.Requests.{read-safe, sent-as-a-write, called-twice, not-sent, sent-twice}
use Rattle.ca_model_examples.proofs.unsafe_worlds.a_call_is_sent_once.Goals as goal

pub returns : goal.returns
returns c = record { sent = read-safe; as_a_write = sent-as-a-write; called_twice = called-twice; never_sent = not-sent; sent_twice = sent-twice }
