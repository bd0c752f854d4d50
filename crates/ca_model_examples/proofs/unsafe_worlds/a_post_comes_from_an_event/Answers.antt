use Rattle.ca_model_examples.proofs.Posting.{another-post, posted-again, posted-once, unposted}
use Rattle.ca_model_examples.proofs.unsafe_worlds.a_post_comes_from_an_event.Goals as goal

pub returns : goal.returns
returns c = record { posted = posted-once; unposted = unposted; another_value = another-post; twice = posted-again }
