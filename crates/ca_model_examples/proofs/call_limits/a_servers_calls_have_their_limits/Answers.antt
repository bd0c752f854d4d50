use Rattle.ca_model_examples.proofs.Limits.{counts-present, disconnects-once, posts-not-so}
use Rattle.ca_model_examples.proofs.call_limits.a_servers_calls_have_their_limits.Goals as goal

pub returns : goal.returns
returns c = record { posts = posts-not-so; once = disconnects-once; count = counts-present }
