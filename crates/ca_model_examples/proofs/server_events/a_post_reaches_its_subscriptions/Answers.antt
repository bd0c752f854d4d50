use Rattle.ca_model_examples.proofs.ServerHappens.{post-happens, posts-refused}
use Rattle.ca_model_examples.proofs.server_events.a_post_reaches_its_subscriptions.Goals as goal

pub returns : goal.returns
returns c = record { posted = post-happens; refused = posts-refused }
