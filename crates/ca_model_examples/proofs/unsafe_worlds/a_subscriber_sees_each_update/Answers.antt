use Rattle.ca_model_examples.proofs.Subscribed.{seen-safe, seen-unread, all-seen-safe, passed-over}
use Rattle.ca_model_examples.proofs.unsafe_worlds.a_subscriber_sees_each_update.Goals as goal

pub returns : goal.returns
returns c = record { seen = seen-safe; unread = seen-unread; all_seen = all-seen-safe; passed_over = passed-over }
