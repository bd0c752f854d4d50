use Rattle.ca_model_examples.proofs.Unread.{unread-acts}
use Rattle.ca_model_examples.proofs.safe_worlds.a_channel_is_live_until_its_disconnection_is_read.Goals as goal

pub returns : goal.returns
returns c = unread-acts
