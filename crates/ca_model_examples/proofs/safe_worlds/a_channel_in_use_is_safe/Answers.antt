use Rattle.ca_model_examples.proofs.UsedDue.{used-safe}
use Rattle.ca_model_examples.proofs.safe_worlds.a_channel_in_use_is_safe.Goals as goal

pub returns : goal.returns
returns c = used-safe
