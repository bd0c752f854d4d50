use Rattle.ca_model_examples.proofs.Cancelled.{cancelled-safe, confirmed-another}
use Rattle.ca_model_examples.proofs.Subscribed.{sub-safe, sub-repeated, sub-queued-nothing, sub-another-value, sub-lost, sub-removed, update-of-refused}
use Rattle.ca_model_examples.proofs.unsafe_worlds.updates_follow_their_record.Goals as goal

pub returns : goal.returns
returns c = record { followed = sub-safe; repeated = sub-repeated; of_no_post = sub-queued-nothing; another_value = sub-another-value; none = sub-lost; removed = sub-removed; refused = update-of-refused; cancelled = cancelled-safe; confirmed_another = confirmed-another }
