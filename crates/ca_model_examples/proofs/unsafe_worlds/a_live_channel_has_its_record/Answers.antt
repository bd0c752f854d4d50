use Rattle.ca_model_examples.proofs.Creations.{live-safe, live-after-gone, live-on-nothing, gone-safe, gone-for-nothing, gone-twice}
use Rattle.ca_model_examples.proofs.unsafe_worlds.a_live_channel_has_its_record.Goals as goal

pub returns : goal.returns
returns c = record { live = live-safe; live_on_nothing = live-on-nothing; live_after_gone = live-after-gone; gone = gone-safe; gone_for_nothing = gone-for-nothing; gone_twice = gone-twice }
