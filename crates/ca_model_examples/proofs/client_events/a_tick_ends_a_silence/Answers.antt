use Rattle.ca_model_examples.proofs.ClientEndEvents.{tick-ends, tick-stops}
use Rattle.ca_model_examples.proofs.client_events.a_tick_ends_a_silence.Goals as goal

pub returns : goal.returns
returns c = record { ends = tick-ends; stops = tick-stops }
