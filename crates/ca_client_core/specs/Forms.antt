-- Vocabulary: what is reported of a channel as the vocabulary has it.
use Rattle.std.specs.Prelude.{Result, Ok, Err}
use Rattle.ca_text.specs.declared.refusal.Refusal.{Refusal}
use Rattle.ca_client_core.specs.declared.channel_state.ChannelState.{ChannelState}
use Rattle.ca_client_core.specs.declared.channel_state.ChannelState.TheVariants as state
use Rattle.ca_model.specs.ChannelState as model

abbrev pub state_of : ChannelState → model.ChannelState
state_of state.Searching = model.Searching
state_of state.Connecting = model.Connecting
state_of state.Creating = model.Creating
state_of (state.Live data_type count rights) = model.Live data_type count rights
state_of state.Leaving = model.Leaving

-- what is answered of a channel
abbrev pub stated : Result ChannelState Refusal → Result model.ChannelState Refusal
stated (Ok s) = Ok (state_of s)
stated (Err e) = Err e
