-- Vocabulary: what a client reports of a channel (section "Channels").
use Rattle.std.specs.Prelude.{ℕ, Option, Some, None, Result, Ok, Err}
use Rattle.ca_text.specs.declared.refusal.Refusal.{Refusal}
use Rattle.ca_text.specs.declared.refusal.Refusal.TheVariants as refusal
use Rattle.ca_arena.specs.declared.handle.Handle.{Handle}
use Rattle.ca_model.specs.Client.{Client, On, Phase, Standing, standing_at}
use Rattle.ca_model.specs.Client as phase

-- A channel is searched for, waits for its circuit, is being created, or has lost its record; or it
-- is live, with its native type, its greatest count and its access rights.
pub data ChannelState : Type 0 where
  Searching Connecting Creating Leaving : ChannelState
  Live : ℕ → ℕ → ℕ → ChannelState

-- of a channel that is there; of one that was cleared nothing is reported
abbrev pub state_in : Option Standing → Result ChannelState Refusal
state_in None = Err refusal.StaleHandle
state_in (Some phase.Searching) = Ok Searching
state_in (Some (On c phase.Connecting)) = Ok Connecting
state_in (Some (On c (phase.Creating rights))) = Ok Creating
state_in (Some (On c (phase.Live n rights))) = Ok (Live n.data_type n.count rights)
state_in (Some (On c phase.Leaving)) = Ok Leaving
state_in (Some (On c phase.Clearing)) = Err refusal.StaleHandle
state_in (Some (On c phase.Doomed)) = Err refusal.StaleHandle

-- `channel_state`: where a channel is
abbrev pub channel_state : Client → Handle → Result ChannelState Refusal
channel_state x h = state_in (standing_at x h)
