-- Vocabulary: what the code has of a channel as the vocabulary has it.
use Rattle.std.specs.Prelude.{◌≡◌, Bool, false, None, Some, if◌then◌else◌, refl}
use Rattle.ca_client_tables.specs.declared.channel.Native.{Native}
use Rattle.ca_client_tables.specs.declared.channel.Phase.{Phase}
use Rattle.ca_client_tables.specs.declared.channel.Phase.TheVariants as phase
use Rattle.ca_client_tables.specs.declared.channel.Standing.{Standing}
use Rattle.ca_client_tables.specs.declared.channel.Standing.TheVariants as standing
use Rattle.ca_model.specs.Client as client

abbrev pub native_of : Native → client.Native
native_of n = record { sid = n.sid; data_type = n.data_type; count = n.count }

abbrev pub phase_of : Phase → client.Phase
phase_of phase.Connecting = client.Connecting
phase_of (phase.Creating rights) = client.Creating rights
phase_of (phase.Live native rights) = client.Live (native_of native) rights
phase_of phase.Leaving = client.Leaving
phase_of phase.Clearing = client.Clearing
phase_of phase.Doomed = client.Doomed

abbrev pub standing_of : Standing → client.Standing
standing_of standing.Searching = client.Searching
standing_of (standing.On circuit p) = client.On circuit (phase_of p)

-- its caller cleared the channel that is there
abbrev pub cleared_in : client.Standing → Bool
cleared_in client.Searching = false
cleared_in (client.On circuit p) = client.is_cleared p

-- what stands unless it is cleared
pub kept_standing : (s : client.Standing)
    → client.standing_unless_cleared s ≡ (if cleared_in s then None else Some s)
kept_standing client.Searching = refl
kept_standing (client.On circuit p) = refl
