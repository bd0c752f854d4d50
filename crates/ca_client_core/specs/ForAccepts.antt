-- Vocabulary: what a recorder of histories asks of a client before a circuit is connected.
use Rattle.std.specs.Prelude.{ℕ, ◌++◌, List, [], Option, Some, None, filter_map, if◌then◌else◌, map}
use Rattle.std.specs.Prelude.{option_to_list}
use Rattle.ca_arena.specs.declared.handle.Handle.{Handle}
use Rattle.ca_model.specs.Answers.{Sending}
use Rattle.ca_model.specs.Client.{Channel, Client, ClientCircuit, is_on_in}
use Rattle.ca_model.specs.ClientEnds.{creations, is_connecting, of_circuit, set_up, unconnected}
use Rattle.ca_model.specs.Hears.{create_sent}
use Rattle.ca_client_tables.specs.Connecting.{greeting}

-- what is sent once this circuit is connected, if it is not yet: the set-up, and then the
-- CREATE_CHANs of the channels that wait for it
abbrev pub sent_once_connected : Client → Handle → Option ClientCircuit → List Sending
sent_once_connected x c None = []
sent_once_connected x c (Some d) = set_up x.peer c d ++ creations c x

abbrev pub connecting_sent : Client → Handle → List Sending
connecting_sent x c = sent_once_connected x c (unconnected x c)

-- the set-up of a circuit under this priority, by this user at this host
abbrev pub greeting_sent : Handle → ℕ → List ℕ → List ℕ → List Sending
greeting_sent c priority user host = map (of_circuit c) (greeting priority user host)

-- the CREATE_CHAN of a channel, if it waits for this circuit
abbrev pub creation_sent : Handle → Handle × Channel → Option Sending
creation_sent c e = if is_on_in is_connecting c e.1 then Some (create_sent c e.0 e.1) else None

-- those of the channels among these
abbrev pub creations_among : Handle → List (Handle × Channel) → List Sending
creations_among c es = filter_map (creation_sent c) es

-- that of the channel at one index, if there is one
abbrev pub creations_of_one : Handle → Option (Handle × Channel) → List Sending
creations_of_one c o = creations_among c (option_to_list o)
