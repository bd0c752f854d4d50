-- Working: a record is removed, on one circuit.
use Rattle.std.specs.Prelude.{ℕ, ◌≡◌, ◌<◌, ◌&&◌, ◌||◌, ◌⊎◌, ◌++◌, Bool, true, not, List, Option}
use Rattle.std.specs.Prelude.{length, map, option_map, take}
use Rattle.std.specs.Str.{bytes_eq}
use Rattle.ca_arena.specs.declared.handle.Handle.{Handle}
use Rattle.ca_arena.specs.Arena.{Place}
use Rattle.ca_ids.specs.Table.{with_changed, with_each}
use Rattle.ca_ids.specs.Wire.{wire_of}
use Rattle.ca_link.specs.Calls.{IsOpen}
use Rattle.ca_link.specs.Link.{LinkState, with_sent}
use Rattle.ca_records.specs.Puts.{Record}
use Rattle.ca_records.specs.Store.{Store}
use Rattle.ca_wire.specs.Fields.{Fields}
use Rattle.ca_wire.specs.Message.{spelled}
use Rattle.ca_wire.specs.Messages.{disconnect}
use Rattle.ca_model.specs.Ends as why
use Rattle.ca_model.specs.Server.{OpenChannel, ServerCircuit, ServerEnd, without_subscriptions}
use Rattle.ca_model.specs.Server as server
use Rattle.ca_model.specs.ServerCalls.{channels_of, disconnects, end_without, is_on, retired}
use Rattle.ca_server_circuit.specs.Clearing.{ArePuts}
use Rattle.ca_server_circuit.specs.Ending.{WithdrawsAll}
use Rattle.ca_server_circuit.specs.Handling.{replied}
use Rattle.ca_server_circuit.specs.Subscribing.{events_of}
use Rattle.ca_server_subscriptions.specs.Subscribed.{HasRoom, is_of_sid}

-- ---- one channel

-- the channel leads to the record of this name, which was not removed
abbrev pub leads_to : List ℕ → Handle × OpenChannel → Bool
leads_to name c = bytes_eq c.1.name name && not c.1.retired

-- the SERVER_DISCONNs of channels
abbrev pub notices : List (Handle × OpenChannel) → List Fields
notices cs = map (λ (c : Handle × OpenChannel). disconnect c.1.cid) cs

-- a channel whose record was removed
abbrev pub without_record : OpenChannel → OpenChannel
without_record c = record c { retired = true }

-- what holds an index, after the removal of a record
abbrev pub retired_in : List ℕ → Option OpenChannel → Option OpenChannel
retired_in name o =
    option_map (λ (c : OpenChannel). record c { retired = c.retired || bytes_eq c.name name }) o

abbrev pub retired_at : List ℕ → Place OpenChannel → Place OpenChannel
retired_at name p = record p { value = retired_in name p.value }

-- ---- one end

-- the end whose channel under this handle is retired, without its subscriptions
abbrev pub without_channel : Handle → ServerEnd → ServerEnd
without_channel h e =
    without_subscriptions (is_of_sid (wire_of h))
    (record e { channels = with_changed without_record h e.channels })

-- the end whose channels to the record of this name are retired without their subscriptions:
-- `end_without` but for the messages
abbrev pub without_channels : List ℕ → ServerEnd → ServerEnd
without_channels name e =
    without_subscriptions (is_on (channels_of name e))
    (record e { channels = with_each (retired name) e.channels })

-- some of these messages wait to be sent, the first ones, but not all
abbrev pub SendsSome : List Fields → LinkState → LinkState → Type 0
SendsSome ms l new = (k : ℕ) × (k < length ms) × (new ≡ with_sent (take k ms) l)

-- Some SERVER_DISCONNs are due, and the first of them wait to be sent, but not all.
abbrev pub TellsSome : List ℕ → ServerEnd → ServerEnd → Type 0
TellsSome name e new =
    (k : ℕ) × (k < length (channels_of name e)) × (new ≡ replied (take k (disconnects name e)) e)

-- ---- one circuit

-- what the removal of a record needs of a circuit beside the records that are left
abbrev pub MayLose : List Record → Handle → ServerCircuit → Type 0
MayLose rs h (server.Open e) = IsOpen e.link × ArePuts h rs e.channels
MayLose rs h (server.Ended w left) = Unit {0}

-- A circuit loses a record: or its end has ended out of memory for a SERVER_DISCONN, and
-- left those before it.
abbrev pub LosesAt : Handle → (name : List ℕ) → ServerCircuit → Store → ServerCircuit → Store
    → Type 0
LosesAt h name (server.Open e) s new t =
    ((new ≡ server.Open (end_without name e)) × HasRoom (events_of (end_without name e)) × (t ≡ s))
    ⊎ ((k : ℕ) × (k < length (channels_of name e))
    × (new ≡ server.Ended why.OutOfMemory (e.link.output ++ spelled (take k (disconnects name e))))
    × WithdrawsAll h s t)
LosesAt h name (server.Ended w left) s new t = (new ≡ server.Ended w left) × (t ≡ s)
