-- Vocabulary: the state of a client, and the changes that its calls share (sections "Channels"
-- and "Virtual Circuit").
use Rattle.std.specs.Prelude.{ℕ, ◌==◌, ◌&&◌, ◌++◌, Bool, true, false, not, List, [], ◌∷◌, Option}
use Rattle.std.specs.Prelude.{Some, None, filter, filter_map, find, fold, if◌then◌else◌, map, max}
use Rattle.std.specs.Prelude.{option_and_then, option_map, unwrap_or}
use Rattle.ca_dbr.specs.declared.value.Outcome.TheVariants as outcome
use Rattle.ca_arena.specs.declared.handle.Handle.{Handle}
use Rattle.ca_ids.specs.Table.{Table, by_wire, held, same_handle, under, with_changed, with_freed}
use Rattle.ca_ids.specs.Wire.{wire_of}
use Rattle.ca_beacon.specs.Table.{Servers}
use Rattle.ca_link.specs.Link.{LinkState, with_sent}
use Rattle.ca_search.specs.Searches as search
use Rattle.ca_search.specs.Searcher.{with_one, without}
use Rattle.ca_requests.specs.Requests.{Request, in_order_of_issue, was_sent_on}
use Rattle.ca_requests.specs.Requests as request
use Rattle.ca_monitor.specs.ReadRun.{ReadRun}
use Rattle.ca_monitor.specs.Subscriptions.{Subscription}
use Rattle.ca_monitor.specs.Subscriptions as monitor
use Rattle.ca_model.specs.Ends.{Address, Peer, Why, same_address}
use Rattle.ca_model.specs.Answers.{Closing, Notice, Sending}
use Rattle.ca_model.specs.Answers as notice

-- ---- channels

-- what the reply to a CREATE_CHAN says of a channel: its SID, its native type and its greatest
-- count ("CA_PROTO_CREATE_CHAN")
pub record Native : Type 0 where
  pub sid : ℕ
  pub data_type : ℕ
  pub count : ℕ

-- How far a channel is on its circuit. It waits for the circuit to be connected; it is being
-- created, with the access rights that came so far, or is live, with those that came last. Its
-- record was removed (Leaving), or its caller cleared it (Clearing), and its clear is not answered.
-- Or its caller cleared it while it was being created (Doomed).
pub data Phase : Type 0 where
  Connecting : Phase
  Creating : ℕ → Phase
  Live : Native → ℕ → Phase
  Leaving Clearing Doomed : Phase

-- a channel is searched for, or it is on a circuit
pub data Standing : Type 0 where
  Searching : Standing
  On : Handle → Phase → Standing

-- a channel as its caller opened it, and where it is
pub record Channel : Type 0 where
  pub name : List ℕ
  pub priority : ℕ
  pub standing : Standing

-- ---- circuits

-- the client's end of a connected circuit: its bytes, and its reads in a row
pub record Connection : Type 0 where
  pub link : LinkState
  pub run : ReadRun

-- A circuit to an address, under a priority: it is a name server's, or channels want it. It has an
-- end once it is connected.
pub record ClientCircuit : Type 0 where
  pub address : Address
  pub priority : ℕ
  pub is_name : Bool
  pub connection : Option Connection

-- A client: how it names itself; the servers to which searches go in datagrams; the moment given
-- last; its tables of CIDs, IOIDs and subscription ids; its circuits, and these in order: those of
-- name servers, in the order of their list, and then the others, in the order in which they came to
-- be wanted; its open requests, in order of issue; the channels that it searches, by CID; and the
-- beacons that it heard.
pub record Client : Type 0 where
  pub peer : Peer
  pub servers : List Address
  pub moment : ℕ
  pub channels : Table Channel
  pub requests : Table Request
  pub subscriptions : Table Subscription
  pub circuits : Table ClientCircuit
  pub order : List Handle
  pub issued : List Handle
  pub searches : List (ℕ × search.Channel)
  pub beacons : Servers

-- the moment that counts: an earlier one than the last counts as that
abbrev pub later : ℕ → Client → ℕ
later now x = max x.moment now

-- a circuit that is wanted, and not connected
abbrev pub new_circuit : Address → ℕ → Bool → ClientCircuit
new_circuit address priority is_name =
    record { address = address; priority = priority; is_name = is_name; connection = None }

-- ---- what is where

-- how far a channel is on this circuit, if it is on it
abbrev pub phase_on : Handle → Standing → Option Phase
phase_on c Searching = None
phase_on c (On d p) = if same_handle d c then Some p else None

-- the channel of a CID, and how far it is on this circuit
abbrev pub channel_on : Client → Handle → ℕ → Option (Handle × Phase)
channel_on x c cid =
    option_and_then
    (λ (e : Handle × Channel). option_map (λ (p : Phase). (e.0, p)) (phase_on c e.1.standing))
    (by_wire x.channels cid)

-- its caller cleared it
abbrev pub is_cleared : Phase → Bool
is_cleared Clearing = true
is_cleared Doomed = true
is_cleared p = false

-- it is live
abbrev pub is_live : Phase → Bool
is_live (Live n rights) = true
is_live p = false

-- a channel is on this circuit, and the test names its phase there
abbrev pub is_on_in : (Phase → Bool) → Handle → Channel → Bool
is_on_in test c here = unwrap_or (option_map test (phase_on c here.standing)) false

-- a channel's handle names it until its caller clears it
abbrev pub standing_unless_cleared : Standing → Option Standing
standing_unless_cleared Searching = Some Searching
standing_unless_cleared (On c p) = if is_cleared p then None else Some (On c p)

-- where the channel of this handle is; a stale handle names none
abbrev pub standing_at : Client → Handle → Option Standing
standing_at x h =
    option_and_then (λ (here : Channel). standing_unless_cleared here.standing) (under x.channels h)

-- the end of this circuit, if it is connected
abbrev pub connection_at : Client → Handle → Option Connection
connection_at x c = option_and_then (λ (d : ClientCircuit). d.connection) (under x.circuits c)

-- the bytes that wait to be sent on a circuit
abbrev pub out_bytes : Client → Handle → List ℕ
out_bytes x c = unwrap_or (option_map (λ (e : Connection). e.link.output) (connection_at x c)) []

-- the circuit to this address, under this priority
abbrev pub circuit_to : Address → ℕ → Client → Option (Handle × ClientCircuit)
circuit_to address priority x =
    find (λ (e : Handle × ClientCircuit). same_address e.1.address address
    && e.1.priority == priority) (held x.circuits)

-- ---- changes

-- the client with this done to the end of a circuit that is connected
abbrev pub on_connection : (Connection → Connection) → Handle → Client → Client
on_connection f c x =
    record x {
      circuits = with_changed
          (λ (d : ClientCircuit). record d { connection = option_map f d.connection }) c x.circuits;
    }

-- one more message waits on its circuit
abbrev pub with_one_sent : Client → Sending → Client
with_one_sent x s =
    on_connection
    (λ (e : Connection). record e { link = with_sent (s.message ∷ []) e.link }) s.circuit x

-- these messages wait on their circuits, after the others
abbrev pub sending : List Sending → Client → Client
sending sent x = fold with_one_sent x sent

-- the channel is there now
abbrev pub with_standing : Standing → Handle → Client → Client
with_standing s h x =
    record x {
      channels = with_changed
          (λ (here : Channel). record here { standing = s }) h x.channels;
    }

-- the channel was found, and is now on a circuit: it is not searched for
abbrev pub found_on : Handle → Phase → Handle → Client → Client
found_on c p h x =
    let there : Client = with_standing (On c p) h x in
    record there { searches = with_one search.paused (wire_of h) x.searches }

-- the channel is searched for again, as from the beginning
abbrev pub searched_again : Client → Handle → Client
searched_again x h =
    let there : Client = with_standing Searching h x in
    record there { searches = with_one (search.resumed x.moment) (wire_of h) x.searches }

-- Nothing has the CID of this channel.
abbrev pub without_channel : Client → Handle → Client
without_channel x h =
    record x { channels = with_freed h x.channels; searches = without (wire_of h) x.searches }

-- Nothing has the handle of this circuit.
abbrev pub without_circuit : Handle → Client → Client
without_circuit c x =
    record x {
      circuits = with_freed c x.circuits;
      order = filter (λ (d : Handle). not (same_handle d c)) x.order;
    }

-- this circuit is not connected any more
abbrev pub disconnected : Handle → Client → Client
disconnected c x =
    record x {
      circuits = with_changed
          (λ (d : ClientCircuit). record d { connection = None }) c x.circuits;
    }

-- of a circuit that has ended nothing is kept, but a name server's is wanted again
abbrev pub let_go : Handle → ClientCircuit → Client → Client
let_go c d x = if d.is_name then disconnected c x else without_circuit c x

-- ---- requests

-- the client with these requests, of which those that were issued are still in their
-- order while they are open
abbrev pub with_requests : Table Request → Client → Client
with_requests t x =
    record x { requests = t; issued = in_order_of_issue (λ (q : Request). true) t x.issued }

-- ---- an end ends

-- Disconnected, for each open request that the test names, in order of issue
abbrev pub disconnections : (Request → Bool) → Client → List Notice
disconnections which x =
    map (λ (q : Handle). notice.Completed q outcome.Disconnected)
    (in_order_of_issue which x.requests x.issued)

-- the channels that are on this circuit in a phase that the test names, in order of index
abbrev pub channels_on : (Phase → Bool) → Handle → Client → List Handle
channels_on test c x =
    filter_map (λ (e : Handle × Channel). if is_on_in test c e.1 then Some e.0 else None)
    (held x.channels)

-- What a client reports when its end of a circuit ends: its requests complete with Disconnected, in
-- order of issue, and then each live channel is lost, in order of index.
abbrev pub farewell : Handle → Client → List Notice
farewell c x = disconnections (was_sent_on c) x ++ map notice.Lost (channels_on is_live c x)

-- the answer to that end
abbrev pub closing : Why → Handle → Client → Closing
closing why c x = record { why = why; notices = farewell c x; left = out_bytes x c }

-- the IOIDs of a circuit's requests are free, and so are the subscription ids that drain on it
abbrev pub without_ids : Handle → Client → Client
without_ids c x =
    with_requests (request.circuit_gone c x.requests)
    (record x { subscriptions = monitor.circuit_gone c x.subscriptions })

-- The channels of a circuit that has ended: those that were cleared are gone, the others
-- are searched for again.
abbrev pub channels_ended : Handle → Client → Client
channels_ended c x =
    fold searched_again (fold without_channel x (channels_on is_cleared c x))
    (channels_on (λ (p : Phase). not (is_cleared p)) c x)

-- The end of this circuit has ended: its channels are searched for again, its ids are free,
-- and subscriptions stay.
abbrev pub ended : Handle → Client → Client
ended c x =
    unwrap_or
    (option_map (λ (d : ClientCircuit). let_go c d (channels_ended c (without_ids c x)))
    (under x.circuits c)) x
