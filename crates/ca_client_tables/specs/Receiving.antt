-- Working: the messages of a datagram, received one after another, and undone. No clause
-- of a caller needs it.
use Rattle.std.specs.Prelude.{ℕ, ◌≡◌, ◌≢◌, ◌==◌, ◌<◌, ◌≤◌, ◌^◌, Bool, List, [], ◌∷◌, Option, Some}
use Rattle.std.specs.Prelude.{None, Result, Ok, Err, Vec, if◌then◌else◌}
use Rattle.std.specs.FinMap as finite
use Rattle.std.specs.Net.Addr.{ipv4_bits}
use Rattle.std.specs.declared.alloc.AllocError.{AllocError}
use Rattle.std.specs.declared.alloc.Global.{Global}
use Rattle.ca_arena.specs.declared.handle.Handle.{Handle}
use Rattle.ca_beacon.specs.Table.{Servers, anomaly, noted, restored, server}
use Rattle.ca_ids.specs.Table.{Table, with_all_held}
use Rattle.ca_ids.specs.Wire.{wire_of}
use Rattle.ca_search.specs.Searcher.{with_all, with_one}
use Rattle.ca_search.specs.Searches as search
use Rattle.ca_wire.specs.Fields.{Fields}
use Rattle.ca_model.specs.Client.{Channel, Client, ClientCircuit}
use Rattle.ca_model.specs.ClientEnds.{Receives, ReceivesAll, beacon_server}
use Rattle.ca_model.specs.Ends.{Address}
use Rattle.ca_model.specs.Hears.{Effect}
use Rattle.ca_client_tables.specs.Finding.{Halfway, Tables, found_undone}
use Rattle.ca_client_tables.specs.declared.beacons.Beacon.{Beacon}
use Rattle.ca_client_tables.specs.declared.receiving.Received.{Received}
use Rattle.ca_client_tables.specs.declared.receiving.Received.TheVariants as received

-- ---- beacons

-- where the server of a beacon is: at the address in it, or where the beacon came from
abbrev pub beacon_host : Address → Fields → ℕ
beacon_host from m = if m.p2 == 0 then from.host else m.p2

-- a beacon's count is a port, or none
abbrev pub IsPort : ℕ → Option ℕ → Type 0
IsPort n (Some port) = (n < 2 ^ 16) × (port ≡ n)
IsPort n None = 2 ^ 16 ≤ n

-- the table without this beacon
abbrev pub forgotten : Beacon → Servers → Servers
forgotten b t = restored t (server (ipv4_bits b.address) b.port) b.before

-- A beacon was heard, and can be undone; or there was no memory for it, which changed nothing.
abbrev pub HearsBeacon : Servers → Address → Fields → Result Beacon AllocError → Servers → Type 0
HearsBeacon old from m (Ok b) new =
    (b.anomaly ≡ anomaly (finite.get old (beacon_server from m)) m.p1)
    × (new ≡ noted old (beacon_server from m) m.p1)
    × (forgotten b new ≡ old)
HearsBeacon old from m (Err _) new = new ≡ old

-- A message of the command RsrvIsUp was heard; one without a port does nothing.
abbrev pub HearsIn : Servers → Address → Fields → Result Received AllocError → Servers → Type 0
HearsIn old from m (Ok (received.Beacon b)) new =
    (m.count < 2 ^ 16) × HearsBeacon old from m (Ok b) new
HearsIn old from m (Ok received.Nothing) new = (2 ^ 16 ≤ m.count) × (new ≡ old)
HearsIn old from m (Ok (received.Found f)) new = ⊥
HearsIn old from m (Err _) new = new ≡ old

-- ---- messages

-- what a datagram changes of a client, beside its searches
pub record Parts : Type 0 where
  pub channels : Table Channel
  pub circuits : Table ClientCircuit
  pub order : List Handle
  pub beacons : Servers

abbrev pub parts : Table Channel → Table ClientCircuit → List Handle → Servers → Parts
parts channels circuits order beacons =
    record { channels = channels; circuits = circuits; order = order; beacons = beacons }

abbrev pub parts_of : Client → Parts
parts_of x =
    record { channels = x.channels; circuits = x.circuits; order = x.order; beacons = x.beacons }

-- the client with these
abbrev pub with_parts : Parts → Client → Client
with_parts p x =
    record x { channels = p.channels; circuits = p.circuits; order = p.order; beacons = p.beacons }

-- the same while messages are received: some circuits are still to be opened
pub record HalfParts : Type 0 where
  pub channels : Table Channel
  pub circuits : Table ClientCircuit
  pub opening : List (Handle × ClientCircuit)
  pub order : List Handle
  pub beacons : Servers

abbrev pub half_parts : Table Channel → Table ClientCircuit → List (Handle × ClientCircuit)
    → List Handle → Servers → HalfParts
half_parts channels circuits opening order beacons =
    record {
      channels = channels;
      circuits = circuits;
      opening = opening;
      order = order;
      beacons = beacons;
    }

-- once they are opened
abbrev pub opened_parts : HalfParts → Parts
opened_parts p =
    record {
      channels = p.channels;
      circuits = with_all_held p.opening p.circuits;
      order = p.order;
      beacons = p.beacons;
    }

-- without them
abbrev pub unopened_parts : HalfParts → Parts
unopened_parts p =
    record { channels = p.channels; circuits = p.circuits; order = p.order; beacons = p.beacons }

abbrev pub tables_in : HalfParts → Halfway
tables_in p =
    record { channels = p.channels; circuits = p.circuits; opening = p.opening; order = p.order }

-- these parts with other tables
abbrev pub in_tables : Halfway → HalfParts → HalfParts
in_tables t p =
    record {
      channels = t.channels;
      circuits = t.circuits;
      opening = t.opening;
      order = t.order;
      beacons = p.beacons;
    }

-- the parts as before a message was received
abbrev pub received_undone : Received → HalfParts → HalfParts
received_undone received.Nothing p = p
received_undone (received.Found f) p = in_tables (found_undone f (tables_in p)) p
received_undone (received.Beacon b) p = record p { beacons = forgotten b p.beacons }

-- as before several were, the last of which is undone first
abbrev pub all_undone : List Received → HalfParts → HalfParts
all_undone [] p = p
all_undone (d ∷ ds) p = received_undone d (all_undone ds p)

-- all begin again, if there was an anomaly
abbrev pub boosted_if : Bool → ℕ → List (ℕ × search.Channel) → List (ℕ × search.Channel)
boosted_if b moment es = if b then with_all (search.boosted moment) es else es

-- the searches after a message: that for a channel that was found is paused, and after an anomaly
-- all others begin again
abbrev pub settled_in : ℕ → Received → List (ℕ × search.Channel) → List (ℕ × search.Channel)
settled_in moment received.Nothing es = es
settled_in moment (received.Found f) es = with_one search.paused (wire_of f.channel) es
settled_in moment (received.Beacon b) es = boosted_if b.anomaly moment es

-- after several, in order
abbrev pub all_settled_in : ℕ → List Received → List (ℕ × search.Channel)
    → List (ℕ × search.Channel)
all_settled_in moment [] es = es
all_settled_in moment (d ∷ ds) es = all_settled_in moment ds (settled_in moment d es)

-- the client whose searches follow
abbrev pub settled : Received → Client → Client
settled d x = record x { searches = settled_in x.moment d x.searches }

abbrev pub all_settled : List Received → Client → Client
all_settled ds x = record x { searches = all_settled_in x.moment ds x.searches }

-- A message from this address had its effect, except that the searches are still to follow.
abbrev pub HasReceived : Parts → Address → Fields → Received → Parts → Type 0
HasReceived old from m d new =
    (x : Client) → parts_of x ≡ old
    → (e : Effect) × Receives from x m e × (e.notices ≡ [])
    × (e.core ≡ settled d (with_parts new x))

-- It had once the circuits are opened, and can be undone; or there was no memory for it,
-- which changed nothing.
abbrev pub ReceivesIn : HalfParts → Address → Fields → Result Received AllocError → HalfParts
    → Type 0
ReceivesIn old from m (Ok d) new =
    HasReceived (opened_parts old) from m d (opened_parts new) × (received_undone d new ≡ old)
ReceivesIn old from m (Err _) new = new ≡ old

-- The circuits are opened; or there was no memory for them, and all that was received is undone.
abbrev pub OpensOrUndoes : HalfParts → Vec Received Global → Result (Vec Received Global) AllocError
    → Parts → Type 0
OpensOrUndoes old done (Ok ds) new = (ds ≡ done) × (new ≡ opened_parts old)
OpensOrUndoes old done (Err _) new =
    (old.opening ≢ []) × (new ≡ unopened_parts (all_undone done.items old))

-- These messages had their effects, one after another, except that the searches
-- are still to follow.
abbrev pub HaveReceived : Parts → Address → List Fields → List Received → Parts → Type 0
HaveReceived old from ms ds new =
    (x : Client) → parts_of x ≡ old
    → (e : Effect) × ReceivesAll from x ms e × (e.notices ≡ [])
    × (e.core ≡ all_settled ds (with_parts new x))
