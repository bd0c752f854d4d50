-- Working: parts of what a search reply does. No clause of a caller needs it.
use Rattle.std.specs.Prelude.{ℕ, ◌≡◌, ◌++◌, ◌-◌, ◌==◌, ◌&&◌, Bool, false, List, [], ◌∷◌, Option}
use Rattle.std.specs.Prelude.{None, Some, Result, Ok, Err, find, if◌then◌else◌, is_some, length}
use Rattle.std.specs.Prelude.{nat_lt, option_and_then, option_map, take, ◌≢◌, ◌⊎◌}
use Rattle.std.specs.declared.alloc.AllocError.{AllocError}
use Rattle.ca_arena.specs.declared.handle.Handle.{Handle}
use Rattle.ca_ids.specs.Table.{IsFull, MayGive, Table, by_wire, held, with_all_held, with_changed}
use Rattle.ca_ids.specs.Wire.{wire_of}
use Rattle.ca_search.specs.Searcher.{with_one}
use Rattle.ca_search.specs.Searches.{paused}
use Rattle.ca_wire.specs.Fields.{Fields}
use Rattle.ca_model.specs.Client.{Channel, Client, ClientCircuit, Connecting, Creating, On}
use Rattle.ca_model.specs.Client.{Searching, Standing, new_circuit}
use Rattle.ca_model.specs.Ends.{Address, same_address}
use Rattle.ca_model.specs.Hears.{Effect, Finds, is_searched}
use Rattle.ca_client_tables.specs.Ends.{cut_in, left_at, queued}
use Rattle.ca_client_tables.specs.declared.finding.Found.{Found}
use Rattle.ca_client_tables.specs.declared.finding.How.{How}
use Rattle.ca_client_tables.specs.declared.finding.How.TheVariants as how

-- it sends or reports something, or makes a circuit wanted
abbrev pub DoesSome : Client → Effect → Type 0
DoesSome old e = (e.sent ≢ []) ⊎ ((e.notices ≢ []) ⊎ (e.core.order ≢ old.order))

-- a circuit goes to this address, under this priority
abbrev pub goes_there : Address → ℕ → Handle × ClientCircuit → Bool
goes_there a priority e = same_address e.1.address a && e.1.priority == priority

-- its handle, and whether it is connected
abbrev pub as_found : Handle × ClientCircuit → Handle × Bool
as_found e = (e.0, is_some e.1.connection)

-- the circuit to this address, under this priority
abbrev pub circuit_in : Address → ℕ → Table ClientCircuit → Option (Handle × Bool)
circuit_in a priority t = option_map as_found (find (goes_there a priority) (held t))

-- this one, if it is that circuit
abbrev pub goes_to : Address → ℕ → Option (Handle × ClientCircuit) → Option (Handle × Bool)
goes_to a priority o =
    option_and_then
    (λ (e : Handle × ClientCircuit). if goes_there a priority e then Some (as_found e) else None) o

-- of the circuit that was found and another one the first by index, if that goes there
abbrev pub first_of : Option (Handle × Bool) → Handle × Bool → Option (Handle × Bool)
first_of None other = Some other
first_of (Some found) other = if nat_lt found.0.index other.0.index then Some found else Some other

abbrev pub first_to : Address → ℕ → Option (Handle × Bool) → Handle × ClientCircuit
    → Option (Handle × Bool)
first_to a priority found e = if goes_there a priority e then first_of found (as_found e) else found

-- the channel of this CID, if it is searched for
abbrev pub searched_in : ℕ → Table Channel → Option (Handle × Channel)
searched_in cid t =
    option_and_then (λ (e : Handle × Channel). if is_searched e.1.standing then Some e else None)
    (by_wire t cid)

-- the tables of a client that a search reply changes, beside its searches
pub record Tables : Type 0 where
  pub channels : Table Channel
  pub circuits : Table ClientCircuit
  pub order : List Handle

abbrev pub tables : Table Channel → Table ClientCircuit → List Handle → Tables
tables channels circuits order =
    record { channels = channels; circuits = circuits; order = order }

abbrev pub tables_of : Client → Tables
tables_of x = record { channels = x.channels; circuits = x.circuits; order = x.order }

-- the client with these
abbrev pub with_tables : Tables → Client → Client
with_tables t x = record x { channels = t.channels; circuits = t.circuits; order = t.order }

-- the same while messages are received: some circuits are still to be opened, each with the
-- handle that it will have
pub record Halfway : Type 0 where
  pub channels : Table Channel
  pub circuits : Table ClientCircuit
  pub opening : List (Handle × ClientCircuit)
  pub order : List Handle

abbrev pub halfway : Table Channel → Table ClientCircuit → List (Handle × ClientCircuit)
    → List Handle → Halfway
halfway channels circuits opening order =
    record { channels = channels; circuits = circuits; opening = opening; order = order }

-- once they are opened
abbrev pub opened : Halfway → Tables
opened t =
    record { channels = t.channels; circuits = with_all_held t.opening t.circuits; order = t.order }

-- the channel is there now
abbrev pub stood : Standing → Handle → Table Channel → Table Channel
stood s h t = with_changed (λ (here : Channel). record here { standing = s }) h t

-- the client that no longer searches for a channel that was found
abbrev pub paused_for : Option Handle → Client → Client
paused_for None x = x
paused_for (Some h) x = record x { searches = with_one paused (wire_of h) x.searches }

-- the channel that was found
abbrev pub channel_of : Option Found → Option Handle
channel_of None = None
channel_of (Some f) = Some f.channel

-- the circuits, those to be opened and their order as before a channel was found on one
abbrev pub circuits_undone : How → Handle → Table ClientCircuit → Table ClientCircuit
circuits_undone how.Waits c t = t
circuits_undone (how.Created n) c t = with_changed (cut_in n) c t
circuits_undone how.Wanted c t = t

abbrev pub last_undone : {T : Type 0} → How → List T → List T
last_undone how.Waits ts = ts
last_undone (how.Created n) ts = ts
last_undone how.Wanted ts = take (length ts - 1) ts

-- the tables as before
abbrev pub found_undone : Found → Halfway → Halfway
found_undone f t = record {
  channels = stood Searching f.channel t.channels;
  circuits = circuits_undone f.how f.circuit t.circuits;
  opening = last_undone f.how t.opening;
  order = last_undone f.how t.order;
}

abbrev pub undone : Option Found → Halfway → Halfway
undone None t = t
undone (Some f) t = found_undone f t

-- without what is still to be opened
abbrev pub unopened : Halfway → Tables
unopened t = record { channels = t.channels; circuits = t.circuits; order = t.order }

-- A search reply that came from this address had its effect, except that this channel
-- is still searched for.
abbrev pub HasFound : Tables → Address → Fields → Option Handle → Tables → Type 0
HasFound old from m found new =
    (x : Client) → tables_of x ≡ old
    → (e : Effect) × Finds x from m e × (e.notices ≡ [])
    × (e.core ≡ paused_for found (with_tables new x))

-- For such a reply memory is asked for.
abbrev pub TakesSome : Tables → Address → Fields → Type 0
TakesSome old from m =
    (x : Client) → tables_of x ≡ old → (e : Effect) × Finds x from m e × DoesSome x e

-- It had its effect; or there was no memory for it, which changed nothing.
abbrev pub FindsIn : Tables → Address → Fields → Result (Option Handle) AllocError → Tables → Type 0
FindsIn old from m (Ok found) new = HasFound old from m found new
FindsIn old from m (Err _) new = (new ≡ old) × TakesSome old from m

-- It had once the circuits are opened, and can be undone; or there was no memory for it,
-- which changed nothing.
abbrev pub FindsOne : Halfway → Address → Fields → Result (Option Found) AllocError → Halfway
    → Type 0
FindsOne old from m (Ok found) new =
    HasFound (opened old) from m (channel_of found) (opened new)
    × (undone found new ≡ old)
    × ((new.opening ≡ old.opening) ⊎ (new.order ≢ old.order))
FindsOne old from m (Err _) new = (new ≡ old) × (old.opening ≡ [] → TakesSome (opened old) from m)

-- A channel waits for a new circuit; or no more can be had; or there was no memory for one.
abbrev pub WantsNew : Halfway → Address → ℕ → Handle → Result (Option Found) AllocError → Halfway
    → Type 0
WantsNew old a priority h (Ok (Some f)) new =
    MayGive (opened old).circuits f.circuit × (f.channel ≡ h) × (f.how ≡ how.Wanted)
    × (new ≡ record {
      channels = stood (On f.circuit Connecting) h old.channels;
      circuits = old.circuits;
      opening = old.opening ++ (f.circuit, new_circuit a priority false) ∷ [];
      order = old.order ++ f.circuit ∷ [];
    })
WantsNew old a priority h (Ok None) new = IsFull (opened old).circuits × (new ≡ old)
WantsNew old a priority h (Err _) new =
    (new ≡ old) × (old.opening ≡ [] → (c : Handle) × MayGive (opened old).circuits c)

-- A channel is created on a circuit by this message; or there was no memory for it.
abbrev pub CreatesIn : Table Channel → Table ClientCircuit → (c h : Handle) → Fields
    → Result (Option Found) AllocError → Table Channel → Table ClientCircuit → Type 0
CreatesIn channels circuits c h m (Ok found) channels' circuits' =
    (found
    ≡ Some (record { channel = h; circuit = c; how = how.Created (length (left_at circuits c)) }))
    × (channels' ≡ stood (On c (Creating 0)) h channels)
    × (circuits' ≡ with_changed (queued m) c circuits)
CreatesIn channels circuits c h m (Err _) channels' circuits' =
    (channels' ≡ channels) × (circuits' ≡ circuits)
