-- Working: a record is removed, in the table of circuits.
use Rattle.std.specs.Prelude.{ℕ, ◌≡◌, ◌<◌, ◌⊎◌, Bool, true, List, Some, None, length, slice_get}
use Rattle.ca_arena.specs.declared.handle.Handle.{Handle}
use Rattle.ca_ids.specs.Table.{Table, under, with_changed, with_each}
use Rattle.ca_records.specs.declared.puts.Put.{Put}
use Rattle.ca_records.specs.Puts.{Record, withdrawn}
use Rattle.ca_records.specs.Store.{Store, records_of}
use Rattle.ca_text.specs.Place.{At}
use Rattle.ca_model.specs.Server.{ServerCircuit, ServerEnd}
use Rattle.ca_model.specs.Server as server
use Rattle.ca_model.specs.ServerCalls.{channels_of, circuit_without}
use Rattle.ca_server_circuit.specs.Subscribing.{events_of}
use Rattle.ca_server_subscriptions.specs.Subscribed.{HasRoom}
use Rattle.ca_server_watchers.specs.Watching.{Watched, watching}
use Rattle.ca_server_circuit.specs.Removing.{LosesAt, MayLose}

-- what the removal of a record needs of all circuits
abbrev pub MayAllLose : List Record → Table ServerCircuit → Type 0
MayAllLose rs t = (h : Handle) (c : ServerCircuit) → under t h ≡ Some c → MayLose rs h c

-- the same for the circuit of a handle
abbrev pub MayLoseIn : List Record → Handle → Table ServerCircuit → Type 0
MayLoseIn rs h t = (c : ServerCircuit) → under t h ≡ Some c → MayLose rs h c

-- the same for the one at a place of the list of those that lead to the record of this name
abbrev pub MayLoseNext : List Record → (name : List ℕ) → (place : ℕ) → Watched → Table ServerCircuit
    → Type 0
MayLoseNext rs name place l t = (h : Handle) → At (watching l name) place h → MayLoseIn rs h t

-- each open end has room in its queues
abbrev pub HaveRoom : Table ServerCircuit → Type 0
HaveRoom t = (h : Handle) (e : ServerEnd) → under t h ≡ Some (server.Open e) → HasRoom (events_of e)

-- the circuit of a handle loses a record, if there is one
abbrev pub LosesIn : Table ServerCircuit → Handle → (name : List ℕ) → Store → Table ServerCircuit
    → Store → Type 0
LosesIn t h name s after u =
    ((c : ServerCircuit) × (new : ServerCircuit) × (under t h ≡ Some c) × LosesAt h name c s new u
    × (after ≡ with_changed (λ (x : ServerCircuit). new) h t))
    ⊎ ((under t h ≡ None) × (after ≡ t) × (u ≡ s))

-- the same for the one at a place of the list of those that lead to the record; there may be none
abbrev pub LosesNext : (name : List ℕ) → (place : ℕ) → Watched → Table ServerCircuit → Store
    → Table ServerCircuit → Store → Type 0
LosesNext name place l t s after u =
    ((h : Handle) × At (watching l name) place h × LosesIn t h name s after u)
    ⊎ ((slice_get (watching l name) place ≡ None) × (after ≡ t) × (u ≡ s))

-- Each circuit has lost the record, but for those that ended, and left that many SERVER_DISCONNs.
pub record IsLost (name : List ℕ) (gone : Handle → Bool) (left : Handle → ℕ)
    (t : Table ServerCircuit) (s : Store) (after : Table ServerCircuit) (u : Store) : Type 0 where
  pub may : (h : Handle) → gone h ≡ true
      → (e : ServerEnd) × (under t h ≡ Some (server.Open e))
      × (left h < length (channels_of name e))
  pub circuits : after ≡ with_each (circuit_without name gone left) t
  pub records : records_of u ≡ withdrawn (λ (p : Put). gone p.circuit) (records_of s)
  pub rules : u.rules ≡ s.rules
  pub stamp : u.stamp ≡ s.stamp
  pub rooms : HaveRoom after

abbrev pub LosesAll : (name : List ℕ) → Table ServerCircuit → Store → Table ServerCircuit → Store
    → Type 0
LosesAll name t s after u =
    (gone : Handle → Bool) × ((left : Handle → ℕ) × IsLost name gone left t s after u)
