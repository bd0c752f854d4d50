-- Working: a post goes from one circuit that watches a record to the next.
use Rattle.std.specs.Prelude.{ℕ, ◌≡◌, ◌⊎◌, Bool, true, false, List, Some, None, slice_get}
use Rattle.ca_arena.specs.declared.handle.Handle.{Handle}
use Rattle.ca_ids.specs.Table.{Table, under, with_changed, with_each}
use Rattle.ca_records.specs.declared.puts.Put.{Put}
use Rattle.ca_records.specs.Puts.{Record, withdrawn}
use Rattle.ca_records.specs.Store.{HasAt, Store, records_of}
use Rattle.ca_text.specs.Place.{At}
use Rattle.ca_server_watchers.specs.Watching.{LeavesAt, Watched, watching}
use Rattle.ca_model.specs.Server.{ServerCircuit}
use Rattle.ca_model.specs.ServerSteps.{is_concerned, reached}
use Rattle.ca_model.specs.Speech.{Stored}
use Rattle.ca_server_core.specs.Covering.{watches_under}
use Rattle.ca_server_circuit.specs.Ending.{KeepsPlaces}
use Rattle.ca_server_circuit.specs.Posting.{PostsAt}

-- ---- one circuit

-- A post to the record at a place, on the circuit of a handle.
abbrev pub PostsIn : Table ServerCircuit → Handle → (place : ℕ) → (mask : ℕ) → Store
    → Table ServerCircuit → Store → Type 0
PostsIn t h place mask s after u =
    ((c : ServerCircuit) × (new : ServerCircuit) × (under t h ≡ Some c)
    × PostsAt h place mask c s new u × (after ≡ with_changed (λ (x : ServerCircuit). new) h t))
    ⊎ ((under t h ≡ None) × (after ≡ t) × (u ≡ s))

-- whether the circuit of a handle is there, with a subscription on the record at a place
abbrev pub WatchesIn : Table ServerCircuit → Handle → (place : ℕ) → Store → (on : Bool) → Type 0
WatchesIn t h place s on =
    (r : Record) × HasAt s place r × (on ≡ watches_under r.state.name (under t h))

-- The same if its end has a subscription on the record. Else it is taken out of the list of those
-- that watch it, if it is at this place.
abbrev pub ReachesOne : (name : List ℕ) → (place : ℕ) → (mask : ℕ) → (watcher : ℕ) → Handle
    → (still : Bool) → Watched → Table ServerCircuit → Store → Watched → Table ServerCircuit → Store
    → Type 0
ReachesOne name place mask watcher h true w t s v after u =
    PostsIn t h place mask s after u × (v ≡ w)
ReachesOne name place mask watcher h false w t s v after u =
    LeavesAt name watcher w v × (after ≡ t) × (u ≡ s)

-- the circuit is at this place of the list of those that watch the record
abbrev pub IsListed : (place : ℕ) → (watcher : ℕ) → Handle → Watched → Store → Type 0
IsListed place watcher h w s =
    (r : Record) × HasAt s place r × At (watching w r.state.name) watcher h

-- The circuit at a place of the list of those that watch the record had its
-- post; there may be none.
abbrev pub ReachesNext : (place : ℕ) → (mask : ℕ) → (watcher : ℕ) → Watched → Table ServerCircuit
    → Store → Watched → Table ServerCircuit → Store → Type 0
ReachesNext place mask watcher w t s v after u =
    (r : Record) × HasAt s place r
    × (((h : Handle) × At (watching w r.state.name) watcher h
    × ReachesOne r.state.name place mask watcher h
    (watches_under r.state.name (under t h)) w t s v after u)
    ⊎ ((slice_get (watching w r.state.name) watcher ≡ None) × (v ≡ w) × (after ≡ t) × (u ≡ s)))

-- ---- all circuits

-- The post has reached all subscriptions on a record of this name, but for these circuits, which
-- have ended out of memory for it.
pub record ReachesAll (name : List ℕ) (mask : ℕ) (v : Stored) (gone : Handle → Bool)
    (t : Table ServerCircuit) (s : Store) (after : Table ServerCircuit) (u : Store) : Type 0 where
  pub may : (h : Handle) → gone h ≡ true
      → (c : ServerCircuit) × (under t h ≡ Some c) × (is_concerned name mask c ≡ true)
  pub circuits : after ≡ with_each (reached name mask v gone) t
  pub records : records_of u ≡ withdrawn (λ (p : Put). gone p.circuit) (records_of s)
  pub rules : u.rules ≡ s.rules
  pub stamp : u.stamp ≡ s.stamp
  pub places : KeepsPlaces s u

-- the same for the value of the record at a place
abbrev pub ReachesFrom : (place : ℕ) → (mask : ℕ) → Table ServerCircuit → Store
    → Table ServerCircuit → Store → Type 0
ReachesFrom place mask t s after u =
    (r : Record) × HasAt s place r
    × ((gone : Handle → Bool)
    × ReachesAll r.state.name mask
    (record { value = r.state.value; meta = r.state.meta }) gone t s after u)
