-- Working: circuits lose a record that is removed: its SERVER_DISCONNs, and the
-- subscriptions that are over.
use Rattle.std.specs.Prelude.{ℕ, ◌≡◌, ◌≤◌, ◌+◌, ◌*◌, ◌==◌, ◌&&◌, ◌++◌, Bool, true, List, [], ◌∷◌}
use Rattle.std.specs.Prelude.{if◌then◌else◌, length, map, take, vec_capacity, vec_len}
use Rattle.std.specs.List.{fold, list_any}
use Rattle.std.specs.Str.{bytes_eq}
use Rattle.ca_ids.specs.Table.{under}
use Rattle.ca_queue.specs.declared.entry.SubKey.{SubKey}
use Rattle.ca_queue.specs.Keys.{is_among}
use Rattle.ca_queue.specs.Queue.{Queue, cancelled}
use Rattle.ca_text.specs.Place.{At}
use Rattle.ca_wire.specs.Messages.{disconnect}
use Rattle.ca_model.specs.History.{Cause, Entry, Removal, Removed, Told, Withdrawn}
use Rattle.ca_model.specs.Server.{Server}
use Rattle.ca_model.specs.Speech.{In}
use Rattle.ca_model.specs.ServerEvents.{created_at, without_standing}
use Rattle.ca_model.specs.World.{Creation, Joined}
use Rattle.ca_server_core.specs.ForHistories.{bytes_under, channels_under}
use Rattle.ca_world_data.specs.declared.joined.Joined.{Joined as Opened}
use Rattle.ca_world_data.specs.declared.server.PutPlace.{PutPlace}
use Rattle.ca_world_data.specs.declared.server.RecordSide.{RecordSide}
use Rattle.ca_world_data.specs.Numbering.{keys_on}
use Rattle.ca_world_data.specs.Seen.{joined_of}
use Rattle.ca_world_servers.specs.declared.losing.Leading.{Leading}

-- ---- one circuit, of whose channels these are lost, each as its SID and its CID

-- the SERVER_DISCONN of one, about its CREATE_CHAN
abbrev pub lost_told : List Creation → ℕ × ℕ → Told
lost_told creations c =
    record { message = disconnect c.1; place = created_at c.0 creations; cause = Removal }

-- the key is that of a subscription on one
abbrev pub is_lost : List (ℕ × ℕ) → SubKey → Bool
is_lost lost k = list_any (λ (c : ℕ × ℕ). c.0 == k.sid) lost

-- Their SERVER_DISCONNs went down, and their subscriptions are over.
abbrev pub without_lost : List (ℕ × ℕ) → Joined → Joined
without_lost lost j =
    without_standing (is_lost lost)
    (record j {
      lists = record j.lists {
        down = j.lists.down
            ++ map (lost_told j.creations) lost;
      };
    })

-- a queue without those of these subscriptions that a test names
abbrev pub dropped : {E : Type 0} → (SubKey → Bool) → List SubKey → Queue E → Queue E
dropped gone keys q =
    fold (λ (r : Queue _) (k : SubKey). if gone k then cancelled k r else r) q keys

-- each subscription of the queues stands, and what waits is of one that the queue has
pub record AreSeated (j : Joined) : Type 0 where
  pub stand : (n : ℕ) (q : Queue (ℕ × Cause)) (k : SubKey) → At j.queues n q
      → is_among k q.subscriptions ≡ true → is_among k (keys_on j) ≡ true
  pub known : (n : ℕ) (q : Queue (ℕ × Cause)) (w : SubKey × (ℕ × Cause)) → At j.queues n q
      → In q.waiting w → is_among w.0 q.subscriptions ≡ true

-- ---- what a circuit has to lose

-- the channels to the record of this name at a circuit's open end at server i, and how
-- many bytes wait there
abbrev pub lead_at : (i : ℕ) → Server → (name : List ℕ) → Joined → List (ℕ × ℕ) × ℕ
lead_at i core name j =
    if j.server == i && j.lists.server_open then (
      channels_under name (under core.circuits j.at_server),
      length (bytes_under (under core.circuits j.at_server)),
    )
    else ([], 0)

-- that is known, and there is room for a SERVER_DISCONN for each
pub record IsReady (i : ℕ) (core : Server) (name : List ℕ) (j : Opened) (l : Leading) : Type 0 where
  pub led : (l.channels.items, l.waited) ≡ lead_at i core name (joined_of j)
  pub room : vec_len j.lists.down + length l.channels.items ≤ vec_capacity j.lists.down

-- so it is of all circuits, each with its own
pub record AllReady (i : ℕ) (core : Server) (name : List ℕ) (ks : List Opened)
    (ls : List Leading) : Type 0 where
  pub each : (k : ℕ) (j : Opened) (l : Leading) → At ks k j → At ls k l → IsReady i core name j l
  pub long : length ls ≡ length ks

-- ---- what was lost

-- the core of server i says that the SERVER_DISCONNs of n channels were sent: they
-- are after what waited
abbrev pub Disconnects : (core : Server) → Joined → Leading → ℕ → Type 0
Disconnects core j l n =
    (l.waited + 16 * n ≡ length (bytes_under (under core.circuits j.at_server)))
    × (n ≤ length l.channels.items)

-- a circuit that is open at server i may lose channels: there is room, and its queues have the
-- subscriptions that stand
pub record MayLose (i : ℕ) (core : Server) (j : Opened) (l : Leading) : Type 0 where
  pub sent : (n : ℕ)
      × (j.server ≡ i → j.lists.server_open ≡ true → Disconnects core (joined_of j) l n)
  pub room : vec_len j.lists.down + length l.channels.items ≤ vec_capacity j.lists.down
  pub seated : j.server ≡ i → j.lists.server_open ≡ true → AreSeated (joined_of j)

pub record AllMayLose (i : ℕ) (core : Server) (ks : List Opened) (ls : List Leading) : Type 0 where
  pub each : (k : ℕ) (j : Opened) (l : Leading) → At ks k j → At ls k l → MayLose i core j l
  pub long : length ls ≡ length ks

-- the circuit after it, if n SERVER_DISCONNs were sent
abbrev pub lost_by : (i : ℕ) → Leading → ℕ → Joined → Joined
lost_by i l n j =
    if j.server == i && j.lists.server_open then without_lost (take n l.channels.items) j else j

-- this is what becomes of each circuit
abbrev pub AreLost : (i : ℕ) → (core : Server) → List Opened → List Leading → (Joined → Joined)
    → Type 0
AreLost i core ks ls f =
    (k : ℕ) (j : Opened) (l : Leading) (n : ℕ) → At ks k j → At ls k l
    → (j.server ≡ i → j.lists.server_open ≡ true → Disconnects core (joined_of j) l n)
    → f (joined_of j) ≡ lost_by i l n (joined_of j)

-- ---- the log

-- these puts are withdrawn
abbrev pub withdrawn_entries : List PutPlace → List Entry
withdrawn_entries waiting = map (λ (p : PutPlace). Withdrawn p.circuit p.place) waiting

-- as the log tells of the removal of the records of this name, in order
abbrev pub removed_all : (name : List ℕ) → List RecordSide → List Entry
removed_all name [] = []
removed_all name (r ∷ rs) =
    if bytes_eq r.name.items name then Removed r.number ∷ withdrawn_entries r.waiting.items
    ++ removed_all name rs else removed_all name rs
