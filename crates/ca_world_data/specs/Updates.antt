-- Working: messages of a server that are read off its bytes; of updates, each with the number
-- that its queue returns, into memory that was made before.
use Rattle.std.specs.Prelude.{ℕ, ◌≡◌, ◌+◌, ◌≤◌, ◌++◌, List, [], ◌∷◌, Some, Vec, drop, length, map}
use Rattle.std.specs.Prelude.{vec_capacity, vec_len}
use Rattle.std.specs.List.{FoldsTo}
use Rattle.std.specs.declared.alloc.Global.{Global}
use Rattle.ca_queue.specs.declared.entry.SubKey.{SubKey}
use Rattle.ca_queue.specs.Circuit.{Takes}
use Rattle.ca_queue.specs.Images.{queue_images}
use Rattle.ca_queue.specs.Queue.{Queue}
use Rattle.ca_text.specs.Place.{At}
use Rattle.ca_wire.specs.Fields.{Fields}
use Rattle.ca_wire.specs.Message.{IsMessage, spelled, spelling}
use Rattle.ca_model.specs.History.{Cause}
use Rattle.ca_model.specs.Server.{Server, ServerEnd, Subscription, key_of}
use Rattle.ca_model.specs.ServerSteps.{HasEnd, Leaves, Rests, Update}
use Rattle.ca_model.specs.Speech.{In, Stored}
use Rattle.ca_model.specs.Updates.{ShowsTo}
use Rattle.ca_model.specs.World.{Joined}
use Rattle.ca_world_data.specs.declared.joined.Joined.{Joined as Opened}
use Rattle.ca_world_data.specs.Seen.{joined_of}

-- ---- bytes

-- the messages of updates
abbrev pub shown_by : List Update → List Fields
shown_by updates = map (λ (u : Update). u.message) updates

-- these are messages
abbrev pub AreGood : List Fields → Type 0
AreGood ms = (i : ℕ) (m : Fields) → At ms i m → IsMessage m

-- ---- what waits

-- the queues, with entries that carry nothing
abbrev pub bare : {E : Type 0} → List (Queue E) → List (Queue (Unit {0}))
bare {E} qs = map (queue_images (λ (e : E). tt)) qs

-- Entries of the same subscriptions wait in both, in the same order.
abbrev pub WaitAlike : {E F : Type 0} → List (Queue E) → List (Queue F) → Type 0
WaitAlike es fs = bare es ≡ bare fs

-- So they do at an open end and on its circuit.
abbrev pub WaitsAlike : Server → Joined → Type 0
WaitsAlike y j = (e : ServerEnd) → HasEnd y j.at_server e → WaitAlike e.queues j.queues

-- ---- memory for updates: a list for each queue

-- how many updates that is for
abbrev pub how_many : List (List (Vec ℕ Global)) → ℕ
how_many [] = 0
how_many (own ∷ rooms) = length own + how_many rooms

-- It suffices for the update that shows this entry to its subscription.
pub record IsRoomFor (e : ServerEnd) (w : SubKey × Stored) (room : Vec ℕ Global) : Type 0 where
  pub empty : room.items ≡ []
  pub fits : (s : Subscription) (m : Fields) → In e.subscriptions s → key_of s ≡ w.0
      → ShowsTo s.wanted w.1 m → length m.payload ≤ vec_capacity room

-- Each of these entries has some, in their order.
abbrev pub AreRoomsFor : ServerEnd → List (SubKey × Stored) → List (Vec ℕ Global) → Type 0
AreRoomsFor e entries own =
    (i : ℕ) (w : SubKey × Stored) → At entries i w
    → (room : Vec ℕ Global) × At own i room × IsRoomFor e w room

-- Unless the end rests, each entry that waits there has some.
abbrev pub HaveRooms : ServerEnd → List (List (Vec ℕ Global)) → Type 0
HaveRooms e rooms =
    (Rests e → ⊥) → (place : ℕ) (q : Queue Stored) → At e.queues place q
    → (own : List (Vec ℕ Global)) × At rooms place own × AreRoomsFor e q.waiting own

-- There is memory for the updates that may leave an end, and room for as many in what went down.
pub record HasMemory (e : ServerEnd) (j : Opened) (rooms : List (List (Vec ℕ Global)))
    : Type 0 where
  pub own : HaveRooms e rooms
  pub down : vec_len j.lists.down + how_many rooms ≤ vec_capacity j.lists.down

-- So it is of the open end of a circuit.
abbrev pub IsReadyToPump : Server → Opened → List (List (Vec ℕ Global)) → Type 0
IsReadyToPump y j rooms = (e : ServerEnd) → HasEnd y j.at_server e → HasMemory e j rooms

-- ---- updates go down

-- An update went down: the first queue that gives a number gave this one.
pub record TellsOne (j : Joined) (m : Fields) (new : Joined) : Type 0 where
  pub place : ℕ
  pub key : SubKey
  pub item : ℕ × Cause
  pub queues : List (Queue (ℕ × Cause))
  pub takes : Takes j.queues (Some (place, key, item)) queues
  pub is :
      new ≡ record j {
        queues = queues;
        lists = record j.lists {
          down = j.lists.down
              ++ record { message = m; place = item.0; cause = item.1 } ∷ [];
        };
      }

-- These updates left the queues of an end, and became these bytes. The circuit is as before that,
-- with memory for them.
pub record MayTell (e : ServerEnd) (us : List Update) (bytes : List ℕ) (j : Opened)
    (rooms : List (List (Vec ℕ Global))) : Type 0 where
  pub after : ServerEnd
  pub leave : FoldsTo Leaves e us after
  pub good : AreGood (shown_by us)
  pub are : bytes ≡ spelled (shown_by us)
  pub alike : WaitAlike e.queues (joined_of j).queues
  pub memory : HasMemory e j rooms

-- The first of them went down, which has n of the bytes. So the others may.
pub record TellsNext (u : Update) (us : List Update) (bytes : List ℕ) (j : Opened) (n : ℕ)
    (new : Opened) (rooms : List (List (Vec ℕ Global))) : Type 0 where
  pub size : n ≡ length (spelling u.message)
  pub told : TellsOne (joined_of j) u.message (joined_of new)
  pub mid : ServerEnd
  pub left : MayTell mid us (drop n bytes) new rooms

-- They went down.
abbrev pub TellsUpdates : List ℕ → Opened → List (List (Vec ℕ Global)) → Joined → Type 0
TellsUpdates bytes j rooms new =
    (e : ServerEnd) (us : List Update) → MayTell e us bytes j rooms
    → FoldsTo TellsOne (joined_of j) (shown_by us) new
