-- Working: the requests of each circuit, and those of each channel, beside those of all. No clause
-- of a caller needs it.
use Rattle.std.specs.Prelude.{ℕ, ◌≡◌, ◌≢◌, ◌⊎◌, ◌<◌, ◌++◌, Bool, false, true, List, [], ◌∷◌, Option}
use Rattle.std.specs.Prelude.{Some, None, if◌then◌else◌, length, slice_index_or}
use Rattle.std.specs.List.{AllByRecursion}
use Rattle.ca_arena.specs.declared.handle.Handle.{Handle}
use Rattle.ca_text.specs.Place.{At}
use Rattle.ca_ids.specs.Table.{Table, same_handle}
use Rattle.ca_requests.specs.Layout.{AreGiven}
use Rattle.ca_requests.specs.Requests.{Request, in_order_of_issue, is_open}

-- the circuit or the channel, its requests in order of issue, and for how many more there is room
pub record RequestList : Type 0 where
  pub owner : Handle
  pub handles : List Handle
  pub room : ℕ

-- that of none
abbrev pub no_line : RequestList
no_line = record { owner = record { index = 0; generation = 0 }; handles = []; room = 0 }

-- those before the last one, and the last one, if there is one
abbrev pub with_last : List Handle → Option Handle → List Handle
with_last xs None = xs
with_last xs (Some h) = xs ++ h ∷ []

-- the room beside the last one: one that is there has to go first
abbrev pub room_beside : Option Handle → ℕ → ℕ
room_beside None n = n
room_beside (Some h) n = 0

-- There is room for the last one among those before it.
abbrev pub HasRoomForLast : Option Handle → (len capacity : ℕ) → Type 0
HasRoomForLast None len capacity = Unit {0}
HasRoomForLast (Some h) len capacity = len < capacity

-- the line at this index of its owner
abbrev pub line_at : List RequestList → ℕ → RequestList
line_at lines i = slice_index_or lines i no_line

-- the owner of a request: its circuit, or its channel
abbrev pub circuit_of : Request → Handle
circuit_of r = r.circuit

abbrev pub channel_of : Request → Handle
channel_of r = r.channel

-- the request is this owner's
abbrev pub belongs : (whose : Request → Handle) → Handle → Request → Bool
belongs whose c r = same_handle (whose r) c

-- what is open is this owner's
abbrev pub AreOf : (whose : Request → Handle) → Table Request → Handle → List Handle → Type 0
AreOf whose t c xs =
    AllByRecursion
    (λ (q : Handle).
    is_open (λ (r : Request). true) t q ≡ true → is_open (belongs whose c) t q ≡ true)
    xs

-- The line may come to this owner: it is its own, or none in it is open.
abbrev pub MayBeOf : Table Request → Handle → RequestList → Type 0
MayBeOf t c l =
    same_handle l.owner c ≡ false → in_order_of_issue (λ (r : Request). true) t l.handles ≡ []

-- The line at this index is its owner's, or has none.
abbrev pub IsAt : ℕ → RequestList → Type 0
IsAt i l = (l.handles ≡ []) ⊎ (l.owner.index ≡ i)

-- A line lost some that are over, or came to another owner.
pub record Readies (t : Table Request) (old new : RequestList) : Type 0 where
  pub same : (which : Request → Bool)
      → in_order_of_issue which t new.handles ≡ in_order_of_issue which t old.handles
  pub given : AreGiven t old.handles → AreGiven t new.handles
  pub owned : AreOf circuit_of t old.owner old.handles → AreOf circuit_of t new.owner new.handles
  pub also : AreOf channel_of t old.owner old.handles → AreOf channel_of t new.owner new.handles
  pub placed : (i : ℕ) → IsAt i old → IsAt i new

-- each line did
abbrev pub ReadyAll : Table Request → List RequestList → List RequestList → Type 0
ReadyAll t old new = (i : ℕ) → Readies t (line_at old i) (line_at new i)

-- the line of this owner has room for one more
pub record HasRoom (c : Handle) (lines : List RequestList) : Type 0 where
  pub within : c.index < length lines
  pub owner : (line_at lines c.index).owner ≡ c
  pub room : 0 < (line_at lines c.index).room

-- Of each owner, those that are open are in its line, in order of issue.
pub record AreLines (whose : Request → Handle) (t : Table Request) (listed : List Handle)
    (lines : List RequestList) : Type 0 where
  pub same : (c : Handle)
      → in_order_of_issue (belongs whose c) t (line_at lines c.index).handles
      ≡ in_order_of_issue (belongs whose c) t listed
  pub given : (i : ℕ) → AreGiven t (line_at lines i).handles
  pub owned : (i : ℕ) → AreOf whose t (line_at lines i).owner (line_at lines i).handles
  pub placed : (i : ℕ) → IsAt i (line_at lines i)

-- what is handed out of a line as that of this owner
abbrev pub told_of : Handle → RequestList → List Handle
told_of c l = if same_handle l.owner c then l.handles else []

-- what it has then
abbrev pub handed_to : Handle → RequestList → List Handle
handed_to c l = if same_handle l.owner c then [] else l.handles

-- The request was put after those of its owner's line.
pub record Notes (c q : Handle) (old new : List RequestList) : Type 0 where
  pub own : (line_at old c.index).owner ≡ c
  pub owner : (line_at new c.index).owner ≡ c
  pub handles : (line_at new c.index).handles ≡ (line_at old c.index).handles ++ q ∷ []
  pub others : (i : ℕ) → i ≢ c.index → line_at new i ≡ line_at old i

-- What was listed for the owner was handed out of its line.
pub record Hands (c : Handle) (old new : List RequestList) : Type 0 where
  pub owner : (line_at new c.index).owner ≡ (line_at old c.index).owner
  pub handles : (line_at new c.index).handles ≡ handed_to c (line_at old c.index)
  pub others : (i : ℕ) → i ≢ c.index → line_at new i ≡ line_at old i

-- each request that is open is listed
abbrev pub AreAllListed : Table Request → List Handle → Type 0
AreAllListed t listed =
    (q : Handle) → is_open (λ (r : Request). true) t q ≡ true → (n : ℕ) × At listed n q

-- what holds of the fields of a client's requests
pub record AreRequests (t : Table Request) (listed : List Handle)
    (lines mine : List RequestList) : Type 0 where
  pub given : AreGiven t listed
  pub all : AreAllListed t listed
  pub circuits : AreLines circuit_of t listed lines
  pub channels : AreLines channel_of t listed mine
