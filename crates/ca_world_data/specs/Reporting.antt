-- Working: ends at a server that ended in a call of its core are reported.
use Rattle.std.specs.Prelude.{ℕ, ◌≡◌, ◌+◌, ◌++◌, ◌⊎◌, Bool, true, List, [], ◌∷◌, Option, Some, None}
use Rattle.std.specs.Prelude.{if◌then◌else◌, is_some, length, map, slice_set}
use Rattle.ca_arena.specs.declared.handle.Handle.{Handle}
use Rattle.ca_ids.specs.Table.{under, with_freed}
use Rattle.ca_text.specs.Place.{At}
use Rattle.ca_model.specs.History as history
use Rattle.ca_model.specs.Server.{Server}
use Rattle.ca_model.specs.ServerSteps.{without_puts_of}
use Rattle.ca_model.specs.ServerEvents.{ending, ends_at, ends_by, left_by, reported, server_closed}
use Rattle.ca_model.specs.ServerEvents.{withdrawals, without_puts}
use Rattle.ca_model.specs.World.{Joined, grown}
use Rattle.ca_world_data.specs.declared.server.PutPlace.{PutPlace}
use Rattle.ca_world_data.specs.declared.server.RecordSide.{RecordSide}
use Rattle.ca_world_data.specs.declared.server.ServerSide.{ServerSide}
use Rattle.ca_world_data.specs.Seen.{record_of, server_of}

-- how many puts wait for these records
abbrev pub waits : List RecordSide → ℕ
waits [] = 0
waits (r ∷ rs) = length r.waiting.items + waits rs

-- as the log tells of those among these puts that came on a circuit which the test names
abbrev pub gone_of : (ℕ → Bool) → List PutPlace → List history.Entry
gone_of gone [] = []
gone_of gone (p ∷ ps) =
    if gone p.circuit then history.Withdrawn p.circuit p.place ∷ gone_of gone ps
    else gone_of gone ps

-- of all records, in order
abbrev pub all_gone : (ℕ → Bool) → List RecordSide → List history.Entry
all_gone gone [] = []
all_gone gone (r ∷ rs) = gone_of gone r.waiting.items ++ all_gone gone rs

-- the circuits of server i whose ends its core says have ended
abbrev pub gone_at : (i : ℕ) → Server → List Joined → ℕ → Bool
gone_at i core ks = ends_at (ends_by i core) ks

-- ---- circuits at a server, by handle

-- by the index of its handle the server has the number of each circuit that is open at its end
abbrev pub AreServed : List ℕ → List Joined → (server : ℕ) → Type 0
AreServed numbers circuits server =
    (k : ℕ) (j : Joined) → At circuits k j → j.server ≡ server → j.lists.server_open ≡ true
    → At numbers j.at_server.index k

-- of the circuits that are open at a server, the one of a handle
pub record IsServed (circuits : List Joined) (server : ℕ) (handle : Handle) (k : ℕ) : Type 0 where
  pub j : Joined
  pub at : At circuits k j
  pub mine : j.server ≡ server
  pub is_open : j.lists.server_open ≡ true
  pub here : j.at_server ≡ handle

-- there is none
abbrev pub IsUnserved : List Joined → (server : ℕ) → Handle → Type 0
IsUnserved circuits server handle =
    (k : ℕ) (j : Joined) → At circuits k j → j.server ≡ server → j.lists.server_open ≡ true
    → j.at_server ≡ handle → ⊥

-- ---- one end

-- the core's end of this handle has ended in a call that did not report it, and no put of it waits
abbrev pub Quits : Server → Handle → Type 0
Quits core h = (is_some (left_by (under core.circuits h)) ≡ true) × (without_puts_of h core ≡ core)

-- the end of this handle has ended and left these bytes
pub record IsEnded (core : Server) (index : ℕ) : Type 0 where
  pub h : Handle
  pub left : List ℕ
  pub here : h.index ≡ index
  pub over : left_by (under core.circuits h) ≡ Some left

-- the circuit of a handle, if there is one, ends and leaves these bytes
abbrev pub ClosesAt : Option ℕ → (i : ℕ) → Handle → List ℕ → List Joined → List Joined → Type 0
ClosesAt (Some k) i h left ks ks' =
    (s : IsServed ks i h k) × (ks' ≡ slice_set ks k (server_closed left s.j))
ClosesAt None i h left ks ks' = IsUnserved ks i h × (ks' ≡ ks)

-- The end of this index was reported, if it had ended, and its circuit ended;
-- or there is none such.
abbrev pub ReportsAt : (index i : ℕ) → Server → List Joined → Server → List Joined → Type 0
ReportsAt n i core ks core' ks' =
    ((e : IsEnded core n) × (core' ≡ record core { circuits = with_freed e.h core.circuits })
    × ((k : Option ℕ) × ClosesAt k i e.h e.left ks ks'))
    ⊎ (((h : Handle) → h.index ≡ n → left_by (under core.circuits h) ≡ None) × (core' ≡ core)
    × (ks' ≡ ks))

-- ---- all ends

-- The call of server i is over: each end that ended is reported, its circuit ends, and its puts
-- that wait are withdrawn.
pub record Reports (i : ℕ) (y : ServerSide) (ks : List Joined) (logs : List (List history.Entry))
    (y' : ServerSide) (ks' : List Joined) (logs' : List (List history.Entry)) : Type 0 where
  pub side :
      server_of y' ≡ record
      (server_of y) {
        core = reported y.core;
        records = map (without_puts (gone_at i y.core ks)) (map record_of y.records.items);
      }
  pub numbers : y'.circuits.items ≡ y.circuits.items
  pub circuits : ks' ≡ map (ending (ends_by i y.core)) ks
  pub logged : logs' ≡ grown y.life
      (withdrawals (gone_at i y.core ks) (map record_of y.records.items)) logs
