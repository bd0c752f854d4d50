-- Working: which circuits watch which records, and which have channels to them, beside the
-- circuits of a server.
use Rattle.std.specs.Prelude.{ℕ, ◌≡◌, Bool, false, List, Option, Some, None}
use Rattle.ca_arena.specs.declared.handle.Handle.{Handle}
use Rattle.ca_ids.specs.Table.{Table, under}
use Rattle.ca_records.specs.Puts.{Record, record_named}
use Rattle.ca_server_watchers.specs.Watching.{IsAmong, Watched, line_of, watching}
use Rattle.ca_model.specs.Server.{Open, OpenChannel, ServerCircuit, ServerEnd, Subscription}
use Rattle.ca_model.specs.Speech.{In}
use Rattle.ca_server_core.specs.Sound.{IsSound}
use Rattle.ca_server_circuit.specs.Circuits.{watches}

-- Each open end is among those that watch the record of each of its subscriptions. Others
-- may be among them too.
abbrev pub Covers : Watched → Table ServerCircuit → Type 0
Covers w t =
    (h : Handle) (e : ServerEnd) (s : Subscription) → under t h ≡ Some (Open e)
    → In e.subscriptions s → IsAmong (watching w s.name) h

-- a name without a record has no line
abbrev pub AreListed : List Record → Watched → Type 0
AreListed rs w = (name : List ℕ) → record_named rs name ≡ None → line_of w name ≡ None

-- the end has an open channel to the record of this name, which was not removed
abbrev pub HasTo : ServerEnd → List ℕ → Type 0
HasTo e name =
    (k : Handle) × (c : OpenChannel) × (under e.channels k ≡ Some c) × (c.retired ≡ false)
    × (c.name ≡ name)

-- Each open end is among those that lead to each record to which it has a channel. Others
-- may be among them too.
abbrev pub Leads : Watched → Table ServerCircuit → Type 0
Leads l t =
    (h : Handle) (e : ServerEnd) (name : List ℕ) → under t h ≡ Some (Open e) → HasTo e name
    → IsAmong (watching l name) h

-- the lists of those that lead to records are complete, and a name without a record has none
pub record AreLed (rs : List Record) (l : Watched) (t : Table ServerCircuit) : Type 0 where
  pub leads : Leads l t
  pub listed : AreListed rs l

-- what holds of a server
pub record IsServer (rs : List Record) (w l : Watched) (t : Table ServerCircuit) : Type 0 where
  pub sound : IsSound rs t
  pub covered : Covers w t
  pub listed : AreListed rs w
  pub led : AreLed rs l t

-- the circuit under a handle is there, and watches the record of this name
abbrev pub watches_under : List ℕ → Option ServerCircuit → Bool
watches_under name (Some c) = watches name c
watches_under name None = false
