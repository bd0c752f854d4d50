-- Vocabulary: `serve_and_pump`, which is a step, then the finish of the put by which its message
-- made a record busy (section "CA_PROTO_WRITE_NOTIFY"), and then a pump.
use Rattle.std.specs.Prelude.{ℕ, ◌≡◌, ◌⊎◌, Bool, true, false, if◌then◌else◌, List, Option, None}
use Rattle.std.specs.Prelude.{Some, Result, Ok, is_some}
use Rattle.ca_arena.specs.declared.handle.Handle.{Handle}
use Rattle.ca_ids.specs.Table.{Table, under}
use Rattle.ca_records.specs.declared.puts.Finished.{Finished}
use Rattle.ca_records.specs.Puts.{Record, record_named}
use Rattle.ca_records.specs.Store.{HasAt, IsThere, Store, records_of}
use Rattle.ca_records.specs.Writes as writes
use Rattle.ca_text.specs.declared.refusal.Refusal.{Refusal}
use Rattle.ca_wire.specs.Fields.{Fields}
use Rattle.ca_model.specs.Due.{Action, Applies}
use Rattle.ca_model.specs.Server.{Server, ServerCircuit}
use Rattle.ca_model.specs.ServerCalls.{Finishes}
use Rattle.ca_model.specs.ServerSteps.{Handled, Stepped, Steps}
use Rattle.ca_model.specs.Speech.{In}
use Rattle.ca_server_circuit.specs.declared.step.FollowUp.{FollowUp}
use Rattle.ca_server_circuit.specs.declared.step.FollowUp.TheVariants as effect
use Rattle.ca_server_circuit.specs.Handling.{is_wrote}
use Rattle.ca_server_core.specs.Counting.{PumpsCounting}
use Rattle.ca_server_core.specs.Effects.{action_of}
use Rattle.ca_server_core.specs.Finishing.{RepliesIn, effect_after}
use Rattle.ca_server_core.specs.Following.{Follows}
use Rattle.ca_server_core.specs.Serving.{more_applied}

-- ---- what is noted

-- each record that is busy was busy before, or its name is noted
abbrev pub BusyBut : (old new : List Record) → Option (List ℕ) → Type 0
BusyBut old new noted =
    (r : Record) → In new r → is_some r.busy ≡ true
    → (noted ≡ Some r.state.name)
    ⊎ ((q : Record) × In old q × (q.state.name ≡ r.state.name) × (is_some q.busy ≡ true))

-- the record whose name is noted is busy
abbrev pub IsBusy : (new : List Record) → Option (List ℕ) → Type 0
IsBusy new noted =
    (name : List ℕ) → noted ≡ Some name
    → (r : Record) × (record_named new name ≡ Some r) × (is_some r.busy ≡ true)

-- What is noted of a message that made the one of the other: the record that it made busy.
pub record Notes (old new : List Record) (noted : Option (List ℕ)) : Type 0 where
  pub busy : IsBusy new noted
  pub others : BusyBut old new noted

-- the record to which a message wrote is there
abbrev pub LeadsTo : FollowUp → Store → Type 0
LeadsTo (effect.Wrote place busies sid) s = IsThere s place
LeadsTo did s = Unit {0}

-- the name of a record that is busy
abbrev pub busy_name : Option Record → Option (List ℕ)
busy_name (Some r) = if is_some r.busy then Some r.state.name else None
busy_name None = None

-- the same of the record to which an action writes at once
abbrev pub wrote_busy : Action → List Record → Option (List ℕ)
wrote_busy (Applies name value busies) records = busy_name (record_named records name)
wrote_busy action records = None

-- the record to which a message wrote is noted if it is busy
abbrev pub NotesAt : FollowUp → Store → Option (List ℕ) → Type 0
NotesAt (effect.Wrote place busies sid) s noted =
    (r : Record) × HasAt s place r × (record_named (records_of s) r.state.name ≡ Some r)
    × (noted ≡ busy_name (Some r))
NotesAt did s noted = noted ≡ None

-- ---- the put of the record to which a message wrote, in the table of circuits

-- The busy put of the record of a name ended: its reply went out, and what that leaves to do
-- followed. This many writes were applied before, and this many then.
pub record EndsPut (name : List ℕ) (n : ℕ) (t : Table ServerCircuit) (s : Store) (k : ℕ)
    (last : Table ServerCircuit) (x : Store) : Type 0 where
  pub f : Finished
  pub left : Store
  pub finishes : writes.Finishes s name (Ok f) left
  pub mid : Table ServerCircuit
  pub after : Store
  pub replies : RepliesIn t f.ended left mid after
  pub follows : Follows (effect_after f) f.ended.circuit mid after last x
  pub counts : k ≡ more_applied (is_wrote (effect_after f)) n

-- nothing changed
abbrev pub StaysAll : (n : ℕ) (t : Table ServerCircuit) (s : Store) (k : ℕ)
    (last : Table ServerCircuit) (x : Store)
    → Type 0
StaysAll n t s k last x = (k ≡ n) × (last ≡ t) × (x ≡ s)

-- the busy put of the record at a place ended, or it is not busy
abbrev pub EndsPutAt : (place n : ℕ) (t : Table ServerCircuit) (s : Store) (k : ℕ)
    (last : Table ServerCircuit) (x : Store)
    → Type 0
EndsPutAt place n t s k last x =
    (r : Record) × HasAt s place r × (record_named (records_of s) r.state.name ≡ Some r)
    × (((is_some r.busy ≡ true) × EndsPut r.state.name n t s k last x)
    ⊎ ((is_some r.busy ≡ false) × StaysAll n t s k last x))

-- the same of the record to which a message wrote
abbrev pub TriesAt : FollowUp
    → (n : ℕ) (t : Table ServerCircuit) (s : Store) (k : ℕ) (last : Table ServerCircuit) (x : Store)
    → Type 0
TriesAt (effect.Wrote place busies sid) n t s k last x = EndsPutAt place n t s k last x
TriesAt did n t s k last x = StaysAll n t s k last x

-- ---- a step

-- it handled a message
abbrev pub was_handled : Stepped → Bool
was_handled Handled = true
was_handled did = false

-- the busy put of the record of this name was finished, if there is one
abbrev pub Tries : Server → Option (List ℕ) → Server → Type 0
Tries y None new = new ≡ y
Tries y (Some name) new =
    (sent : List (Handle × Fields)) × (r : Result (Unit {0}) Refusal) × Finishes y name sent r new

-- A message was handled. The put of the record to which it wrote at once was finished, if that was
-- busy then, and no other.
pub record HandlesAndFinishes (old : Server) (h : Handle) (new : Server) : Type 0 where
  pub put : Option (List ℕ)
  pub stepped : Server
  pub steps : Steps old h Handled stepped
  pub own : put ≡ wrote_busy (action_of old h stepped steps) stepped.records
  pub notes : Notes old.records stepped.records put
  pub tries : Tries stepped put new

-- `serve_and_pump`: what was done with the next message. If it was handled, updates left the queues
-- of an open end then, and n bytes wait on it.
abbrev pub ServesAndPumps : Server → Handle → Stepped → (waiting : ℕ) → Server → Type 0
ServesAndPumps old h Handled waiting new =
    (finished : Server) × HandlesAndFinishes old h finished × PumpsCounting finished h waiting new
ServesAndPumps old h did waiting new = Steps old h did new
