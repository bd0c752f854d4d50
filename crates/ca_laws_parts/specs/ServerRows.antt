-- Statement: one server's core alone: rows of its calls, with any answers and whatever its peers
-- send, and what it did on each circuit.
use Rattle.std.specs.Prelude.{ℕ, ◌≡◌, ◌<◌, ◌^◌, Bool, false, List, [], Option, Some, None, Result}
use Rattle.std.specs.Prelude.{Ok, Err, filter, if◌then◌else◌, map, take}
use Rattle.std.specs.List.{FoldsTo}
use Rattle.ca_text.specs.declared.refusal.Refusal.{Refusal}
use Rattle.ca_text.specs.Place.{At}
use Rattle.ca_dbr.specs.Held.{IsHeldValue}
use Rattle.ca_arena.specs.declared.handle.Handle.{Handle}
use Rattle.ca_ids.specs.Table.{same_handle, under}
use Rattle.ca_records.specs.declared.puts.Stamp.{Stamp}
use Rattle.ca_records.specs.Record.{IsRecord, RecordState}
use Rattle.ca_records.specs.Rules.{Rule}
use Rattle.ca_wire.specs.Fields.{Fields}
use Rattle.ca_model.specs.Sends.{Conduct, LegalServer}
use Rattle.ca_model.specs.Server.{Open, Server, ServerCircuit, ServerEnd, new_server}
use Rattle.ca_model.specs.ServerCalls.{AddsRecord, Beacons, Finishes, Posts, Removes, disconnects}
use Rattle.ca_model.specs.ServerCalls.{stamped}
use Rattle.ca_model.specs.ServerSteps.{Accepts, Cuts, Gives, HasEnd, Handled, Next, Pumps, Reaches}
use Rattle.ca_model.specs.ServerSteps.{Sends, Stepped, Steps, Update}
use Rattle.ca_model.specs.Speech.{Stored}
use Rattle.ca_laws_parts.specs.Conduct.{nothing_done, with_all_sent, with_read}

-- One call of a server's core that may change it, with its answer.
pub data Call : Type 0 where
  Accept : Result Handle Refusal → Call
  Give : Handle → List ℕ → Result (Unit {0}) Refusal → Call
  Sent : Handle → ℕ → Call
  Step : Handle → Stepped → Call
  Pump : Handle → Call
  Cut : Handle → Call
  Finish : List ℕ → Result (Unit {0}) Refusal → Call
  Post : List ℕ → Stored → (mask : ℕ) → Result (Unit {0}) Refusal → Call
  AddRecord : RecordState → Result (Unit {0}) Refusal → Call
  RemoveRecord : List ℕ → Result (Unit {0}) Refusal → Call
  SetStamp : Stamp → Call
  Beacon : ℕ → Option (List ℕ) → Call

-- What a call did on one circuit: the message that it read there, if it read one, and
-- what it sent after that.
pub record Did : Type 0 where
  pub read : Option Fields
  pub sent : List Fields

-- it did nothing there
abbrev pub nothing : Did
nothing = record { read = None; sent = [] }

-- it read nothing, and sent these messages
abbrev pub only_sent : List Fields → Did
only_sent sent = record { read = None; sent = sent }

-- What was done on circuit c, if this was done on circuit h.
abbrev pub on_circuit : (c h : Handle) → Did → Did
on_circuit c h d = if same_handle h c then d else nothing

-- A step that handled a message read it, and sent the replies that were due. Any other
-- read and sent nothing.
abbrev pub StepDoes : Server → Handle → Stepped → Did → Server → Type 0
StepDoes old h Handled d new =
    (e : ServerEnd) × HasEnd old h e × (next : Next old h e) × (gone : Handle → Bool)
    × (gone h ≡ false) × Reaches next.action gone next.after new
    × (d ≡ record { read = Some next.m; sent = next.replies })
StepDoes old h answer d new = Steps old h answer new × (d ≡ nothing)

-- the SERVER_DISCONNs that a removal sent on a circuit: all that were due, or as many of them as
-- were left by an end that ended out of memory
abbrev pub removal_sent : List ℕ → Bool → ℕ → Option ServerCircuit → List Fields
removal_sent name gone left (Some (Open e)) =
    if gone then take left (disconnects name e) else disconnects name e
removal_sent name gone left c = []

-- of a call that is refused nothing
abbrev pub of_ok : Result (Unit {0}) Refusal → List Fields → List Fields
of_ok (Ok _) sent = sent
of_ok (Err e) sent = []

-- what a removal did on a circuit
abbrev pub RemovalDoes : Handle → Server → List ℕ → Result (Unit {0}) Refusal → Did → Server
    → Type 0
RemovalDoes c old name answer d new =
    (gone : Handle → Bool) × (left : Handle → ℕ) × Removes old name gone left answer new
    × (d ≡ only_sent (of_ok answer (removal_sent name (gone c) (left c) (under old.circuits c))))

-- From old the call did this on circuit c, and left new: by the statement's
-- definition of each call.
abbrev pub Does : Handle → Server → Call → Did → Server → Type 0
Does c old (Accept answer) d new = Accepts old answer new × (d ≡ nothing)
Does c old (Give h bytes answer) d new = Gives old h bytes answer new × (d ≡ nothing)
Does c old (Sent h n) d new = Sends old h n new × (d ≡ nothing)
Does c old (Step h answer) d new =
    (did : Did) × StepDoes old h answer did new × (d ≡ on_circuit c h did)
Does c old (Pump h) d new =
    (updates : List Update) × Pumps old h updates new
    × (d ≡ on_circuit c h (only_sent (map (λ (u : Update). u.message) updates)))
Does c old (Cut h) d new = Cuts old h new × (d ≡ nothing)
Does c old (Finish name answer) d new =
    (sent : List (Handle × Fields)) × Finishes old name sent answer new
    × (d ≡ only_sent
    (map (λ (s : Handle × Fields). s.1) (filter (λ (s : Handle × Fields). same_handle s.0 c) sent)))
Does c old (Post name v mask answer) d new =
    (gone : Handle → Bool) × Posts old name v mask gone answer new × (d ≡ nothing)
Does c old (AddRecord s answer) d new =
    (behind : ℕ) × AddsRecord old s behind answer new × (d ≡ nothing)
Does c old (RemoveRecord name answer) d new = RemovalDoes c old name answer d new
Does c old (SetStamp s) d new = (new ≡ stamped s old) × (d ≡ nothing)
Does c old (Beacon now answer) d new = Beacons old now answer new × (d ≡ nothing)

-- what the server did on a circuit before the call: as a circuit is accepted, nothing
abbrev pub before : Handle → Call → Conduct → Conduct
before c (Accept (Ok h)) e = if same_handle h c then nothing_done else e
before c call e = e

-- a server's core, and what it did on one circuit
pub record ServerAndConduct : Type 0 where
  pub core : Server
  pub conduct : Conduct

-- One call leads from old to new.
abbrev pub ByCall : Handle → ServerAndConduct → Call → ServerAndConduct → Type 0
ByCall c old call new =
    (d : Did) × Does c old.core call d new.core
    × (new.conduct ≡ with_all_sent d.sent (with_read d.read (before c call old.conduct)))

-- Values that callers give are values, each element one of its type.
abbrev pub IsCall : Call → Type 0
IsCall (Post name v mask answer) = IsHeldValue v.value
IsCall (AddRecord s answer) = IsHeldValue s.value
IsCall call = Unit {0}

-- a new server's port, rules and records, and the moment
pub record ServerSetting : Type 0 where
  pub port : ℕ
  pub now : ℕ
  pub rules : List Rule
  pub states : List RecordState

-- it is well-formed
pub record IsSetting (a : ServerSetting) : Type 0 where
  pub port : a.port < 2 ^ 16
  pub records : (i : ℕ) (r : RecordState) → At a.states i r → IsRecord r

-- A row of calls, from a new server's core on, leads here: to this core, and to what
-- it did on circuit c.
abbrev pub Rows : Handle → ServerSetting → List Call → ServerAndConduct → Type 0
Rows c a calls now =
    FoldsTo (ByCall c)
    (record { core = new_server a.port a.now a.rules a.states; conduct = nothing_done }) calls now

-- After any row of calls, what the server sent on any circuit is legal: whatever was called,
-- whatever its peers sent.
abbrev pub ServersSendLegally : Type 0
ServersSendLegally =
    (c : Handle) (a : ServerSetting) (calls : List Call) (now : ServerAndConduct) → IsSetting a
    → ((i : ℕ) (it : Call) → At calls i it → IsCall it)
    → Rows c a calls now → LegalServer now.conduct
