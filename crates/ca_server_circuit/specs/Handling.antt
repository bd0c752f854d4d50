-- Working: what the end of a circuit makes of one message, with the records of its server.
use Rattle.std.specs.Prelude.{ℕ, ◌≡◌, ◌==◌, ◌&&◌, ◌⊎◌, Bool, true, false, List, [], Some, map}
use Rattle.std.specs.Prelude.{option_map}
use Rattle.ca_arena.specs.declared.handle.Handle.{Handle}
use Rattle.ca_ids.specs.Table.{Table, by_wire, held, is_full, same_handle, under}
use Rattle.ca_ids.specs.Wire.{wire_of}
use Rattle.ca_link.specs.Link.{with_sent}
use Rattle.ca_records.specs.declared.puts.Put.{Put}
use Rattle.ca_records.specs.declared.puts.Stamp.{Stamp}
use Rattle.ca_records.specs.Puts.{Record, record_named, with_record, with_waiting, with_write}
use Rattle.ca_records.specs.Puts.{withdrawn, written_meta}
use Rattle.ca_records.specs.Store.{HasAt, Store, records_of}
use Rattle.ca_text.specs.Command.{command_number}
use Rattle.ca_text.specs.declared.command.Command.TheVariants as command
use Rattle.ca_text.specs.Status.{bad_channel}
use Rattle.ca_wire.specs.Fields.{Fields}
use Rattle.ca_wire.specs.Messages.{error_reply, status_reply}
use Rattle.ca_model.specs.Due.{Action, Adds, Applies, Clears, Due, EventDue, IsCreated}
use Rattle.ca_model.specs.Due.{IsNotCreated, Knows, Nothing, Opens, PutDue, ReadDue}
use Rattle.ca_model.specs.Due.{StrayDue, Waits, WriteDue}
use Rattle.ca_model.specs.Server.{OpenChannel, Server, ServerEnd, key_of}
use Rattle.ca_model.specs.ServerSteps.{Acts, IsPut, NeedsMemory, known_channel, known_record}
use Rattle.ca_server_circuit.specs.Effects.{effect_due}
use Rattle.ca_server_circuit.specs.declared.effect.Effect.{Effect}
use Rattle.ca_server_circuit.specs.declared.effect.Effect.TheVariants as told
use Rattle.ca_server_circuit.specs.declared.step.FollowUp.{FollowUp}
use Rattle.ca_server_circuit.specs.declared.step.FollowUp.TheVariants as effect

-- ---- the end

-- these messages wait after the others
abbrev pub replied : List Fields → ServerEnd → ServerEnd
replied ms e = record e { link = with_sent ms e.link }

-- what a server of this port and these records knows on a circuit: `knows` of it
abbrev pub known : (port : ℕ) → Store → ServerEnd → Knows
known port s e = record {
  port = port;
  rules = s.rules;
  record_of = λ (name : List ℕ). option_map known_record (record_named (records_of s) name);
  greeted = e.greeted;
  peer = e.peer;
  settled = e.settled;
  channels = map known_channel (held e.channels);
  full = is_full e.channels;
  keys = map key_of e.subscriptions;
}

-- the record of each open channel is there, unless that is retired
abbrev pub AreServed : List Record → Table OpenChannel → Type 0
AreServed records t =
    (h : Handle) (c : OpenChannel) → under t h ≡ Some c → c.retired ≡ false
    → (r : Record) × (record_named records c.name ≡ Some r)

-- each channel that is open stays so
abbrev pub AllStay : Table OpenChannel → Table OpenChannel → Type 0
AllStay old new = (h : Handle) (c : OpenChannel) → under old h ≡ Some c → under new h ≡ Some c

-- ---- what a message does

-- What a message makes of the records under a stamp: `Records` of the server round them.
abbrev pub Recorded : List Record → Stamp → Handle → ServerEnd → Fields → Action → List Record
    → Type 0
Recorded rs s h e m (Applies name value false) new =
    new ≡ with_record name (with_write value s) rs
Recorded rs s h e m (Applies name value true) new =
    (p : Put) × IsPut h e m p
    × (new
    ≡ with_record name
    (λ (r : Record). record (with_write value s r) { busy = Some p }) rs)
Recorded rs s h e m (Waits name value) new =
    (p : Put) × IsPut h e m p
    × (new ≡ with_record name (with_waiting (record { put = p; value = value })) rs)
Recorded rs s h e m (Clears sid) new =
    new ≡ withdrawn (λ (p : Put). same_handle p.circuit h && wire_of p.channel == sid) rs
Recorded rs s h e m action new = new ≡ rs

-- A channel is created by a CREATE_CHAN, to a record that is there; and a put waits on the record
-- of its channel, and a subscription begins on that of its own.
abbrev pub Fits : List Record → ServerEnd → Fields → Action → Type 0
Fits rs e m (Opens c) =
    (r : Record) × (record_named rs c.name ≡ Some r)
    × (m.command ≡ command_number command.CreateChannel)
Fits rs e m (Waits name value) =
    (c : Handle × OpenChannel) × (by_wire e.channels m.p1 ≡ Some c) × (c.1.name ≡ name)
    × (c.1.retired ≡ false)
Fits rs e m (Adds x) =
    (c : Handle × OpenChannel) × (by_wire e.channels m.p1 ≡ Some c) × (c.1.name ≡ x.name)
    × (c.1.retired ≡ false) × (x.wanted.sid ≡ m.p1)
Fits rs e m action = Unit {0}

-- whether a write was applied
abbrev pub is_wrote : FollowUp → Bool
is_wrote (effect.Wrote place busies sid) = true
is_wrote _ = false

-- what a message did that left this to do
abbrev pub effect_of : FollowUp → Effect
effect_of (effect.Quiet did) = did
effect_of (effect.Wrote place true sid) = told.Busied sid
effect_of (effect.Wrote place false sid) = told.Wrote sid
effect_of (effect.Began place sid sub) = told.Subscribed sid sub
effect_of (effect.Opened place sid) = told.Created sid

-- What an action leaves the server to do, by the places of records: a write that was applied is to
-- reach the subscriptions of its record, which has its value, its alarm and the stamp now; and a
-- subscription began, or a channel was created. Any other leaves nothing, and is told.
abbrev pub Tells : Fields → Action → FollowUp → Store → Type 0
Tells m (Applies name value busies) did t =
    (place : ℕ) × (r : Record) × (did ≡ effect.Wrote place busies m.p1) × HasAt t place r
    × (r.state.name ≡ name) × (r.state.value ≡ value)
    × (r.state.meta ≡ written_meta value t.stamp)
Tells m (Adds x) did t =
    (place : ℕ) × (r : Record) × (did ≡ effect.Began place x.wanted.sid x.wanted.id)
    × HasAt t place r × (r.state.name ≡ x.name)
Tells m (Opens c) did t =
    (place : ℕ) × (r : Record) × (did ≡ effect.Opened place c.sid) × HasAt t place r
    × (r.state.name ≡ c.name)
Tells m action did t = did ≡ effect.Quiet (effect_due m action)

-- What is due by this relation was done: the replies wait, and so the records and
-- the end are after it.
pub record Does (D : List Fields → Action → Type 0) (s : Store) (h : Handle) (e : ServerEnd)
    (m : Fields) (did : FollowUp) (t : Store) (new : ServerEnd) : Type 0 where
  pub replies : List Fields
  pub action : Action
  pub due : D replies action
  pub acted : ServerEnd
  pub acts : (y : Server) → y.records ≡ records_of s → Acts y e action acted
  pub records : Recorded (records_of s) s.stamp h e m action (records_of t)
  pub rules : t.rules ≡ s.rules
  pub stamp : t.stamp ≡ s.stamp
  pub tells : Tells m action did t
  pub fits : Fits (records_of s) e m action
  pub leaves : new ≡ replied replies acted

-- Only replies go out that are due by this relation.
pub record Replies (D : List Fields → Action → Type 0) (e new : ServerEnd) : Type 0 where
  pub replies : List Fields
  pub due : D replies Nothing
  pub leaves : new ≡ replied replies e

-- Whatever is due for the message, there may be no memory for it. That something is always
-- due is not shown here.
abbrev pub MayLack : Knows → Fields → Type 0
MayLack k m =
    (replies : List Fields) (action : Action) → Due k m replies action
    → NeedsMemory m replies action

-- ---- by commands: the relations of `Due`

-- READ_NOTIFY
abbrev pub Reads : Knows → Fields → List Fields → Action → Type 0
Reads k m replies action =
    ReadDue k m replies action ⊎ StrayDue k m (λ cid. status_reply m bad_channel) replies action

-- WRITE
abbrev pub Writes : Knows → Fields → List Fields → Action → Type 0
Writes k m replies action =
    WriteDue k m replies action ⊎ StrayDue k m (λ cid. error_reply cid bad_channel m) replies action

-- WRITE_NOTIFY
abbrev pub Puts : Knows → Fields → List Fields → Action → Type 0
Puts k m replies action =
    PutDue k m replies action ⊎ StrayDue k m (λ cid. status_reply m bad_channel) replies action

-- EVENT_ADD
abbrev pub Subscribes : Knows → Fields → List Fields → Action → Type 0
Subscribes k m replies action =
    EventDue k m replies action ⊎ StrayDue k m (λ cid. error_reply cid bad_channel m) replies action

-- CREATE_CHAN
abbrev pub Creates : Knows → Fields → List Fields → Action → Type 0
Creates k m replies action = IsCreated k m replies action ⊎ IsNotCreated k m replies action

-- ---- equations

-- after a VERSION
abbrev pub greeting : Bool → List Fields → List Fields
greeting true ms = []
greeting false ms = ms
