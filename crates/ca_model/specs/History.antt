-- Statement: what happened, as lists. A world keeps these lists beside its clients and servers.
use Rattle.std.specs.Prelude.{ℕ, Bool, List, Option}
use Rattle.ca_text.specs.declared.refusal.Refusal.{Refusal}
use Rattle.ca_dbr.specs.declared.value.Outcome.{Outcome}
use Rattle.ca_dbr.specs.Elements.{Elements}
use Rattle.ca_records.specs.Record.{RecordState}
use Rattle.ca_wire.specs.Fields.{Fields}
use Rattle.ca_model.specs.Speech.{Stored}

-- A request: a read, a put with notification, or a plain write. Reads and puts are numbered
-- together, and plain writes apart.
pub data Kind : Type 0 where
  Read Put Write : Kind

-- What a caller asks on a channel. Requests and subscriptions have numbers.
pub data Ask : Type 0 where
  Create Clear : Ask
  Request : Kind → ℕ → Ask
  Subscribe Cancel : ℕ → Ask

-- The intent of a client's message: to ask this on the channel of this number, or to serve
-- the circuit as a whole.
pub data Intent : Type 0 where
  On : ℕ → Ask → Intent
  OfCircuit : Intent

-- The cause of a server's message: it replies, its channel's record was removed, or it updates with
-- the post of this number.
pub data Cause : Type 0 where
  Reply Removal : Cause
  Update : ℕ → Cause

-- A message that the client sent, and its intent.
pub record Sent : Type 0 where
  pub message : Fields
  pub intent : Intent

-- A message that the server sent, the place of the client's message that it is
-- about, and its cause.
pub record Told : Type 0 where
  pub message : Fields
  pub place : ℕ
  pub cause : Cause

-- A step of an end: how many messages it had sent and how long its log was before, and how
-- long its log was after.
pub record Step : Type 0 where
  pub sent : ℕ
  pub logged : ℕ
  pub after : ℕ

-- A circuit: the life of a client and the life of a server that it joins; what each sent; the
-- server's steps on the one and the client's on the other; the updates that wait in the server's
-- queues, by place and cause; and which ends are open.
pub record Circuit : Type 0 where
  pub client : ℕ
  pub server : ℕ
  pub up : List Sent
  pub down : List Told
  pub handled : List Step
  pub heard : List Step
  pub queued : List (ℕ × Cause)
  pub client_open : Bool
  pub server_open : Bool

-- The log of a server's life: a record of this number was added or removed; a record was posted,
-- with a mask; the write at a place of a circuit waits for a record with a value, or was applied to
-- it and made it busy or not; it was finished or withdrawn.
pub data Entry : Type 0 where
  Added : ℕ → RecordState → Entry
  Removed : ℕ → Entry
  Posted : ℕ → ℕ → Stored → Entry
  Waits : ℕ → ℕ → ℕ → Stored → Entry
  Applied : ℕ → ℕ → ℕ → Stored → Bool → Entry
  Finished Withdrawn : ℕ → ℕ → Entry

-- What a call asks for, beside its intent: of a read the type and the count; of a subscription
-- these and the mask; of a write the value; of another nothing.
pub data Wish : Type 0 where
  Nothing : Wish
  ToRead : (data_type count : ℕ) → Wish
  ToWatch : (data_type count mask : ℕ) → Wish
  ToWrite : Elements → Wish

-- The log of a client's life: a channel was opened under a name; another call was accepted, with
-- what it asks for; a notice told the outcome of an intent, or an update of a subscription; a
-- call was refused; a request was collected or given up, with the place of the line that tells its
-- outcome, if there is one.
pub data Line : Type 0 where
  Opened : ℕ → List ℕ → Line
  Called : Intent → Wish → Line
  Noticed Updated : Intent → Outcome → Line
  Refused : Refusal → Line
  Collected GaveUp : ℕ → Option ℕ → Line

-- A world: its circuits, and the logs of all lives of its clients and its servers. A
-- restart begins a new life.
pub record World : Type 0 where
  pub circuits : List Circuit
  pub clients : List (List Line)
  pub servers : List (List Entry)
