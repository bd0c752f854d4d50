-- Working: what one step of an open end comes to.
use Rattle.std.specs.Prelude.{ℕ, ◌≡◌, ◌+◌, ◌<◌, ◌≤◌, ◌++◌, List, Option, None, Some, drop, length}
use Rattle.std.specs.Prelude.{replicate, take}
use Rattle.ca_arena.specs.declared.handle.Handle.{Handle}
use Rattle.ca_dbr.specs.Octets.{AreBytes}
use Rattle.ca_link.specs.Link.{TakesFirst, with_rest}
use Rattle.ca_records.specs.Store.{Store}
use Rattle.ca_text.specs.declared.refusal.Refusal.{Refusal}
use Rattle.ca_text.specs.declared.refusal.Refusal.TheVariants as refusal
use Rattle.ca_text.specs.Limits.{output_limit}
use Rattle.ca_wire.specs.Fields.{Fields}
use Rattle.ca_wire.specs.Stream.{BadAt, NoneBegins, NotBad}
use Rattle.ca_wire.specs.Header.{header_spelling}
use Rattle.ca_wire.specs.Messages.{header_only}
use Rattle.ca_wire.specs.declared.done.Done.{Done}
use Rattle.ca_wire.specs.declared.header.Header.{Header}
use Rattle.ca_wire.specs.declared.reading.Head.{Head}
use Rattle.ca_wire.specs.declared.requests.Wanted.{Wanted}
use Rattle.ca_wire.specs.Reading.{scalar_in}
use Rattle.ca_text.specs.declared.command.Command.{Command}
use Rattle.ca_text.specs.declared.command.Command.TheVariants as command
use Rattle.ca_model.specs.Due.{Action, Due, Knows}
use Rattle.ca_model.specs.Ends.{Why}
use Rattle.ca_model.specs.Ends as why
use Rattle.ca_model.specs.Server.{ServerEnd}
use Rattle.ca_server_circuit.specs.declared.cause.EndCause.{EndCause}
use Rattle.ca_server_circuit.specs.declared.cause.EndCause.TheVariants as cause
use Rattle.ca_server_circuit.specs.declared.step.FollowUp.{FollowUp}
use Rattle.ca_server_circuit.specs.declared.step.EndStep.{EndStep}
use Rattle.ca_server_circuit.specs.declared.step.EndStep.TheVariants.{Breaks, Handled, NeedBytes}
use Rattle.ca_server_circuit.specs.declared.step.EndStep.TheVariants.{OutputFull}
use Rattle.ca_server_circuit.specs.Handling.{AllStay, Does, MayLack, known}

-- the cause, as the statement names it
abbrev pub why_is : EndCause → Why
why_is cause.OutOfMemory = why.OutOfMemory
why_is cause.Misaligned = why.Misaligned
why_is cause.TooLarge = why.TooLarge
why_is cause.Cut = why.Cut

-- the cause for which an end is closed if its link refuses to read
abbrev pub cause_for : Refusal → EndCause
cause_for refusal.Misaligned = cause.Misaligned
cause_for refusal.TooLarge = cause.TooLarge
cause_for _ = cause.OutOfMemory

-- an end that can take its first message, and what is left to be read then
pub record Takes (e : ServerEnd) : Type 0 where
  pub room : length e.link.output < output_limit
  pub m : Fields
  pub rest : List ℕ
  pub takes : TakesFirst e.link m rest

-- the end without its first message
abbrev pub after_first : {e : ServerEnd} → Takes e → ServerEnd
after_first {e} t = record e { link = with_rest t.rest e.link }

-- Why an end breaks: out of memory for its first message, or at a bad header.
abbrev pub BreaksBy : (port : ℕ) → Store → ServerEnd → EndCause → Type 0
BreaksBy port s e cause.OutOfMemory =
    (t : Takes e) × AreBytes e.link.input.bytes × MayLack (known port s (after_first t)) t.m
BreaksBy port s e cause.Misaligned =
    (length e.link.output < output_limit) × BadAt e.link.input.bytes refusal.Misaligned
BreaksBy port s e cause.TooLarge =
    (length e.link.output < output_limit) × BadAt e.link.input.bytes refusal.TooLarge
BreaksBy port s e cause.Cut = ⊥

-- One step of an open end on this circuit: what it did, and left. An end that breaks is to be
-- closed, with what waited before.
abbrev pub EndSteps : (port : ℕ) → Handle → ServerEnd → Store → EndStep → ServerEnd → Store → Type 0
EndSteps port h e s OutputFull new t = (output_limit ≤ length e.link.output) × (new ≡ e) × (t ≡ s)
EndSteps port h e s NeedBytes new t =
    (length e.link.output < output_limit) × NoneBegins e.link.input.bytes
    × NotBad e.link.input.bytes × (new ≡ e) × (t ≡ s)
EndSteps port h e s (Handled did) new t =
    (x : Takes e) × Does (Due (known port s (after_first x)) x.m) s h (after_first x) x.m did t new
EndSteps port h e s (Breaks c) new t =
    BreaksBy port s e c × (new.link.output ≡ e.link.output) × AllStay e.channels new.channels
    × (t ≡ s)

-- the end without its first message, of 24 bytes
abbrev pub after_scalar : ServerEnd → ServerEnd
after_scalar e = record e { link = with_rest (drop 24 e.link.input.bytes) e.link }

-- What is due by this relation was done for the first message, which is of this command, names
-- this, and is 24 bytes.
abbrev pub DoesScalar : (Knows → Fields → List Fields → Action → Type 0) → Command → Wanted → Handle
    → Store → ServerEnd → FollowUp → Store → ServerEnd → Type 0
DoesScalar D c w h s e did t new =
    (port : ℕ)
    → Does (D (known port s (after_scalar e)) (scalar_in e.link.input.bytes c w)) s h
    (after_scalar e) (scalar_in e.link.input.bytes c w) did t new

-- What a fast path answers: none, and then nothing has changed; or what it did, which is
-- a step as any other.
abbrev pub IsFast : Handle → ServerEnd → Store → Option EndStep → ServerEnd → Store → Type 0
IsFast h e s None new t = (new ≡ e) × (t ≡ s)
IsFast h e s (Some did) new t = (port : ℕ) → EndSteps port h e s did new t

-- the reply to a WRITE_NOTIFY of one element that names this
abbrev pub done_for : Wanted → Done
done_for w = record { data_type = w.data_type; id = w.id }

-- ---- a first message that is handled where it came

-- the message of this header with this payload
abbrev pub message_of : Header → List ℕ → Fields
message_of h payload =
    record {
      command = h.command;
      data_type = h.data_type;
      count = h.count;
      p1 = h.p1;
      p2 = h.p2;
      payload = payload;
    }

-- the message at the front of these bytes, which has this header
abbrev pub first_at : List ℕ → Head → Fields
first_at bytes head = message_of head.header (take head.header.size (drop head.start bytes))

-- the end without it
abbrev pub after_head : Head → ServerEnd → ServerEnd
after_head head e =
    record e { link = with_rest (drop (head.start + head.header.size) e.link.input.bytes) e.link }

-- the ERROR with this CID that says this status, and quotes this header
abbrev pub error_on : ℕ → ℕ → Header → Fields
error_on cid status h =
    record (header_only command.Error) {
      p1 = cid;
      p2 = status;
      payload = header_spelling h ++ replicate 8 0;
    }

-- what a header of a request on a channel names
abbrev pub named_by : Header → Wanted
named_by h = record { sid = h.p1; id = h.p2; data_type = h.data_type; count = h.count }
