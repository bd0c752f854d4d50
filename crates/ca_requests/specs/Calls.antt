-- Vocabulary: what the calls on a client's requests answer and leave.
use Rattle.std.specs.Prelude.{◌≡◌, ◌≢◌, ◌++◌, ◌⊎◌, Bool, true, List, [], ◌∷◌, Option, Some, None}
use Rattle.std.specs.Prelude.{Result, Ok, Err, false, nat_lt}
use Rattle.std.specs.declared.alloc.AllocError.{AllocError}
use Rattle.ca_text.specs.Command.{command_number}
use Rattle.ca_text.specs.declared.command.Command.TheVariants as command
use Rattle.ca_text.specs.declared.refusal.Refusal.{Refusal}
use Rattle.ca_text.specs.declared.refusal.Refusal.TheVariants as refusal
use Rattle.ca_text.specs.Status.{normal}
use Rattle.ca_dbr.specs.declared.value.Outcome.{Outcome}
use Rattle.ca_dbr.specs.Reading.{ReadRefused}
use Rattle.ca_display.specs.Reading.{DisplayRefused}
use Rattle.ca_arena.specs.declared.handle.Handle.{Handle}
use Rattle.ca_ids.specs.Holding.{IsVacant}
use Rattle.ca_ids.specs.Table.{MayGive, Table, under, with_freed, with_held}
use Rattle.ca_wire.specs.Fields.{Fields}
use Rattle.ca_requests.specs.Meaning.{MeansTo}
use Rattle.ca_requests.specs.Requests.{Asked, Draining, Open, Request, Stage, answered_by}
use Rattle.ca_requests.specs.Requests.{in_order_of_issue}
use Rattle.ca_requests.specs.Requests as request

-- the requests in their table, and those of them that are open, in order of issue
pub record Issued : Type 0 where
  pub table : Table Request
  pub order : List Handle

-- these requests, of which those that were issued are still in their order while they are open
abbrev pub with_table : Table Request → Issued → Issued
with_table t x = record { table = t; order = in_order_of_issue (λ (q : Request). true) t x.order }

-- of these, the open ones that the test names, in order of issue
abbrev pub open_of : (Request → Bool) → Issued → List Handle
open_of which x = in_order_of_issue which x.table x.order

-- a request on this channel that is sent on this circuit: it is open
abbrev pub new_request : (channel circuit : Handle) → Asked → Request
new_request channel circuit asked =
    record { channel = channel; circuit = circuit; asked = asked; stage = Open }

-- Of the indices of this channel and this circuit no other channel and no other circuit
-- has an open request.
pub record MayIssue (channel circuit : Handle) (x : Issued) : Type 0 where
  pub on_channel : (q : Handle) (r : Request) → under x.table q ≡ Some r → r.stage ≡ Open
      → r.channel.index ≡ channel.index → r.channel ≡ channel
  pub on_circuit : (q : Handle) (r : Request) → under x.table q ≡ Some r → r.stage ≡ Open
      → r.circuit.index ≡ circuit.index → r.circuit ≡ circuit

-- this request is the last that was issued
abbrev pub issued_last : Handle → Request → Issued → Issued
issued_last q r x = record { table = with_held q r x.table; order = x.order ++ q ∷ [] }

-- why no request is issued under a handle: it is not the one that `vacant` returns; or it is,
-- and there is no memory
abbrev pub WhyNot : Table Request → Handle → Refusal → Type 0
WhyNot t q e =
    ((e ≡ refusal.StaleHandle) × (told : Option Handle) × IsVacant t told × (told ≢ Some q))
    ⊎ ((e ≡ refusal.OutOfMemory) × MayGive t q)

-- From old, this request was issued under the handle that was told, with this answer, and left new.
-- Refused, all is as before: another handle may be told, or none, and this one is stale; or this
-- one may be given, and there is no memory.
abbrev pub Issues : Issued → Handle → Request → Result (Unit {0}) Refusal → Issued → Type 0
Issues old q r (Ok _) new = MayGive old.table q × (new ≡ issued_last q r old)
Issues old q r (Err e) new = (new ≡ old) × WhyNot old.table q e

-- nothing has the IOID of this request
abbrev pub without : Handle → Issued → Issued
without q x = with_table (with_freed q x.table) x

-- the reply has a value, and to read it takes memory
abbrev pub HasImage : Fields → Type 0
HasImage m = (m.p1 ≡ normal) × ReadRefused m.data_type m.count m.payload refusal.OutOfMemory

-- the reply has display data, and to read them takes memory
abbrev pub HasDisplay : Fields → Type 0
HasDisplay m =
    (m.p1 ≡ normal) × DisplayRefused m.data_type m.count m.payload refusal.OutOfMemory

-- to read it takes memory, with display data or without
abbrev pub ReadTakesMemory : (displayed : Bool) → Fields → Type 0
ReadTakesMemory true m = HasDisplay m
ReadTakesMemory false m = HasImage m

-- to read the reply to a request that asked this takes memory
abbrev pub TakesMemory : Asked → Fields → Type 0
TakesMemory (request.Read data_type count) m =
    (m.command ≡ command_number command.ReadNotify) × ReadTakesMemory (nat_lt 20 data_type) m
TakesMemory request.Put m = ⊥

-- A reply completes an open request with the outcome that it means, and ends the draining of an
-- IOID. Only a value takes memory.
abbrev pub Completes : Issued → Fields → Handle → Asked → Stage
    → Result (Option (Handle × Outcome)) AllocError → Issued → Type 0
Completes old m q asked Open (Ok (Some (p, o))) new =
    (p ≡ q) × MeansTo asked m o × (new ≡ without q old)
Completes old m q asked Open (Ok None) new = ⊥
Completes old m q asked Open (Err e) new = TakesMemory asked m × (new ≡ old)
Completes old m q asked Draining (Ok None) new = new ≡ without q old
Completes old m q asked Draining (Ok (Some e)) new = ⊥
Completes old m q asked Draining (Err e) new = ⊥

-- A reply was read that is about this request, or about none.
abbrev pub AnswersOne : Issued → Fields → Option (Handle × Request)
    → Result (Option (Handle × Outcome)) AllocError → Issued → Type 0
AnswersOne old m (Some (q, r)) answer new = Completes old m q r.asked r.stage answer new
AnswersOne old m None (Ok None) new = new ≡ old
AnswersOne old m None (Ok (Some e)) new = ⊥
AnswersOne old m None (Err e) new = ⊥

-- From old, this reply was read on this circuit, with this answer, and left new.
abbrev pub Answers : Issued → Handle → Fields → Result (Option (Handle × Outcome)) AllocError
    → Issued → Type 0
Answers old circuit m answer new =
    AnswersOne old m (answered_by circuit m.command m.p2 old.table) answer new

-- the handle of this request, if it is open
abbrev pub if_open : Handle → Stage → Option Handle
if_open q Open = Some q
if_open q Draining = None

-- the open request that failed, by the command and the id in the header that an ERROR quotes
abbrev pub failed_in : Option (Handle × Request) → Option Handle
failed_in None = None
failed_in (Some (q, r)) = if_open q r.stage

-- the requests without this one, if there is one
abbrev pub without_if : Option Handle → Issued → Issued
without_if None x = x
without_if (Some q) x = without q x
