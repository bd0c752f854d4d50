-- Vocabulary: what outcome a message of the server means to the request, the subscription or the
-- channel that it is about (sections "CA_PROTO_READ_NOTIFY", "CA_PROTO_WRITE_NOTIFY",
-- "CA_PROTO_EVENT_ADD", "CA_PROTO_CREATE_CHAN" and "CA_PROTO_ERROR").
use Rattle.std.specs.Prelude.{ℕ, ◌≡◌, ◌≢◌, ◌≤◌, ◌++◌, ◌⊎◌, List, [], Bool, true, false, nat_lt}
use Rattle.ca_text.specs.Command.{command_number}
use Rattle.ca_text.specs.declared.command.Command.TheVariants as command
use Rattle.ca_text.specs.declared.refusal.Refusal.TheVariants.{OutOfMemory}
use Rattle.ca_text.specs.Status.{normal}
use Rattle.ca_dbr.specs.declared.data_type.DataType.{DataType}
use Rattle.ca_dbr.specs.declared.value.Outcome.{Outcome}
use Rattle.ca_dbr.specs.declared.value.Outcome.TheVariants as outcome
use Rattle.ca_dbr.specs.Data.{data_of}
use Rattle.ca_dbr.specs.Elements.{elements}
use Rattle.ca_dbr.specs.Reading.{ReadRefused, Reads}
use Rattle.ca_dbr.specs.Types.{type_number}
use Rattle.ca_display.specs.declared.display_type.DisplayType.{DisplayType}
use Rattle.ca_display.specs.Reading.{DisplayRefused, ReadsDisplay}
use Rattle.ca_display.specs.Types.{display_number}
use Rattle.ca_wire.specs.declared.header.Header.{Header}
use Rattle.ca_wire.specs.Fields.{Fields}
use Rattle.ca_wire.specs.Header.{HeaderSpells}
use Rattle.ca_requests.specs.Requests.{Asked}
use Rattle.ca_requests.specs.Requests as request

-- the message of this header with this payload
abbrev pub message_of : Header → List ℕ → Fields
message_of h payload =
    record {
      command = h.command;
      data_type = h.data_type;
      count = h.count;
      p1 = h.p1;
      p2 = h.p2;
      payload = payload;
    }

-- An image means its value, or why it has none; another status means that the read failed
-- ("CA_PROTO_READ_NOTIFY", "CA_PROTO_EVENT_ADD").
abbrev pub ImageMeans : Fields → Outcome → Type 0
ImageMeans m (outcome.Value v meta) =
    (m.p1 ≡ normal) × (t : DataType) × (type_number t ≡ m.data_type)
    × Reads t m.count m.payload (elements v) meta
ImageMeans m (outcome.Unreadable e) =
    (m.p1 ≡ normal) × (e ≢ OutOfMemory) × ReadRefused m.data_type m.count m.payload e
ImageMeans m (outcome.Failed status) = (m.p1 ≢ normal) × (status.number ≡ m.p1)
ImageMeans m o = ⊥

-- An image with display data means its value and these, or why it has none; another status means
-- that the read failed ("CA_PROTO_READ_NOTIFY").
abbrev pub DisplayMeans : Fields → Outcome → Type 0
DisplayMeans m (outcome.Displayed v meta d) =
    (m.p1 ≡ normal) × (t : DisplayType) × (display_number t ≡ m.data_type)
    × ReadsDisplay t m.count m.payload (elements v) meta (data_of d.value)
DisplayMeans m (outcome.Unreadable e) =
    (m.p1 ≡ normal) × (e ≢ OutOfMemory) × DisplayRefused m.data_type m.count m.payload e
DisplayMeans m (outcome.Failed status) = (m.p1 ≢ normal) × (status.number ≡ m.p1)
DisplayMeans m o = ⊥

-- A status means that a put is done or failed ("CA_PROTO_WRITE_NOTIFY").
abbrev pub StatusMeans : Fields → Outcome → Type 0
StatusMeans m outcome.Done = m.p1 ≡ normal
StatusMeans m (outcome.Failed status) = (m.p1 ≢ normal) × (status.number ≡ m.p1)
StatusMeans m o = ⊥

-- A channel is created ("CA_PROTO_CREATE_CHAN").
abbrev pub CreationMeans : Outcome → Type 0
CreationMeans outcome.Done = Unit {0}
CreationMeans o = ⊥

-- An ERROR means that its request failed ("CA_PROTO_ERROR").
abbrev pub ErrorMeans : Fields → Outcome → Type 0
ErrorMeans m (outcome.Failed status) = status.number ≡ m.p2
ErrorMeans m o = ⊥

-- A message means an outcome, by its command. An EVENT_ADD without payload is no update:
-- it confirms a cancel.
abbrev pub Means : Fields → Outcome → Type 0
Means m o =
    (((m.command ≡ command_number command.ReadNotify)
    ⊎ ((m.command ≡ command_number command.EventAdd) × (m.payload ≢ [])))
    × ImageMeans m o)
    ⊎ (((m.command ≡ command_number command.WriteNotify) × StatusMeans m o)
    ⊎ (((m.command ≡ command_number command.CreateChannel) × CreationMeans o)
    ⊎ ((m.command ≡ command_number command.Error) × ErrorMeans m o)))

-- the reply to a read with display data, or without
abbrev pub ReadMeans : (displayed : Bool) → Fields → Outcome → Type 0
ReadMeans true m o = DisplayMeans m o
ReadMeans false m o = ImageMeans m o

-- what a reply means to the request that it answers: display data to a read of a type over 20
abbrev pub MeansTo : Asked → Fields → Outcome → Type 0
MeansTo (request.Read data_type count) m o =
    (m.command ≡ command_number command.ReadNotify) × ReadMeans (nat_lt 20 data_type) m o
MeansTo request.Put m o = (m.command ≡ command_number command.WriteNotify) × StatusMeans m o

-- It asks for no display data: what its reply means to it, that means by itself.
abbrev pub IsPlain : Asked → Type 0
IsPlain (request.Read data_type count) = data_type ≤ 20
IsPlain request.Put = Unit {0}

-- An ERROR quotes the complete header of the request that failed, before its text.
pub record QuotesHeader (m : Fields) (h : Header) : Type 0 where
  pub head : List ℕ
  pub text : List ℕ
  pub spells : HeaderSpells head h
  pub parts : m.payload ≡ head ++ text
