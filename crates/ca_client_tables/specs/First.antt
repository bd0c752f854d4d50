-- Working: what comes first on a circuit. No clause of a caller needs it.
use Rattle.std.specs.Prelude.{ℕ, ◌+◌, List, [], Option, Some, None, drop, option_map, take}
use Rattle.ca_text.specs.declared.refusal.Refusal.TheVariants as refusal
use Rattle.ca_dbr.specs.Octets.{AreBytes}
use Rattle.ca_link.specs.Link.{with_rest}
use Rattle.ca_wire.specs.Fields.{Fields}
use Rattle.ca_wire.specs.declared.reading.Head.{Head}
use Rattle.ca_wire.specs.Reading.{IsWhole}
use Rattle.ca_wire.specs.Stream.{BadAt, NoneBegins, NotBad}
use Rattle.ca_requests.specs.Meaning.{message_of}
use Rattle.ca_model.specs.Client.{ClientCircuit, Connection}
use Rattle.ca_model.specs.Ends as ends
use Rattle.ca_client_tables.specs.declared.first.First.{First}
use Rattle.ca_client_tables.specs.declared.first.First.TheVariants as first
use Rattle.ca_client_tables.specs.Closings.{why_is}

-- a header that earns this end begins these bytes
abbrev pub IsBad : List ℕ → ends.Why → Type 0
IsBad bytes ends.Misaligned = BadAt bytes refusal.Misaligned
IsBad bytes ends.TooLarge = BadAt bytes refusal.TooLarge
IsBad bytes why = ⊥

-- what came first on an end
abbrev pub FirstIn : Connection → First → Type 0
FirstIn e first.Gone = ⊥
FirstIn e first.NeedBytes = NoneBegins e.link.input.bytes × NotBad e.link.input.bytes
FirstIn e (first.Message head) = IsWhole e.link.input.bytes head × AreBytes e.link.input.bytes
FirstIn e (first.Bad why) = IsBad e.link.input.bytes (why_is why)

-- on a circuit, which is connected or not
abbrev pub FirstAt : Option Connection → First → Type 0
FirstAt None first.Gone = Unit {0}
FirstAt None r = ⊥
FirstAt (Some e) r = FirstIn e r

-- the bytes that came and were not read
abbrev pub in_bytes : Option Connection → List ℕ
in_bytes None = []
in_bytes (Some e) = e.link.input.bytes

-- the payload at the front of these bytes, after this header
abbrev pub payload_at : List ℕ → Head → List ℕ
payload_at bytes head = take head.header.size (drop head.start bytes)

-- the message there
abbrev pub first_at : List ℕ → Head → Fields
first_at bytes head = message_of head.header (payload_at bytes head)

-- the end without it
abbrev pub without_front : Head → Connection → Connection
without_front head e =
    record e { link = with_rest (drop (head.start + head.header.size) e.link.input.bytes) e.link }

-- the circuit without it
abbrev pub without_head : Head → ClientCircuit → ClientCircuit
without_head head d = record d { connection = option_map (without_front head) d.connection }
