-- What reading returns.
use Rattle.std.specs.Prelude.{ℕ, ◌≡◌, ◌≢◌, ◌+◌, ◌%◌, ◌≤◌, ◌++◌, List, [], drop, length, take, true}
use Rattle.std.specs.Prelude.{false, Option, Some, None, Result, Ok, Err}
use Rattle.ca_text.specs.Limits.{payload_limit}
use Rattle.ca_text.specs.declared.refusal.Refusal.{Refusal}
use Rattle.ca_text.specs.declared.refusal.Refusal.TheVariants.{OutOfMemory, Misaligned, TooLarge}
use Rattle.ca_text.specs.declared.refusal.Refusal.TheVariants.{CircuitClosed}
use Rattle.ca_wire.specs.declared.header.Header.{Header}
use Rattle.ca_wire.specs.declared.reading.Head.{Head}
use Rattle.ca_wire.specs.declared.reading.One.{One}
use Rattle.ca_wire.specs.declared.reading.One.TheVariants as one
use Rattle.ca_wire.specs.Header.{HeaderSpells}
use Rattle.ca_wire.specs.Fields.{Fields}
use Rattle.ca_wire.specs.Message.{Spells, header_of}
use Rattle.ca_wire.specs.Messages.{on_channel}
use Rattle.ca_wire.specs.declared.requests.Wanted.{Wanted}
use Rattle.ca_text.specs.Command.{command_number}
use Rattle.ca_text.specs.declared.command.Command.{Command}
use Rattle.ca_wire.specs.Stream.{Held, NoneBegins, BadAt, NotBad}

-- no complete header begins these bytes
abbrev pub NoHeader : List ℕ → Type 0
NoHeader bytes =
    (h : Header) (front back : List ℕ) → HeaderSpells front h → bytes ≡ front ++ back → ⊥

-- a complete header begins these bytes
pub record BeginsHeader (bytes : List ℕ) (head : Head) : Type 0 where
  pub header : HeaderSpells (take head.start bytes) head.header
  pub room : head.start ≤ length bytes

-- A message of this command, which names this and has no payload, begins these
-- bytes, in 16 of them.
abbrev pub BeginsHeaderOnly : List ℕ → Command → Wanted → Type 0
BeginsHeaderOnly bytes c w =
    BeginsHeader bytes (record { header = header_of (on_channel c w []); start = 16 })

-- No message of this command without payload begins these bytes, in 16 of them.
abbrev pub NoHeaderOnly : List ℕ → Command → Type 0
NoHeaderOnly bytes c = (w : Wanted) → BeginsHeaderOnly bytes c w → ⊥

-- the header of a message of this command, which names this, with a payload of eight bytes
abbrev pub scalar_header : Command → Wanted → Header
scalar_header c w =
    record {
      command = command_number c;
      data_type = w.data_type;
      size = 8;
      count = w.count;
      p1 = w.sid;
      p2 = w.id;
    }

-- A message of this command, which names this, with a payload of eight bytes, begins these bytes:
-- its header in 16 of them.
pub record BeginsScalar (bytes : List ℕ) (c : Command) (w : Wanted) : Type 0 where
  pub header : HeaderSpells (take 16 bytes) (scalar_header c w)
  pub room : 24 ≤ length bytes

-- No message of this command with a payload of eight bytes begins these bytes, its
-- header in 16 of them.
abbrev pub NoScalar : List ℕ → Command → Type 0
NoScalar bytes c = (w : Wanted) → BeginsScalar bytes c w → ⊥

-- that message, if it begins these bytes
abbrev pub scalar_in : List ℕ → Command → Wanted → Fields
scalar_in bytes c w = on_channel c w (take 8 (drop 16 bytes))

-- A complete message begins these bytes: its header in the first `start` bytes, then
-- `size` bytes of payload.
pub record IsWhole (bytes : List ℕ) (head : Head) : Type 0 where
  pub header : HeaderSpells (take head.start bytes) head.header
  pub room : head.start + head.header.size ≤ length bytes
  pub aligned : head.header.size % 8 ≡ 0
  pub within : head.header.size ≤ payload_limit

abbrev pub IsOne : List ℕ → One → Type 0
IsOne bytes (one.Whole head) = IsWhole bytes head
IsOne bytes one.More = NoneBegins bytes × NotBad bytes
IsOne bytes (one.Bad e) = BadAt bytes e

-- From old, these bytes were given, with this answer, and left new. No bytes need no memory.
abbrev pub Gives : Held → List ℕ → Result (Unit {0}) Refusal → Held → Type 0
Gives old bytes (Ok _) new =
    (old.closed ≡ false) × (new ≡ record { bytes = old.bytes ++ bytes; closed = false })
Gives old bytes (Err CircuitClosed) new = (old.closed ≡ true) × (new ≡ old)
Gives old bytes (Err OutOfMemory) new = (old.closed ≡ false) × (new ≡ old) × (bytes ≢ [])
Gives old bytes (Err _) new = ⊥

-- a message was taken from the front
pub record Takes (old : Held) (m : Fields) (new : Held) : Type 0 where
  pub was_open : old.closed ≡ false
  pub front : List ℕ
  pub spells : Spells front m
  pub bytes : old.bytes ≡ front ++ new.bytes
  pub stays : new.closed ≡ false

-- a message with a payload begins the bytes
pub record HasPayload (bytes : List ℕ) : Type 0 where
  pub m : Fields
  pub front : List ℕ
  pub back : List ℕ
  pub spells : Spells front m
  pub some : m.payload ≢ []
  pub are : bytes ≡ front ++ back

-- the bytes are bad, and the reader is closed for good
pub record Closes (old : Held) (e : Refusal) (new : Held) : Type 0 where
  pub was_open : old.closed ≡ false
  pub bad : BadAt old.bytes e
  pub closed : new ≡ record { bytes = old.bytes; closed = true }

-- From old, the next message was asked for, with this answer, and left new. Only a
-- payload takes memory.
abbrev pub Nexts : Held → Result (Option Fields) Refusal → Held → Type 0
Nexts old (Ok (Some m)) new = Takes old m new
Nexts old (Ok None) new =
    (old.closed ≡ false) × NoneBegins old.bytes × NotBad old.bytes × (new ≡ old)
Nexts old (Err CircuitClosed) new = (old.closed ≡ true) × (new ≡ old)
Nexts old (Err Misaligned) new = Closes old Misaligned new
Nexts old (Err TooLarge) new = Closes old TooLarge new
Nexts old (Err OutOfMemory) new = (old.closed ≡ false) × HasPayload old.bytes × (new ≡ old)
Nexts old (Err _) new = ⊥

-- From old, the next message was asked for, if it is of this command, in 16 bytes without payload;
-- with this answer, and left new.
abbrev pub NextsHeaderOnly : Command → Held → Option Wanted → Held → Type 0
NextsHeaderOnly c old (Some w) new = Nexts old (Ok (Some (on_channel c w []))) new
NextsHeaderOnly c old None new = (old.closed ≡ false → NoHeaderOnly old.bytes c) × (new ≡ old)

-- The first message was asked for, if it is of this command, with a payload of eight bytes, its
-- header in 16; with this answer.
abbrev pub FirstScalar : Command → Held → Option Wanted → Type 0
FirstScalar c h (Some w) = (h.closed ≡ false) × BeginsScalar h.bytes c w
FirstScalar c h None = h.closed ≡ false → NoScalar h.bytes c
