-- Messages and their bytes (section "Message Structure").
use Rattle.std.specs.Prelude.{ℕ, ◌≡◌, ◌≢◌, ◌%◌, ◌<◌, ◌≤◌, ◌++◌, List, length, Result, Ok, Err}
use Rattle.std.specs.List.{flat_map}
use Rattle.ca_text.specs.Limits.{payload_limit}
use Rattle.ca_text.specs.declared.refusal.Refusal.{Refusal}
use Rattle.ca_text.specs.declared.refusal.Refusal.TheVariants.{OutOfMemory, TooLarge}
use Rattle.ca_wire.specs.declared.header.Header.{Header}
use Rattle.ca_wire.specs.Header.{HeaderFits, HeaderSpells, header_spelling}
use Rattle.ca_wire.specs.Fields.{Fields, IsPayload, padded}

abbrev pub header_of : Fields → Header
header_of m =
    record {
      command = m.command;
      data_type = m.data_type;
      size = length m.payload;
      count = m.count;
      p1 = m.p1;
      p2 = m.p2;
    }

-- A message: each field has its width, and the payload is one.
pub record IsMessage (m : Fields) : Type 0 where
  pub header : HeaderFits (header_of m)
  pub payload : IsPayload m.payload

-- the one written form of a message
unfoldable pub spelling : Fields → List ℕ
spelling m = header_spelling (header_of m) ++ m.payload

-- the messages one after another
abbrev pub spelled : List Fields → List ℕ
spelled ms = flat_map spelling ms

-- Bytes that are read as this message: a header in either form, then the payload.
pub record Spells (bytes : List ℕ) (m : Fields) : Type 0 where
  pub good : IsMessage m
  pub head : List ℕ
  pub header : HeaderSpells head (header_of m)
  pub are : bytes ≡ head ++ m.payload

-- What making a message of these fields gives: the message with its payload padded; a payload over
-- the limit is refused, and only padding takes memory.
abbrev pub IsMade : Fields → Result Fields Refusal → Type 0
IsMade m (Ok made) = IsMessage made × (made ≡ record m { payload = padded m.payload })
IsMade m (Err TooLarge) = payload_limit < length m.payload
IsMade m (Err OutOfMemory) = (length m.payload ≤ payload_limit) × (length m.payload % 8 ≢ 0)
IsMade m (Err _) = ⊥
