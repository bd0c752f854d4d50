-- The bytes of headers (section "Message Structure").
use Rattle.std.specs.Prelude.{ℕ, ◌≡◌, ◌<◌, ◌^◌, ◌&&◌, ◌++◌, ◌⊎◌, List, nat_lt, if◌then◌else◌}
use Rattle.std.specs.Int.{w16, w32, to_be_bytes}
use Rattle.ca_wire.specs.declared.header.Header.{Header}

-- two bytes, the high one first
unfoldable pub number16 : ℕ → List ℕ
number16 n = to_be_bytes w16 n

-- four bytes, the highest first
unfoldable pub number32 : ℕ → List ℕ
number32 n = to_be_bytes w32 n

-- sixteen bytes: command, payload size, data type and data count of 16 bits each, and two
-- parameters of 32 bits
unfoldable pub short_header : Header → List ℕ
short_header h =
    number16 h.command
    ++ (number16 h.size
    ++ (number16 h.data_type ++ (number16 h.count ++ (number32 h.p1 ++ number32 h.p2))))

-- 24 bytes: the same with 0xFFFF in place of the size and some count of 16 bits, then size and
-- count of 32 bits each
unfoldable pub extended_header : ℕ → Header → List ℕ
extended_header count16 h =
    number16 h.command
    ++ (number16 65535
    ++ (number16 h.data_type
    ++ (number16 count16
    ++ (number32 h.p1 ++ (number32 h.p2 ++ (number32 h.size ++ number32 h.count))))))

-- A header as it is written: short if size and count are both below 65,535, else
-- extended with a count of 0.
unfoldable pub header_spelling : Header → List ℕ
header_spelling h =
    if nat_lt h.size 65535 && nat_lt h.count 65535 then short_header h else extended_header 0 h

-- Each field has its width.
pub record HeaderFits (h : Header) : Type 0 where
  pub command : h.command < 2 ^ 16
  pub data_type : h.data_type < 2 ^ 16
  pub size : h.size < 2 ^ 32
  pub count : h.count < 2 ^ 32
  pub p1 : h.p1 < 2 ^ 32
  pub p2 : h.p2 < 2 ^ 32

pub record SpellsShort (bytes : List ℕ) (h : Header) : Type 0 where
  pub size : h.size < 65535
  pub count : h.count < 65536
  pub are : bytes ≡ short_header h

pub record SpellsExtended (bytes : List ℕ) (h : Header) : Type 0 where
  pub count16 : ℕ
  pub count : count16 < 65536
  pub are : bytes ≡ extended_header count16 h

-- Bytes that are read as this header: extended exactly if the size field is 0xFFFF. The 16-bit
-- count of the extended form is ignored, and small numbers in extended form are accepted.
pub record HeaderSpells (bytes : List ℕ) (h : Header) : Type 0 where
  pub fits : HeaderFits h
  pub form : SpellsShort bytes h ⊎ SpellsExtended bytes h
