-- What is in a stream of bytes.
use Rattle.std.specs.Prelude.{ℕ, ◌≡◌, ◌≢◌, ◌%◌, ◌<◌, ◌++◌, ◌⊎◌, Bool, List, [], ◌∷◌}
use Rattle.ca_text.specs.Limits.{payload_limit}
use Rattle.ca_text.specs.declared.refusal.Refusal.{Refusal}
use Rattle.ca_text.specs.declared.refusal.Refusal.TheVariants.{Misaligned, TooLarge}
use Rattle.ca_wire.specs.declared.header.Header.{Header}
use Rattle.ca_wire.specs.Header.{HeaderSpells}
use Rattle.ca_wire.specs.Fields.{Fields}
use Rattle.ca_wire.specs.Message.{Spells}

-- no complete message begins these bytes
abbrev pub NoneBegins : List ℕ → Type 0
NoneBegins bytes = (m : Fields) (front back : List ℕ) → Spells front m → bytes ≡ front ++ back → ⊥

-- A header earns refusal 2 if its size is no multiple of 8, else 3 if its size is over the limit.
abbrev pub Faults : Header → Refusal → Type 0
Faults h e =
    ((e ≡ Misaligned) × (h.size % 8 ≢ 0))
    ⊎ ((e ≡ TooLarge) × (h.size % 8 ≡ 0) × (payload_limit < h.size))

-- A complete header begins these bytes, and earns this refusal.
pub record BadAt (bytes : List ℕ) (e : Refusal) : Type 0 where
  pub header : Header
  pub head : List ℕ
  pub back : List ℕ
  pub spells : HeaderSpells head header
  pub are : bytes ≡ head ++ back
  pub faults : Faults header e

abbrev pub NotBad : List ℕ → Type 0
NotBad bytes = (e : Refusal) → BadAt bytes e → ⊥

-- the bytes are readings of these messages in order, and then the rest
abbrev pub Begins : List ℕ → List Fields → List ℕ → Type 0
Begins bytes [] rest = bytes ≡ rest
Begins bytes (m ∷ ms) rest =
    (front : List ℕ) × (back : List ℕ) × Spells front m × (bytes ≡ front ++ back)
    × Begins back ms rest

-- The stream of these bytes: messages in order, then a rest that no complete message begins.
pub record IsStream (bytes : List ℕ) (ms : List Fields) (rest : List ℕ) : Type 0 where
  pub reads : Begins bytes ms rest
  pub partial : NoneBegins rest

-- What a reader of a stream holds: the bytes that came and were not given out, and whether
-- a bad header was met.
pub record Held : Type 0 where
  pub bytes : List ℕ
  pub closed : Bool
