-- Vocabulary: messages whose payload is made in its place, after the bytes that are there (section
-- "Message Structure").
use Rattle.std.specs.Prelude.{ℕ, ◌≡◌, ◌++◌, List, Result, Ok, Err}
use Rattle.ca_text.specs.declared.refusal.Refusal.{Refusal}
use Rattle.ca_text.specs.declared.refusal.Refusal.TheVariants.{OutOfMemory}
use Rattle.ca_wire.specs.Fields.{Fields, padded}
use Rattle.ca_wire.specs.Message.{spelling}

-- the message with this payload, padded, in place of its own
abbrev pub with_payload : List ℕ → Fields → Fields
with_payload bytes m = record m { payload = padded bytes }

-- The new bytes begin with the old ones.
abbrev pub Extends : List ℕ → List ℕ → Type 0
Extends old new = (more : List ℕ) × (new ≡ old ++ more)

-- A payload, which is these bytes or is refused, was to be put after the old bytes, with this
-- answer, and left new.
abbrev pub Makes : Result (List ℕ) Refusal → List ℕ → Result (Unit {0}) Refusal → List ℕ → Type 0
Makes made old (Ok _) new = (bytes : List ℕ) × (made ≡ Ok bytes) × (new ≡ old ++ bytes)
Makes made old (Err OutOfMemory) new = Extends old new
Makes made old (Err e) new = (made ≡ Err e) × Extends old new

-- A message with such a payload was to be put after the old bytes, with this answer, and left
-- new. It takes memory.
abbrev pub PutsMade : Fields → Result (List ℕ) Refusal → List ℕ → Result (Unit {0}) Refusal → List ℕ
    → Type 0
PutsMade m made old (Ok _) new =
    (bytes : List ℕ) × (made ≡ Ok bytes) × (new ≡ old ++ spelling (with_payload bytes m))
PutsMade m made old (Err OutOfMemory) new = new ≡ old
PutsMade m made old (Err e) new = (made ≡ Err e) × (new ≡ old)

-- The same, but a refusal may leave a beginning of it.
abbrev pub WritesMade : Fields → Result (List ℕ) Refusal → List ℕ → Result (Unit {0}) Refusal
    → List ℕ → Type 0
WritesMade m made old (Ok _) new = PutsMade m made old (Ok tt) new
WritesMade m made old (Err e) new = PutsMade m made old (Err e) old × Extends old new
