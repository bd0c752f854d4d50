-- Whole runs of a reader: bytes come in pieces, and messages are taken in between.
use Rattle.std.specs.Prelude.{ℕ, ◌≡◌, false, List, [], ◌∷◌, ◌++◌, Some, Ok}
use Rattle.ca_wire.specs.Fields.{Fields}
use Rattle.ca_wire.specs.Stream.{Held}
use Rattle.ca_wire.specs.Reading.{Gives, Nexts}

pub data Call : Type 0 where
  Gave : List ℕ → Call
  Took : Fields → Call

-- these calls in a row lead from old to new
abbrev pub Trace : Held → List Call → Held → Type 0
Trace old [] new = new ≡ old
Trace old (Gave bytes ∷ calls) new =
    (mid : Held) × Gives old bytes (Ok tt) mid × Trace mid calls new
Trace old (Took m ∷ calls) new = (mid : Held) × Nexts old (Ok (Some m)) mid × Trace mid calls new

-- all bytes that came
abbrev pub given_by : List Call → List ℕ
given_by [] = []
given_by (Gave bytes ∷ calls) = bytes ++ given_by calls
given_by (Took m ∷ calls) = given_by calls

-- all messages that were taken
abbrev pub taken_by : List Call → List Fields
taken_by [] = []
taken_by (Gave bytes ∷ calls) = taken_by calls
taken_by (Took m ∷ calls) = m ∷ taken_by calls

abbrev pub empty : Held
empty = record { bytes = []; closed = false }
