-- How the lines of a script are read.
use Rattle.std.specs.Prelude.{ℕ, ◌≡◌, ◌<◌, ◌^◌, ◌==◌, if◌then◌else◌, ⊤, List, [], ◌∷◌, Option, Some}
use Rattle.std.specs.Prelude.{None}
use Rattle.std.specs.Str.Parse.{IsNumeral, digits_value}
use Rattle.ca_text.specs.declared.refusal.Refusal.{Refusal}
use Rattle.ca_text.specs.declared.refusal.Refusal.TheVariants.{BadText, OutOfMemory}

-- the first piece with this byte in front of it
abbrev pub longer : ℕ → List (List ℕ) → List (List ℕ)
longer x [] = (x ∷ []) ∷ []
longer x (piece ∷ pieces) = (x ∷ piece) ∷ pieces

-- the pieces of a text between separators: one more than there are separators
unfoldable pub parted : ℕ → List ℕ → List (List ℕ)
parted separator [] = [] ∷ []
parted separator (x ∷ xs) =
    if x == separator then [] ∷ parted separator xs else longer x (parted separator xs)

-- the pieces of what is left, if something is
abbrev pub pieces_left : ℕ → Option (List ℕ) → List (List ℕ)
pieces_left separator None = []
pieces_left separator (Some text) = parted separator text

-- no line is after the last line feed
abbrev pub whole_lines : List (List ℕ) → List (List ℕ)
whole_lines [] = []
whole_lines ([] ∷ []) = []
whole_lines ((x ∷ xs) ∷ []) = (x ∷ xs) ∷ []
whole_lines (line ∷ next ∷ lines) = line ∷ whole_lines (next ∷ lines)

-- the lines of a text: each ends with a line feed, the last one with it or without
abbrev pub lines_of : List ℕ → List (List ℕ)
lines_of text = whole_lines (parted 10 text)

-- a word is a decimal number: digits alone, and at least one; it has at most 64 bits
pub record IsNumber (word : List ℕ) (n : ℕ) : Type 0 where
  pub digits : IsNumeral 10 word
  pub value : digits_value 10 word ≡ n
  pub fits : n < 2 ^ 64

-- these words are these numbers, one each
abbrev pub AreNumbers : List (List ℕ) → List ℕ → Type 0
AreNumbers [] [] = ⊤
AreNumbers [] (n ∷ ns) = ⊥
AreNumbers (w ∷ ws) [] = ⊥
AreNumbers (w ∷ ws) (n ∷ ns) = IsNumber w n × AreNumbers ws ns

-- Lines in a row lead from old to new, each as the relation says of its words.
abbrev pub Lead : {S : Type 0} → (S → List (List ℕ) → S → Type 0) → S → List (List ℕ) → S → Type 0
Lead Adds old [] new = new ≡ old
Lead {S} Adds old (line ∷ lines) new =
    (mid : S) × Adds old (parted 32 line) mid × Lead Adds mid lines new

-- Why a text is refused: as one that says nothing of this kind, or as out of memory.
abbrev pub Refuses : {A : Type 0} → (A → Type 0) → Refusal → Type 0
Refuses Says BadText = (x : _) → Says x → ⊥
Refuses Says OutOfMemory = ⊤
Refuses Says _ = ⊥
