-- Vocabulary: the lines of a script's head and of a record file, after their first words.
use Rattle.std.specs.Prelude.{ℕ, ℤ, pos, ◌≡◌, ◌<◌, ◌≤◌, ◌-◌, ◌^◌, ⊤, Bool, true, false, Option}
use Rattle.std.specs.Prelude.{Some, None, List, [], ◌∷◌, ◌++◌, length, replicate, codes}
use Rattle.std.specs.Prelude.{slice_index, FitsSigned, Ok}
use Rattle.std.specs.Int.{from_be_bytes, w16, w32}
use Rattle.std.specs.Str.Parse.{IsNumeral, signed_digits_value, without_leading_sign}
use Rattle.hex.specs.Hex.{decode_of}
use Rattle.ca_text.specs.Limits.{payload_limit}
use Rattle.ca_dbr.specs.declared.data_type.BaseType.{BaseType}
use Rattle.ca_dbr.specs.declared.data_type.BaseType.TheVariants as base
use Rattle.ca_dbr.specs.Elements.{Elements, strings, ints, floats, enums, chars, longs, doubles}
use Rattle.ca_dbr.specs.Elements.{displayed, base_of, bytes_4, bytes_8}
use Rattle.ca_records.specs.Record.{IsRecord, RecordState, unset}
use Rattle.ca_records.specs.Records.{IsServed}
use Rattle.ca_records.specs.Rules.{Rule}
use Rattle.ca_script.specs.Grammar.{AreNumbers, IsNumber, parted}

-- four numbers below 256, separated by dots: the bytes of an address, the highest first
pub record IsAddress (text : List ℕ) (address : ℕ) : Type 0 where
  pub a : ℕ
  pub b : ℕ
  pub c : ℕ
  pub d : ℕ
  pub are : AreNumbers (parted 46 text) (a ∷ b ∷ c ∷ d ∷ [])
  pub bytes : (a < 256) × (b < 256) × (c < 256) × (d < 256)
  pub is : address ≡ from_be_bytes w32 (a ∷ b ∷ c ∷ d ∷ [])

-- `server A.B.C.D:PORT`
pub record SaysServer (words : List (List ℕ)) (address port : ℕ) : Type 0 where
  pub word : List ℕ
  pub are : words ≡ word ∷ []
  pub host : List ℕ
  pub last : List ℕ
  pub parts : parted 58 word ≡ host ∷ last ∷ []
  pub at : IsAddress host address
  pub of : IsNumber last port
  pub small : port < 2 ^ 16

-- a word is a whole number: digits, and before them a minus if it is below zero
pub record IsWhole (word : List ℕ) (z : ℤ) : Type 0 where
  pub digits : IsNumeral 10 (without_leading_sign word)
  pub plain : slice_index word 0 ≡ 43 → ⊥
  pub value : signed_digits_value 10 word ≡ z

-- a word is a whole number of a type
abbrev pub IsInt : List ℕ → ℤ → Type 0
IsInt word z = IsWhole word z × FitsSigned w16 z

abbrev pub IsLong : List ℕ → ℤ → Type 0
IsLong word z = IsWhole word z × FitsSigned w32 z

abbrev pub IsEnum : List ℕ → ℕ → Type 0
IsEnum word n = IsWhole word (pos n) × (n < 2 ^ 16)

abbrev pub IsChar : List ℕ → ℕ → Type 0
IsChar word n = IsWhole word (pos n) × (n < 2 ^ 8)

-- a word is the hexadecimal digits of these bytes, in either case
abbrev pub IsHex : List ℕ → List ℕ → Type 0
IsHex word bytes = decode_of word ≡ Ok bytes

-- a word is a bit pattern: all its digits, the highest first
abbrev pub IsFloat : List ℕ → ℕ → Type 0
IsFloat word n = IsHex word (bytes_4 n)

abbrev pub IsDouble : List ℕ → ℕ → Type 0
IsDouble word n = IsHex word (bytes_8 n)

-- a word is the digits of the text's first bytes; zeros are after them
abbrev pub IsString : List ℕ → List ℕ → Type 0
IsString word text =
    (bytes : List ℕ) × IsHex word bytes × (length bytes ≤ 40)
    × (text ≡ bytes ++ replicate (40 - length bytes) 0)

-- these words are these elements, one each; no word is empty
abbrev pub AreEach : {A : Type 0} → (List ℕ → A → Type 0) → List (List ℕ) → List A → Type 0
AreEach Is [] [] = ⊤
AreEach Is [] (x ∷ xs) = ⊥
AreEach Is (w ∷ ws) [] = ⊥
AreEach Is (w ∷ ws) (x ∷ xs) = (0 < length w) × Is w x × AreEach Is ws xs

abbrev pub AreElements : List (List ℕ) → Elements → Type 0
AreElements words (strings xs) = AreEach IsString words xs
AreElements words (ints xs) = AreEach IsInt words xs
AreElements words (floats xs) = AreEach IsFloat words xs
AreElements words (enums xs) = AreEach IsEnum words xs
AreElements words (chars xs) = AreEach IsChar words xs
AreElements words (longs xs) = AreEach IsLong words xs
AreElements words (doubles xs) = AreEach IsDouble words xs
AreElements words (displayed d e) = ⊥

abbrev pub type_word : BaseType → List ℕ
type_word base.String = codes "STRING"
type_word base.Int = codes "INT"
type_word base.Float = codes "FLOAT"
type_word base.Enum = codes "ENUM"
type_word base.Char = codes "CHAR"
type_word base.Long = codes "LONG"
type_word base.Double = codes "DOUBLE"

abbrev pub slow_word : Bool → List ℕ
slow_word true = codes "slow"
slow_word false = codes "quick"

-- `record NAME TYPE COUNT quick|slow V1 V2 ..`: a record of a new name is after the old ones
pub record SaysRecord (words : List (List ℕ)) (old new : List RecordState) : Type 0 where
  pub r : RecordState
  pub number : List ℕ
  pub values : List (List ℕ)
  pub are : words ≡ r.name ∷ type_word (base_of r.value) ∷ number ∷ slow_word r.slow ∷ values
  pub count : IsNumber number r.count
  pub elements : AreElements values r.value
  pub meta : r.meta ≡ unset
  pub is : IsRecord r
  pub fresh : IsServed old r.name → ⊥
  pub after : new ≡ old ++ r ∷ []

-- a user and a host of which messages can be made
abbrev pub IsNamed : List ℕ × List ℕ → Type 0
IsNamed c = (length c.0 < payload_limit) × (length c.1 < payload_limit)

-- what a word of a rule stands for: `*` for everything, another word for itself
abbrev pub IsPattern : List ℕ → Option (List ℕ) → Type 0
IsPattern word None = word ≡ codes "*"
IsPattern word (Some w) = (w ≡ word) × (word ≡ codes "*" → ⊥)

-- the word for whether a rule lets read and write
abbrev pub rights_word : (reads writes : Bool) → List ℕ
rights_word true true = codes "rw"
rights_word true false = codes "r"
rights_word false true = codes "w"
rights_word false false = codes "-"

-- `rule USER HOST RECORD rw|r|w|-`
pub record SaysRule (words : List (List ℕ)) (r : Rule) : Type 0 where
  pub user : List ℕ
  pub host : List ℕ
  pub name : List ℕ
  pub are : words ≡ user ∷ host ∷ name ∷ rights_word r.reads r.writes ∷ []
  pub some : (0 < length user) × (0 < length host) × (0 < length name)
  pub fits : IsNamed (user, host)
  pub patterns : IsPattern user r.user × IsPattern host r.host × IsPattern name r.record_name
