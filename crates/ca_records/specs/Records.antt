-- The records of a server, and what calls make of them.
use Rattle.std.specs.Prelude.{ℕ, ◌≡◌, List, [], ◌∷◌, ◌++◌, Result, Ok, Err}
use Rattle.ca_text.specs.declared.refusal.Refusal.{Refusal}
use Rattle.ca_text.specs.declared.refusal.Refusal.TheVariants.{OutOfMemory, NameLength, BadCount}
use Rattle.ca_text.specs.Limits.{record_name_limit}
use Rattle.ca_text.specs.Name.{IsName}
use Rattle.ca_text.specs.Place.{At}
use Rattle.ca_dbr.specs.Elements.{Elements}
use Rattle.ca_records.specs.Record.{RecordState, HoldsValue}

-- the record at this place has this name
pub record Names (records : List RecordState) (name : List ℕ) (place : ℕ) : Type 0 where
  pub state : RecordState
  pub at : At records place state
  pub named : state.name ≡ name

-- some record has this name
abbrev pub IsServed : List RecordState → List ℕ → Type 0
IsServed records name = (place : ℕ) × Names records name place

-- the record of this name has this value
pub record Holds (records : List RecordState) (name : List ℕ) (value : Elements) : Type 0 where
  pub place : ℕ
  pub state : RecordState
  pub at : At records place state
  pub named : state.name ≡ name
  pub has : state.value ≡ value

-- no two records have one name
abbrev pub AreApart : List RecordState → Type 0
AreApart records =
    (i j : ℕ) (a b : RecordState) → At records i a → At records j b → a.name ≡ b.name → i ≡ j

-- From old, this record was defined, with this answer, and left new. The name is
-- judged before the value.
abbrev pub Defines : List RecordState → RecordState → Result (Unit {0}) Refusal → List RecordState
    → Type 0
Defines old r (Ok _) new =
    IsName record_name_limit r.name × HoldsValue r.count r.value × (new ≡ old ++ r ∷ [])
Defines old r (Err NameLength) new = (IsName record_name_limit r.name → ⊥) × (new ≡ old)
Defines old r (Err BadCount) new =
    IsName record_name_limit r.name × (HoldsValue r.count r.value → ⊥) × (new ≡ old)
Defines old r (Err OutOfMemory) new =
    IsName record_name_limit r.name × HoldsValue r.count r.value × (new ≡ old)
Defines old r (Err _) new = ⊥
