-- Vocabulary: the types in which the values of posts are read.
use Rattle.std.specs.Prelude.{ℕ, ◌≡◌, ◌⊎◌, List, Option, Some, None}
use Rattle.ca_dbr.specs.Elements.{base_of}
use Rattle.ca_dbr.specs.declared.data_type.BaseType.{BaseType}
use Rattle.ca_records.specs.Records.{Names}
use Rattle.ca_text.specs.Place.{At}
use Rattle.ca_model.specs.World.{ServerSetting}

-- the type that the last `add` line names for a record of a server, if there is one
abbrev pub Added : Type 0
Added = (server : ℕ) → (name : List ℕ) → Option BaseType

abbrev pub none_added : Added
none_added = λ server name. None

-- one `add` line more
pub record Adds (server : ℕ) (name : List ℕ) (b : BaseType) (old new : Added) : Type 0 where
  pub own : new server name ≡ Some b
  pub others : (s : ℕ) (n : List ℕ) → ((s ≡ server) × (n ≡ name) → ⊥) → new s n ≡ old s n

-- a `record` line of the server is of this type
pub record IsRecorded (servers : List ServerSetting) (server : ℕ) (name : List ℕ)
    (b : BaseType) : Type 0 where
  pub line : ServerSetting
  pub at : At servers server line
  pub place : ℕ
  pub is : Names line.records name place
  pub typed : base_of is.state.value ≡ b

-- the last line above that defines the record at the server is of this type: the last `add` line,
-- or else the `record` line
abbrev pub HasType : List ServerSetting → Added → (server : ℕ) → (name : List ℕ) → BaseType → Type 0
HasType servers added server name b =
    (added server name ≡ Some b) ⊎ ((added server name ≡ None) × IsRecorded servers server name b)
