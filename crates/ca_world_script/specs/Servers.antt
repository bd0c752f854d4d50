-- Vocabulary: the lines of a server's records and rules.
use Rattle.std.specs.Prelude.{ℕ, ◌≡◌, ◌⊎◌, List, [], ◌∷◌, ◌++◌, codes}
use Rattle.ca_model.specs.Ends.{Address}
use Rattle.ca_model.specs.World.{ServerSetting}
use Rattle.ca_records.specs.Record.{RecordState}
use Rattle.ca_records.specs.Rules.{Rule}
use Rattle.ca_script.specs.Lines.{SaysRecord, SaysRule}

-- a server at this address, without records and rules
abbrev pub header_only : Address → ServerSetting
header_only a = record { address = a; rules = []; records = [] }

-- `record NAME TYPE COUNT quick|slow V1 V2 ..`: a record of a new name, after the others
pub record TakesRecord (old : ServerSetting) (words : List (List ℕ))
    (new : ServerSetting) : Type 0 where
  pub behind : List (List ℕ)
  pub records : List RecordState
  pub are : words ≡ codes "record" ∷ behind
  pub says : SaysRecord behind old.records records
  pub after : new ≡ record old { records = records }

-- `rule USER HOST RECORD rw|r|w|-`: a rule, after the others
pub record TakesRule (old : ServerSetting) (words : List (List ℕ))
    (new : ServerSetting) : Type 0 where
  pub behind : List (List ℕ)
  pub rule : Rule
  pub are : words ≡ codes "rule" ∷ behind
  pub says : SaysRule behind rule
  pub after : new ≡ record old { rules = old.rules ++ rule ∷ [] }

-- from the server old, a line of these words leads to new
abbrev pub TakesLine : ServerSetting → List (List ℕ) → ServerSetting → Type 0
TakesLine old words new = TakesRecord old words new ⊎ TakesRule old words new
