-- Vocabulary: record files, which say the records of a server and the rules of access: what their
-- lines say, one after another.
use Rattle.std.specs.Prelude.{ℕ, ◌≡◌, ◌⊎◌, List, [], ◌∷◌, ◌++◌, codes}
use Rattle.ca_records.specs.Record.{RecordState}
use Rattle.ca_records.specs.Rules.{Rule}
use Rattle.ca_script.specs.declared.record_file.RecordFile.{RecordFile}
use Rattle.ca_script.specs.Grammar.{Lead, lines_of}
use Rattle.ca_script.specs.Lines.{SaysRecord, SaysRule}

-- what has been read: records and rules, in order
pub record FileReading : Type 0 where
  pub records : List RecordState
  pub rules : List Rule

abbrev pub file_reading : RecordFile → FileReading
file_reading f = record { records = f.records; rules = f.rules.items }

abbrev pub no_lines : FileReading
no_lines = record { records = []; rules = [] }

-- a record of a new name, after the others
pub record TakesRecord (old : FileReading) (words : List (List ℕ))
    (new : FileReading) : Type 0 where
  pub rest : List (List ℕ)
  pub records : List RecordState
  pub are : words ≡ codes "record" ∷ rest
  pub says : SaysRecord rest old.records records
  pub after : new ≡ record old { records = records }

-- a rule, after the others
pub record TakesRule (old : FileReading) (words : List (List ℕ)) (new : FileReading) : Type 0 where
  pub rest : List (List ℕ)
  pub rule : Rule
  pub are : words ≡ codes "rule" ∷ rest
  pub says : SaysRule rest rule
  pub after : new ≡ record old { rules = old.rules ++ rule ∷ [] }

-- from old, a line of these words leads to new
abbrev pub TakesLine : FileReading → List (List ℕ) → FileReading → Type 0
TakesLine old words new = TakesRecord old words new ⊎ TakesRule old words new

-- what a text reads as: lines of records and of rules in any order
abbrev pub SaysFile : List ℕ → FileReading → Type 0
SaysFile text file = Lead TakesLine no_lines (lines_of text) file
