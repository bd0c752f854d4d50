-- The words of a report.
use Rattle.std.specs.Prelude.{ℕ, List, ◌++◌, codes, decimal}
use Rattle.hex.specs.Hex.{encode_lower}
use Rattle.ca_text.specs.Refusal.{refusal_number}
use Rattle.ca_dbr.specs.declared.value.Outcome.{Outcome}
use Rattle.ca_dbr.specs.declared.value.Outcome.TheVariants as outcome
use Rattle.ca_dbr.specs.Elements.{Elements, base_of, bytes_of, count_of, elements}
use Rattle.ca_dbr.specs.Types.{base_number}

-- a word and a number: the number is after a space
abbrev pub counted : List ℕ → ℕ → List ℕ
counted word n = word ++ decimal n

-- a value: the number of its type, how many elements it has, and their bytes
abbrev pub value_text : Elements → List ℕ
value_text e =
    counted (codes " value ") (base_number (base_of e)) ++
    (counted (codes " ") (count_of e) ++ (codes " " ++ encode_lower (bytes_of e)))

-- what became of a request
abbrev pub outcome_text : Outcome → List ℕ
outcome_text (outcome.Value v m) = value_text (elements v)
outcome_text (outcome.Displayed v m d) = value_text (elements v)
outcome_text outcome.Done = codes " done"
outcome_text (outcome.Failed status) = counted (codes " status ") status.number
outcome_text (outcome.Unreadable refusal) = counted (codes " unreadable ") (refusal_number refusal)
outcome_text outcome.Disconnected = codes " disconnected"

-- the last line: how many events were done
abbrev pub end_text : ℕ → List ℕ
end_text events = counted (codes "events ") events ++ codes "\n"
