-- What the program's words ask for.
use Rattle.std.specs.Prelude.{◌≡◌, List, ◌∷◌, Option, None, Some, codes}
use Rattle.clap.specs.Words.{Text}
use Rattle.ca.specs.declared.line.CommandLine.{CommandLine}
use Rattle.ca.specs.declared.line.CommandLine.TheVariants.{Answer, Repeater, Replay}
use Rattle.ca.specs.AnswerWords.{Wants, file_in}
use Rattle.ca.specs.RepeaterWords.{Asks}
use Rattle.ca.specs.ReplayWords.{Names}

-- The words ask for this line: the first names it, and the others are as it has them.
abbrev pub AsksLine : List Text → CommandLine → Type 0
AsksLine words (Answer line) =
    (rest : List Text) × (words ≡ codes "answer" ∷ rest) × Wants rest (file_in line)
AsksLine words (Repeater line) =
    (rest : List Text) × (words ≡ codes "repeater" ∷ rest) × Asks rest line
AsksLine words (Replay line) =
    (rest : List Text) × (words ≡ codes "replay" ∷ rest) × Names rest line.file.now line.seed

-- What was read of the words: the line that they ask for, or nothing if they ask for none.
abbrev pub IsLine : List Text → Option CommandLine → Type 0
IsLine words (Some line) = AsksLine words line
IsLine words None = (line : CommandLine) → AsksLine words line → ⊥
