-- The words of `answer [--records FILE]`.
use Rattle.std.specs.Prelude.{◌≡◌, List, [], Option, None, Some, true, false, codes, option_map}
use Rattle.clap.specs.Words.{App, Text, fault_of, first_of, matches_of, new_app, with_rule}
use Rattle.ca.specs.declared.answer.line.AnswerLine.{AnswerLine}
use Rattle.ca.specs.RepeaterWords.{valued}
use Rattle.ca.specs.Words.{has_escape}

-- the one option, at most once, and no help
abbrev pub answer_app : App
answer_app =
    let bare = new_app (codes "answer") in
    with_rule (record bare {
      top = record bare.top { no_binary_name = true; disable_help_flag = true };
    }) (valued (codes "records"))

-- The words after `answer` name this file of records, or none: clap finds no fault in them, and
-- it is what they give.
abbrev pub Wants : List Text → Option Text → Type 0
Wants words file =
    (has_escape words ≡ false) × (fault_of answer_app words ≡ [])
    × (first_of (codes "records") (matches_of answer_app words) ≡ file)

-- the file that a line names
abbrev pub file_in : AnswerLine → Option Text
file_in line = option_map (λ t. t.now) line.records

-- What was read of the words after `answer`: the line that they ask for, or nothing
-- if they ask for none.
abbrev pub IsWanted : List Text → Option AnswerLine → Type 0
IsWanted words (Some line) = Wants words (file_in line)
IsWanted words None = (file : Option Text) → Wants words file → ⊥
