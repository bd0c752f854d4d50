-- The words of `replay FILE [--seed N]`.
use Rattle.std.specs.Prelude.{ℕ, ◌≡◌, List, [], Option, None, Some, true, false, codes}
use Rattle.clap.specs.Words.{App, Text, fault_of, first_of, matches_of, new_app, new_rule}
use Rattle.clap.specs.Words.{with_rule}
use Rattle.ca.specs.declared.replay.line.ReplayLine.{ReplayLine}
use Rattle.ca.specs.RepeaterWords.{MeansCount, valued}
use Rattle.ca.specs.Words.{has_escape}

-- one word that is no option, an option that is given at most once, and no help
abbrev pub replay_app : App
replay_app =
    let bare = new_app (codes "replay") in
    with_rule (with_rule (record bare {
      top = record bare.top { no_binary_name = true; disable_help_flag = true };
    }) (new_rule (codes "file"))) (valued (codes "seed"))

-- the value of this name among words that clap takes
abbrev pub given : List ℕ → List Text → Option Text
given name words = first_of name (matches_of replay_app words)

-- Values of these names mean this file and this seed: the seed is decimal, if there is one.
abbrev pub Means : (given_file given_seed : Option Text) → Text → Option ℕ → Type 0
Means given_file given_seed file seed = (given_file ≡ Some file) × MeansCount given_seed seed

-- What was made of such values: the line that they mean, or nothing if they mean none.
abbrev pub IsMeant : (given_file given_seed : Option Text) → Option ReplayLine → Type 0
IsMeant given_file given_seed (Some line) = Means given_file given_seed line.file.now line.seed
IsMeant given_file given_seed None =
    (file : Text) (seed : Option ℕ) → Means given_file given_seed file seed → ⊥

-- The words after `replay` name this file and this seed: clap finds no fault in them, and
-- it is what they give.
abbrev pub Names : List Text → Text → Option ℕ → Type 0
Names words file seed =
    (has_escape words ≡ false) × (fault_of replay_app words ≡ [])
    × Means (given (codes "file") words) (given (codes "seed") words) file seed

-- What was read of the words after `replay`: the line that they name, or nothing if they name none.
abbrev pub IsNamed : List Text → Option ReplayLine → Type 0
IsNamed words (Some line) = Names words line.file.now line.seed
IsNamed words None = (file : Text) (seed : Option ℕ) → Names words file seed → ⊥
