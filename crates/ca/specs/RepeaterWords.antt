-- The words of `repeater [--port P] [--datagrams N]`.
use Rattle.std.specs.Prelude.{ℕ, ◌≡◌, ◌<◌, ◌^◌, List, [], Option, None, Some, true, false, codes, ⊤}
use Rattle.clap.specs.Words.{App, Rule, Text, fault_of, first_of, matches_of, new_app, new_rule}
use Rattle.clap.specs.Words.{with_rule}
use Rattle.ca_text.specs.Limits.{repeater_port}
use Rattle.ca.specs.declared.repeater.line.RepeaterLine.{RepeaterLine}
use Rattle.ca_script.specs.Grammar.{IsNumber}
use Rattle.ca.specs.Words.{has_escape}

-- an option that takes one value, `--name V` or `--name=V`
abbrev pub valued : Text → Rule
valued name = record (new_rule name) { long = Some name }

-- the two options, each at most once, and no help
abbrev pub repeater_app : App
repeater_app =
    let bare = new_app (codes "repeater") in
    with_rule (with_rule (record bare {
      top = record bare.top { no_binary_name = true; disable_help_flag = true };
    }) (valued (codes "port"))) (valued (codes "datagrams"))

-- the value of this option among words that clap takes
abbrev pub given : List ℕ → List Text → Option Text
given name words = first_of name (matches_of repeater_app words)

-- a text is the decimal number of a port
abbrev pub IsPort : Text → ℕ → Type 0
IsPort text port = IsNumber text port × (port < 2 ^ 16)

abbrev pub MeansPort : Option Text → ℕ → Type 0
MeansPort None port = port ≡ repeater_port
MeansPort (Some text) port = IsPort text port

abbrev pub MeansCount : Option Text → Option ℕ → Type 0
MeansCount None None = ⊤
MeansCount None (Some n) = ⊥
MeansCount (Some text) None = ⊥
MeansCount (Some text) (Some n) = IsNumber text n

-- Options of these values mean this line: the port is the repeater's own if none is given, and
-- each number is decimal.
abbrev pub Means : Option Text → Option Text → RepeaterLine → Type 0
Means port datagrams line = MeansPort port line.port × MeansCount datagrams line.datagrams

-- What was made of options of these values: the line that they mean, or nothing if they mean none.
abbrev pub IsMeant : Option Text → Option Text → Option RepeaterLine → Type 0
IsMeant port datagrams (Some line) = Means port datagrams line
IsMeant port datagrams None = (line : RepeaterLine) → Means port datagrams line → ⊥

-- The words after `repeater` ask for this line: clap finds no fault in them, and
-- their options mean it.
abbrev pub Asks : List Text → RepeaterLine → Type 0
Asks words line =
    (has_escape words ≡ false) × (fault_of repeater_app words ≡ [])
    × Means (given (codes "port") words) (given (codes "datagrams") words) line

-- What was read of the words after `repeater`: the line that they ask for, or nothing
-- if they ask for none.
abbrev pub IsAsked : List Text → Option RepeaterLine → Type 0
IsAsked words (Some line) = Asks words line
IsAsked words None = (line : RepeaterLine) → Asks words line → ⊥
