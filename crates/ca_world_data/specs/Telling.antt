-- Working: what a client's core reports, as lines of its log.
use Rattle.std.specs.Prelude.{ℕ, ◌∷◌, List}
use Rattle.ca_model.specs.Answers.{Notice}
use Rattle.ca_model.specs.History.{Intent, Line, OfCircuit, On}
use Rattle.ca_model.specs.History as history
use Rattle.ca_model.specs.ClientEvents.{lines_of}
use Rattle.ca_model.specs.World.{Names}

-- that the channel of this number was to be created
abbrev pub created_as : ℕ → Intent
created_as channel = On channel history.Create

-- the line of a call, and then what that told
abbrev pub call_lines : Line → Names → List Notice → List Line
call_lines line n notices = line ∷ lines_of OfCircuit n notices
