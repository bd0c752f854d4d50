-- Statement: when a world, of whatever life its circuits and logs are, is safe, and when what went
-- out there was legal; and what is promised of every run.
use Rattle.std.specs.Prelude.{List, Option}
use Rattle.ca_model.specs.Events.{Event}
use Rattle.ca_model.specs.Runs.{AreEvents, Runs}
use Rattle.ca_model.specs.World.{Setting, IsSetting, World, port_of, rules_of, told}
use Rattle.ca_model.specs.Known.{IsSafe}
use Rattle.ca_model.specs.Legal.{Legal}
use Rattle.ca_model.specs.Origins.{ComeFromEvents}

-- What happened in the world is safe, by the ports and rules that its servers were given.
abbrev pub IsSafeWorld : World → Type 0
IsSafeWorld w = IsSafe (port_of w) (rules_of w) (told w)

-- Each end of each circuit sent what it may and what it has to, and each accepted
-- subscription was sent.
abbrev pub IsLegalWorld : World → Type 0
IsLegalWorld w = Legal (told w)

-- What is promised: from a well-formed setting, whatever events in a row lead to is safe, and
-- legal; and what servers' logs have that no message makes comes from these events.
abbrev pub Promise : Type 0
Promise =
    (setting : Setting) (es : List Event) (stopped : Option Event) (w : World) → IsSetting setting
    → AreEvents es
    → Runs setting es stopped w → IsSafeWorld w × IsLegalWorld w
    × ComeFromEvents setting es w.server_logs
