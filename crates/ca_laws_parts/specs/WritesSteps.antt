-- Working: the open ends of a world beside their circuits: values and numbers in step.
use Rattle.std.specs.Prelude.{ℕ, ◌≡◌, true}
use Rattle.ca_text.specs.Place.{At}
use Rattle.ca_model.specs.Server.{ServerEnd}
use Rattle.ca_model.specs.ServerSteps.{HasEnd}
use Rattle.ca_model.specs.World.{Joined, ServerSide, World}
use Rattle.ca_laws_parts.specs.InStep.{EndInStep}

-- Each circuit that is open at its server is in step with its end there: the same subscriptions are
-- in both, each once, and the same updates wait.
abbrev pub AllInStep : World → Type 0
AllInStep w =
    (n : ℕ) (c : Joined) (y : ServerSide) (e : ServerEnd) → At w.circuits n c
    → At w.servers c.server y → c.lists.server_open ≡ true
    → HasEnd y.core c.at_server e → EndInStep e c
