-- Working: a client's end of a circuit is cut.
use Rattle.std.specs.Prelude.{◌≡◌, List, Ok, Err, Result}
use Rattle.ca_text.specs.declared.refusal.Refusal.{Refusal}
use Rattle.ca_text.specs.declared.refusal.Refusal.TheVariants.{OutOfMemory}
use Rattle.ca_model.specs.Answers.{Closing, Sending}
use Rattle.ca_model.specs.ClientEnds.{ClientCuts}
use Rattle.ca_model.specs.History.{Line, OfCircuit}
use Rattle.ca_model.specs.ClientEvents.{client_closed, lines_of}
use Rattle.ca_model.specs.World.{ClientSide, Joined, grown}
use Rattle.ca_world_data.specs.Does.{HasNames}

-- The end at the client of a circuit is cut: it leaves what waited, and what it told is in the log.
abbrev pub CutsClient : ClientSide → Joined → List (List Line) → Result (Unit {0}) Refusal
    → ClientSide → Joined → List (List Line) → Type 0
CutsClient x j logs (Ok _) x' j' logs' =
    (c : Closing) × (sent : List Sending) × ClientCuts x.core j.at_client c sent x'.core
    × (x' ≡ record x { core = x'.core }) × (j' ≡ client_closed c.left j)
    × (logs' ≡ grown x.life (lines_of OfCircuit x.names c.notices) logs)
CutsClient x j logs (Err OutOfMemory) x' j' logs' =
    HasNames x × (x' ≡ x) × (j' ≡ j) × (logs' ≡ logs)
CutsClient x j logs (Err _) x' j' logs' = ⊥
