-- Working: a datagram of which the world keeps nothing.
use Rattle.std.specs.Prelude.{◌≡◌, List, Ok, Err, Result}
use Rattle.ca_text.specs.declared.refusal.Refusal.{Refusal}
use Rattle.ca_model.specs.Answers.{Sending}
use Rattle.ca_model.specs.ClientEnds.{Arrival, ClientReceives}
use Rattle.ca_model.specs.World.{ClientSide}

-- The client took the datagram; or it is refused so, and nothing is changed.
abbrev pub Passes : Arrival → Refusal → ClientSide → Result (Unit {0}) Refusal → ClientSide → Type 0
Passes a refusal x (Ok _) x' =
    (sent : List Sending) × ClientReceives x.core a (Ok tt) sent x'.core
    × (x' ≡ record x { core = x'.core })
Passes a refusal x (Err e) x' = (e ≡ refusal) × (x' ≡ x)
