-- The step of a client's end in a world whose clients stand.
use Rattle.std.proofs.Common.{◌≡◌, ℕ, true, false, List, Option, Some, None, refl}
use Rattle.std.specs.Prelude.{is_none}
use Rattle.std.proofs.lemmas.Bool.{both_ways}
use Rattle.ca_text.specs.Place.{At}
use Rattle.ca_link.specs.Link.{TakesFirst}
use Rattle.ca_wire.specs.Fields.{Fields}
use Rattle.ca_model.specs.Client.{Connection, connection_at}
use Rattle.ca_model.specs.ClientEnds.{after_taking}
use Rattle.ca_model.specs.ClientEvents.{HappensClientStep}
use Rattle.ca_model.specs.World.{ClientSide, Joined, World}
use Rattle.ca_laws_parts.specs.Circuit.{HeldAt, IsKnown}
use Rattle.ca_laws_parts.specs.Clients.{ClientsStand}
use Rattle.ca_laws_parts.proofs.ClientSteps.{keeps-client-step}

-- an end that is connected
connected-so : (o : Option Connection) → is_none o ≡ false → (d : Connection) × (o ≡ Some d)
connected-so (Some d) is = (d, refl)
connected-so None is = absurd (both_ways true is refl)

pub keeps-known-step : (kept : List ℕ) (w new : World) (k l : ℕ) (j : Joined) (x : ClientSide) → At w.circuits k j → At w.clients j.client x → j.lists.client_open ≡ true → ClientsStand w
    → ((d : Connection) (m : Fields) (rest : List ℕ) → connection_at x.core j.at_client ≡ Some d → TakesFirst d.link m rest → IsKnown x.names (after_taking j.at_client rest x.core) j.at_client j.lists m)
    → HappensClientStep w k j x new → HeldAt kept w l → HeldAt kept new l
keeps-known-step kept w new k l j x at there open_it s known happens held =
    let c = connected-so (connection_at x.core j.at_client) (s.connected k j x at there open_it) in
    let sound = s.sound j.client x there in
    keeps-client-step kept w new k l j x c.0 at there open_it c.1 s.handles sound.placed.attached sound.named.meant sound.named.numbered (λ m rest first. known c.0 m rest c.1 first) happens held
