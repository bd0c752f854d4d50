use Rattle.std.proofs.Common.{refl, sym}
use Rattle.ca_model.specs.Client.{standing_at}
use Rattle.ca_client_core.specs.Lives.{live_of}
use Rattle.ca_client_core.proofs.Faults.{live-at}
use Rattle.ca_client_core.proofs.for_histories.live_on.Goals as goal

pub returns-in-Ok : goal.returns-in-Ok
returns-in-Ok c =
    (live_of c.in-Ok.live, live-at (standing_at c.args.core.now c.args.channel) (live_of c.in-Ok.live) (sym c.in-Ok.ensures), refl, refl, refl)
