use Rattle.std.proofs.Common.{subst}
use Rattle.ca_model.specs.World.{World}
use Rattle.ca_world.specs.Waiting.{AreWaiting}
use Rattle.ca_world_data.specs.Logs.{lines_in}
use Rattle.ca_world_data.specs.Opening.{entries_in}
use Rattle.ca_world.proofs.Waits.{waits-here}
use Rattle.ca_world.proofs.stopped.Stopped.waiting.Goals as goal

pub returns : goal.returns
returns c =
    let w = c.self.inside in
    subst (λ (v : World). AreWaiting v c.args.circuit c.args.way c.count.result) c.self.view_is
    (waits-here w.clients.items w.servers.items w.circuits.items (lines_in w.client_logs.items) (entries_in w.server_logs.items) w.moment c.args.circuit c.args.way c.count.result c.count.ensures)
