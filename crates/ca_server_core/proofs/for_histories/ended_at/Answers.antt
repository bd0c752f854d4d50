use Rattle.std.proofs.Common.{subst}
use Rattle.ca_model.specs.Server.{Server}
use Rattle.ca_server_core.specs.ForHistories.{EndsAt}
use Rattle.ca_server_core.proofs.Histories.{ends-over}
use Rattle.ca_server_core.proofs.Servers.{server_of}
use Rattle.ca_server_core.proofs.for_histories.ended_at.Goals as goal

pub returns : goal.returns
returns c =
    let i = c.core.inside in
    let y : Server = server_of i.port i.records i.moment i.circuits i.beacons i.applied in
    subst (λ (z : Server). EndsAt z c.args.index c.over_at.result) c.core.view_is (ends-over y c.args.index c.over_at.result c.core.invariant.sound c.over_at.ensures)
