use Rattle.std.proofs.Common.{ap, sym, subst}
use Rattle.ca_requests.specs.Calls.{Issued}
use Rattle.ca_requests.specs.Requests.{Request}
use Rattle.ca_ids.specs.Table.{Table}
use Rattle.ca_monitor.specs.Subscriptions.{Subscription}
use Rattle.ca_model.specs.Placed.{ArePlaced}
use Rattle.ca_model.proofs.Hearing.{drained-keeps}
use Rattle.ca_client_tables.proofs.Finds.{plain}
use Rattle.ca_client_core.proofs.client.ClientCore.end_draining.Goals as goal

pub invariant_of-self : goal.invariant_of-self
invariant_of-self c =
    let i = c.self.inside in
    record {
      client = c.self.invariant.client;
      listed = c.self.invariant.listed;
      placed =
          subst (λ (w : Table Request × Table Subscription). ArePlaced i.channels w.0 w.1 i.circuits)
          (λ k. (ap (λ (z : Issued). z.table) (sym c.free_channel.ensures) k, sym c.drained.ensures k))
          ((drained-keeps c.args.circuit (plain i.channels i.requests.table i.monitors i.circuits) c.args.channel).placed c.self.invariant.placed);
    }
