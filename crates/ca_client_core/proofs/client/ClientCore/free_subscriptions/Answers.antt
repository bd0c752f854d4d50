use Rattle.std.proofs.Common.{subst, sym}
use Rattle.ca_model.specs.Placed.{ArePlaced}
use Rattle.ca_model.proofs.Changes.{unsubscribed-keeps}
use Rattle.ca_client_tables.proofs.Finds.{plain}
use Rattle.ca_client_core.proofs.client.ClientCore.free_subscriptions.Goals as goal

pub invariant_of-self : goal.invariant_of-self
invariant_of-self c =
    let i = c.self.inside in
    record {
      client = c.self.invariant.client;
      listed = c.self.invariant.listed;
      placed =
          subst (λ w. ArePlaced i.channels i.requests.table w i.circuits) (sym c.free_channel.ensures)
          ((unsubscribed-keeps c.args.channel (plain c.self.inside.channels c.self.inside.requests.table c.self.inside.monitors c.self.inside.circuits)).placed c.self.invariant.placed);
    }
