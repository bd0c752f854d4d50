use Rattle.std.proofs.Common.{◌≡◌, ◌∙◌, Some, ap, not, subst, sym, true}
use Rattle.std.specs.Prelude.{is_none}
use Rattle.ca_model.specs.Client.{Client, connection_at}
use Rattle.ca_model.specs.ClientCalls.{unwanted}
use Rattle.ca_model.specs.Placed.{IsPlaced}
use Rattle.ca_model.proofs.Letting.{keeps-unwanted}
use Rattle.ca_client_core.proofs.Cleared.{unwanted-there}
use Rattle.ca_client_core.proofs.client.ClientCore.let_unwanted_go.Goals as goal

pub invariant_of-self : goal.invariant_of-self
invariant_of-self c =
    let i = c.self.inside in
    let x : Client = record {
      peer = record { user = i.user.items; host = i.host.items };
      servers = i.servers.items;
      moment = i.moment;
      channels = i.channels;
      requests = i.requests.table;
      subscriptions = i.monitors;
      circuits = i.circuits;
      order = i.order.items;
      issued = i.requests.order;
      searches = i.searches.entries;
      beacons = i.beacons;
    } in
    let is : ◌≡◌ {A = Client} (record x { circuits = c.let_go.new.circuits; order = c.let_go.new.order.items }) (unwanted c.args.circuit x) =
    unwanted-there x c.args.circuit _ c.let_go.new.circuits c.let_go.new.order.items (c.is_used.ensures ∙ ap not c.if-is_used.false) (sym c.in-Some.ensures ∙ ap (λ d. Some d) (sym c.found.view_is)) c.let_go.ensures.gone c.let_go.ensures.order in
    let none : is_none (connection_at x c.args.circuit) ≡ true = subst (λ (y : Client). is_none (connection_at y c.args.circuit) ≡ true) (sym c.self.view_is) c.requires in
    record { client = c.self.invariant.client; listed = c.self.invariant.listed; placed = subst (λ (y : Client). IsPlaced y) (sym is) ((keeps-unwanted c.args.circuit x none).placed c.self.invariant.placed) }
