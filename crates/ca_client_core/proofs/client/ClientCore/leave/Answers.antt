use Rattle.std.proofs.Common.{◌≡◌, ◌∙◌, ℕ, ap, subst, sym}
use Rattle.ca_ids.specs.Table.{Table}
use Rattle.ca_ids.specs.Wire.{wire_of}
use Rattle.ca_requests.specs.Calls.{Issued}
use Rattle.ca_requests.specs.Requests.{Request}
use Rattle.ca_wire.specs.Fields.{Fields}
use Rattle.ca_wire.specs.Messages.{clear_request}
use Rattle.ca_model.specs.Client.{Client}
use Rattle.ca_model.specs.Placed.{ArePlaced}
use Rattle.ca_model.proofs.Changes.{over-requests}
use Rattle.ca_client_tables.specs.Ends.{with_message}
use Rattle.ca_client_tables.proofs.Finds.{plain}
use Rattle.ca_client_core.proofs.Queued.{left-behind, told-left}
use Rattle.ca_client_core.proofs.client.ClientCore.leave.Goals as goal

pub invariant_of-self : goal.invariant_of-self
invariant_of-self c =
    let i = c.self.inside in
    record {
      client = c.self.invariant.client;
      placed =
          subst (λ (t : Table Request). ArePlaced i.channels t i.monitors i.circuits) (sym (ap (λ (n : Issued). n.table) c.end_channel-over.ensures.over))
          ((over-requests c.args.channel (plain i.channels i.requests.table i.monitors i.circuits)).placed c.self.invariant.placed);
      listed = c.self.invariant.listed;
    }

pub returns : goal.returns
returns c =
    let i = c.self.inside in
    let h = c.args.channel in
    let x = c.args.self.now in
    let y : Client = record {
      peer = record { user = i.user.items; host = i.host.items };
      servers = i.servers.items;
      moment = i.moment;
      channels = i.channels;
      requests = i.requests.table;
      subscriptions = i.monitors;
      circuits = i.circuits;
      order = i.order.items;
      issued = i.requests.order;
      searches = i.searches.entries;
      beacons = i.beacons;
    } in
    let m : Fields = c.clear_request.result in
    let queued : y ≡ with_message c.args.circuit m x = c.self.view_is ∙ c.in_ok-queue.ensures.ok in
    let says : m ≡ clear_request c.args.sid (wire_of h) =
    c.clear_request.ensures
    ∙ ap (λ (s : ℕ). clear_request s c.new-cid.result) c.new.ensures
    ∙ ap (λ (k : ℕ). clear_request c.args.sid k) (c.new-cid.ensures ∙ c.number.ensures ∙ c.of.ensures) in (
      c.of-2.ensures ∙ told-left x y c.args.circuit h m c.end_channel-over.result.items c.new-2.result.items queued c.end_channel-over.ensures.told c.new-2.ensures.items,
      c.set_phase.ensures ∙ left-behind x y c.args.circuit c.args.sid h m c.end_channel-over.new.self queued says c.end_channel-over.ensures.over,
    )
