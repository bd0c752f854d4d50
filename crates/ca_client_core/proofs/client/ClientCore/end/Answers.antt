use Rattle.std.proofs.Common.{◌≡◌, ◌∙◌, ◌≤◌, List, Some, ap, length, refl, subst, sym}
use Rattle.ca_arena.specs.declared.handle.Handle.{Handle}
use Rattle.ca_model.specs.Answers.{Closing}
use Rattle.ca_client_tables.specs.Closings.{why_is}
use Rattle.ca_model.specs.Client.{Client, closing, ended, is_live}
use Rattle.ca_model.specs.Placed.{IsPlaced}
use Rattle.ca_model.proofs.Letting.{ends-ended}
use Rattle.ca_client_tables.specs.Ending.{Sought, named_in, sought}
use Rattle.ca_client_core.proofs.Listing.{closing-gone, closing-told, ended-listed, room-for}
use Rattle.ca_client_core.proofs.Endings.{ends-so, left_with}
use Rattle.ca_client_core.proofs.client.ClientCore.end.Goals as goal

pub invariant_of-self : goal.invariant_of-self
invariant_of-self c =
    let i = c.self.inside in
    let x : Client = record {
      peer = record { user = i.user.items; host = i.host.items };
      servers = i.servers.items;
      moment = i.moment;
      channels = i.channels;
      requests = i.requests.table;
      subscriptions = i.monitors;
      circuits = i.circuits;
      order = i.order.items;
      issued = i.requests.order;
      searches = i.searches.entries;
      beacons = i.beacons;
    } in
    let n : Sought = sought c.end_channels.new.channels c.end_channels.new.searches.entries in
    let left : Client = left_with x c.end_circuit-told.new.self c.free_circuit.new.self n c.let_go-left.new.circuits c.let_go-left.new.order.items in
    let is : left ≡ ended c.args.circuit x =
    ends-so x c.args.circuit _ c.end_circuit-told.new.self c.free_circuit.new.self n c.let_go-left.new.circuits c.let_go-left.new.order.items (sym c.in-Some.ensures ∙ ap (λ d. Some d) (sym c.found.view_is)) c.end_circuit-told.ensures.freed c.free_circuit.ensures c.end_channels.ensures.steps c.let_go-left.ensures.gone c.let_go-left.ensures.order in
    record { client = c.end_channels.ensures.client; listed = ended-listed x c.args.circuit _ i.lives.items c.take_live-lost.new.lists.items n (sym c.in-Some.ensures ∙ ap (λ d. Some d) (sym c.found.view_is)) c.end_channels.ensures.steps c.self.invariant.placed c.take_live-lost.ensures.others c.self.invariant.listed; placed = subst (λ (y : Client). IsPlaced y) (sym is) ((ends-ended c.args.circuit x).placed c.self.invariant.placed) }

pub returns-clause-ended : goal.returns-clause-ended
returns-clause-ended c =
    let i = c.self.inside in
    let x : Client = record {
      peer = record { user = i.user.items; host = i.host.items };
      servers = i.servers.items;
      moment = i.moment;
      channels = i.channels;
      requests = i.requests.table;
      subscriptions = i.monitors;
      circuits = i.circuits;
      order = i.order.items;
      issued = i.requests.order;
      searches = i.searches.entries;
      beacons = i.beacons;
    } in
    let n : Sought = sought c.end_channels.new.channels c.end_channels.new.searches.entries in
    let left : Client = left_with x c.end_circuit-told.new.self c.free_circuit.new.self n c.let_go-left.new.circuits c.let_go-left.new.order.items in
    let is : left ≡ ended c.args.circuit x =
    ends-so x c.args.circuit _ c.end_circuit-told.new.self c.free_circuit.new.self n c.let_go-left.new.circuits c.let_go-left.new.order.items (sym c.in-Some.ensures ∙ ap (λ d. Some d) (sym c.found.view_is)) c.end_circuit-told.ensures.freed c.free_circuit.ensures c.end_channels.ensures.steps c.let_go-left.ensures.gone c.let_go-left.ensures.order in
    subst (λ (y : Client). left ≡ ended c.args.circuit y) c.self.view_is is

pub list_live-requires : goal.list_live-requires
list_live-requires c =
    let i = c.self.inside in
    let x : Client = record {
      peer = record { user = i.user.items; host = i.host.items };
      servers = i.servers.items;
      moment = i.moment;
      channels = i.channels;
      requests = i.requests.table;
      subscriptions = i.monitors;
      circuits = i.circuits;
      order = i.order.items;
      issued = i.requests.order;
      searches = i.searches.entries;
      beacons = i.beacons;
    } in
    subst (λ (hs : List Handle). length (named_in is_live c.args.circuit i.channels) ≤ length hs) (sym c.take_live-lost.ensures.told) (room-for x c.args.circuit i.lives.items c.self.invariant.listed)

pub returns-in_default-clause-told : goal.returns-in_default-clause-told
returns-in_default-clause-told c =
    let i = c.self.inside in
    let x : Client = record {
      peer = record { user = i.user.items; host = i.host.items };
      servers = i.servers.items;
      moment = i.moment;
      channels = i.channels;
      requests = i.requests.table;
      subscriptions = i.monitors;
      circuits = i.circuits;
      order = i.order.items;
      issued = i.requests.order;
      searches = i.searches.entries;
      beacons = i.beacons;
    } in
    let k : Closing = record { why = why_is c.args.why; notices = c.none.result; left = c.new.result } in
    subst (λ (y : Client). k ≡ closing (why_is c.args.why) c.args.circuit y) c.self.view_is
    (closing-gone (why_is c.args.why) x c.args.circuit c.self.invariant.placed (sym c.in_default.ensures) k refl c.none.ensures c.new.ensures)

pub returns-clause-told : goal.returns-clause-told
returns-clause-told c =
    let i = c.self.inside in
    let x : Client = record {
      peer = record { user = i.user.items; host = i.host.items };
      servers = i.servers.items;
      moment = i.moment;
      channels = i.channels;
      requests = i.requests.table;
      subscriptions = i.monitors;
      circuits = i.circuits;
      order = i.order.items;
      issued = i.requests.order;
      searches = i.searches.entries;
      beacons = i.beacons;
    } in
    let k : Closing = record { why = why_is c.args.why; notices = c.of.result; left = c.let_go-left.result } in
    subst (λ (y : Client). k ≡ closing (why_is c.args.why) c.args.circuit y) c.self.view_is
    (closing-told (why_is c.args.why) x c.args.circuit c.end_circuit-told.result.items c.list_live.new.room.items c.of.result c.let_go-left.result c.end_circuit-told.ensures.told c.list_live.ensures c.of.ensures c.let_go-left.ensures.left)
