use Rattle.ca_ids.specs.Table.{under}
use Rattle.std.specs.Prelude.{is_none, option_and_then}
use Rattle.std.proofs.Common.{None, if◌then◌else◌, ◌≡◌, ◌∙◌, List, Ok, Some, ap, option_map, refl, subst}
use Rattle.ca_link.specs.Link.{new_link, with_sent}
use Rattle.ca_monitor.specs.ReadRun.{no_reads}
use Rattle.ca_model.specs.Client.{Channel, Client, ClientCircuit, Connection}
use Rattle.ca_model.specs.ClientEnds.{creating, unconnected}
use Rattle.ca_client_core.specs.Connecting.{BeginsOn}
use Rattle.ca_client_tables.specs.Connecting.{creations_in, greeting}
use Rattle.ca_client_core.proofs.Connected.{begins-on, client-all}
use Rattle.ca_client_core.proofs.Joining.{listed-begun, placed-begun}
use Rattle.ca_client_core.proofs.client.ClientCore.begin.Goals as goal

pub invariant_of-self : goal.invariant_of-self
invariant_of-self c =
    let i = c.self.inside in
    let h = c.args.circuit in
    let f : Channel → Channel = creating h in
    let wanted : option_map (λ (d : ClientCircuit). d.priority) (option_and_then (λ (d : ClientCircuit). if is_none d.connection then Some d else None) (under i.circuits h)) ≡ Some c.args.priority =
    ap (λ (y : Client). option_map (λ (d : ClientCircuit). d.priority) (unconnected y h)) c.self.view_is ∙ c.requires.wanted in
    record {
      client = client-all f i.channels c.begin_all.new.channels i.searches.entries c.begin_all.ensures c.self.invariant.client;
      placed = placed-begun i.channels i.requests.table i.monitors i.circuits c.self.invariant.placed h c.args.priority c.begin_all.new.channels c.connect.new.circuits _ wanted c.begin_all.ensures c.connect.ensures;
      listed = listed-begun h i.channels c.begin_all.new.channels i.lives.items c.begin_all.ensures c.self.invariant.listed;
    }

pub returns : goal.returns
returns c =
    let i = c.self.inside in
    let h = c.args.circuit in
    let x : Client = record {
      peer = record { user = i.user.items; host = i.host.items };
      servers = i.servers.items;
      moment = i.moment;
      channels = i.channels;
      requests = i.requests.table;
      subscriptions = i.monitors;
      circuits = i.circuits;
      order = i.order.items;
      issued = i.requests.order;
      searches = i.searches.entries;
      beacons = i.beacons;
    } in
    let made : Connection = record { link = with_sent (creations_in h i.channels) (with_sent (greeting c.args.priority i.user.items i.host.items) (new_link i.moment)); run = no_reads } in
    let has : c.in_ok-connection.connection ≡ made =
    c.in_ok-connection.ensures
    ∙ ap (λ (user : List _). let e : Connection = record { link = with_sent (creations_in h i.channels) (with_sent (greeting c.args.priority user c.deref-2.result.now) (new_link i.moment)); run = no_reads } in e) c.deref.ensures.value
    ∙ ap (λ (host : List _). let e : Connection = record { link = with_sent (creations_in h i.channels) (with_sent (greeting c.args.priority i.user.items host) (new_link i.moment)); run = no_reads } in e) c.deref-2.ensures.value in
    let left : Client = record x { channels = c.begin_all.new.channels; circuits = c.connect.new.circuits } in
    let of : option_map (λ (d : ClientCircuit). d.priority) (unconnected x h) ≡ Some c.args.priority =
    ap (λ (y : Client). option_map (λ (d : ClientCircuit). d.priority) (unconnected y h)) c.self.view_is ∙ c.requires.wanted in
    let did : BeginsOn x h (unconnected x h) (Ok tt) left =
    begins-on x h (unconnected x h) c.args.priority c.in_ok-connection.connection c.begin_all.new.channels c.connect.new.circuits refl of has c.begin_all.ensures c.connect.ensures in
    subst (λ (y : Client). BeginsOn y h (unconnected y h) (Ok tt) left) c.self.view_is did
