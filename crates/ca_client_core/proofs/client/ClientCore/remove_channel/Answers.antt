use Rattle.std.proofs.Common.{◌≡◌, ◌∙◌, ℕ, List, ap, false, subst, sym}
use Rattle.ca_ids.specs.Table.{Table, with_freed}
use Rattle.ca_ids.specs.Wire.{wire_of}
use Rattle.ca_search.specs.Searcher.{holds, without}
use Rattle.ca_search.specs.Searches as search
use Rattle.ca_model.specs.Client.{Channel, Client, without_channel}
use Rattle.ca_client_tables.proofs.Ended.{client-gone}
use Rattle.ca_model.specs.Placed.{HasNothingOut}
use Rattle.ca_client_core.proofs.Placing.{placed-gone}
use Rattle.ca_client_core.proofs.Listing.{listed-gone}
use Rattle.ca_client_core.proofs.client.ClientCore.remove_channel.Goals as goal

pub invariant_of-self : goal.invariant_of-self
invariant_of-self c =
    let h = c.args.channel in
    let i = c.self.inside in
    let es = i.searches.entries in
    let ns = c.remove.new.self.entries in
    let cid : c.number.result ≡ wire_of h = c.number.ensures ∙ c.of.ensures in
    let out : ns ≡ without (wire_of h) es = c.remove.ensures.entries ∙ ap (λ (n : ℕ). without n es) cid in
    let none : holds (wire_of h) ns ≡ false =
    ap (λ (n : ℕ). holds n ns) (sym cid) ∙ c.remove.ensures.out in
    record {
      client = client-gone i.channels c.free.new.self es ns h c.free.ensures.after out none c.self.invariant.client;
      placed =
          placed-gone c.self.inside.channels c.self.inside.requests.table c.self.inside.monitors c.self.inside.circuits c.self.invariant.placed h c.free.new.self (subst (λ (y : Client). HasNothingOut h y) (sym c.self.view_is) c.requires) c.free.ensures.after;
      listed = listed-gone i.channels c.free.new.self i.lives.items h c.free.ensures.after c.self.invariant.listed;
    }

pub returns : goal.returns
returns c =
    let h = c.args.channel in
    let i = c.self.inside in
    let es = i.searches.entries in
    let ns = c.remove.new.self.entries in
    let cid : c.number.result ≡ wire_of h = c.number.ensures ∙ c.of.ensures in
    let out : ns ≡ without (wire_of h) es = c.remove.ensures.entries ∙ ap (λ (n : ℕ). without n es) cid in
    let x : Client = record {
      peer = record { user = i.user.items; host = i.host.items };
      servers = i.servers.items;
      moment = i.moment;
      channels = i.channels;
      requests = i.requests.table;
      subscriptions = i.monitors;
      circuits = i.circuits;
      order = i.order.items;
      issued = i.requests.order;
      searches = es;
      beacons = i.beacons;
    } in
    let left : Client = record x { channels = c.free.new.self; searches = ns } in
    let is : left ≡ without_channel x h =
    ap (λ (t : Table Channel). let y : Client = record x { channels = t; searches = ns } in y) c.free.ensures.after
    ∙ ap (λ (ms : List (ℕ × search.Channel)). let y : Client = record x { channels = with_freed h x.channels; searches = ms } in y) out in
    subst (λ (y : Client). left ≡ without_channel y h) c.self.view_is is
