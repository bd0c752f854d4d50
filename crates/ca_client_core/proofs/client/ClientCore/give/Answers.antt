use Rattle.std.proofs.Common.{List, subst, sym}
use Rattle.ca_model.specs.Answers.{Sending}
use Rattle.ca_model.specs.Client.{Client}
use Rattle.ca_model.specs.ClientEnds.{ClientGives}
use Rattle.ca_client_core.proofs.Circuits.{gives-found}
use Rattle.ca_client_tables.proofs.Circuits.{with_this}
use Rattle.ca_client_core.proofs.Placing.{sound-given}
use Rattle.ca_client_core.proofs.client.ClientCore.give.Goals as goal

pub returns : goal.returns
returns c =
    let i = c.self.inside in
    let x : Client = record {
      peer = record { user = i.user.items; host = i.host.items };
      servers = i.servers.items;
      moment = i.moment;
      channels = i.channels;
      requests = i.requests.table;
      subscriptions = i.monitors;
      circuits = i.circuits;
      order = i.order.items;
      issued = i.requests.order;
      searches = i.searches.entries;
      beacons = i.beacons;
    } in
    let made = gives-found x c.args.circuit c.args.bytes.now c.args.more c.in-Some.found.now c.give.new.self c.give.result (sym c.in-Some.ensures.value) c.give.ensures in
    subst (λ (y : Client). (sent : List Sending) × ClientGives y c.args.circuit c.args.bytes.now c.args.more c.give.result sent (with_this x c.args.circuit c.give.new.self)) c.self.view_is made

pub invariant_of-self-2 : goal.invariant_of-self-2
invariant_of-self-2 c =
    sound-given c.self.inside.channels c.self.inside.searches.entries c.self.inside.requests.table c.self.inside.monitors c.self.inside.circuits c.self.inside.lives.items c.self.invariant c.self.inside.moment c.args.bytes.now c.args.more c.give.result c.args.circuit c.in-Some.found.now c.give.new.self (sym c.in-Some.ensures.value) c.give.ensures
