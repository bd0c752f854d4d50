use Rattle.std.proofs.Common.{[], List, None, Ok, Option, Some, ap, subst, sym, ℕ}
use Rattle.ca_arena.specs.declared.handle.Handle.{Handle}
use Rattle.ca_search.specs.Searches as search
use Rattle.ca_requests.specs.Meaning.{message_of}
use Rattle.ca_model.specs.Client.{Client}
use Rattle.ca_client_tables.specs.Finding.{FindsIn, Tables, tables_of, with_tables}
use Rattle.ca_client_core.specs.Hearing.{FindsOr}
use Rattle.ca_client_core.proofs.Arriving.{IsSoundWith, sound-found}
use Rattle.ca_client_core.proofs.Finds.{heard-found, heard-out}
use Rattle.ca_client_core.proofs.client.ClientCore.hear_found.Goals as goal

pub returns-in_err-found : goal.returns-in_err-found
returns-in_err-found c =
    let i = c.self.inside in
    let x : Client = record {
      peer = record { user = i.user.items; host = i.host.items };
      servers = i.servers.items;
      moment = i.moment;
      channels = i.channels;
      requests = i.requests.table;
      subscriptions = i.monitors;
      circuits = i.circuits;
      order = i.order.items;
      issued = i.requests.order;
      searches = i.searches.entries;
      beacons = i.beacons;
    } in
    let t : Tables = record { channels = c.find.new.channels; circuits = c.find.new.circuits; order = c.find.new.order.items } in
    subst (λ (y : Client). FindsOr y c.args.from (message_of c.args.reply.now []) c.from_residual.result (with_tables t x)) c.self.view_is
    (heard-out x c.args.from (message_of c.args.reply.now []) c.in_err-found.field-0.0 c.from_residual.result t (with_tables t x) c.in_err-found.ensures c.from_residual.ensures.0 (λ j. with_tables t x))

pub returns-in-Some : goal.returns-in-Some
returns-in-Some c =
    let i = c.self.inside in
    let x : Client = record {
      peer = record { user = i.user.items; host = i.host.items };
      servers = i.servers.items;
      moment = i.moment;
      channels = i.channels;
      requests = i.requests.table;
      subscriptions = i.monitors;
      circuits = i.circuits;
      order = i.order.items;
      issued = i.requests.order;
      searches = i.searches.entries;
      beacons = i.beacons;
    } in
    let t : Tables = record { channels = c.find.new.channels; circuits = c.find.new.circuits; order = c.find.new.order.items } in
    let new : Client = record (with_tables t x) { searches = c.pause.new.self.entries } in
    let did : FindsIn (tables_of x) c.args.from (message_of c.args.reply.now []) (Ok (Some c.in-Some.channel)) t =
    subst (λ (o : Option Handle). FindsIn (tables_of x) c.args.from (message_of c.args.reply.now []) (Ok o) t) c.in-Some.is c.in_ok-found.ensures in
    subst (λ (y : Client). FindsOr y c.args.from (message_of c.args.reply.now []) (Ok tt) new) c.self.view_is
    (heard-found x c.args.from (message_of c.args.reply.now []) (Some c.in-Some.channel) t new did (ap (λ (es : List (ℕ × search.Channel)). record (with_tables t x) { searches = es }) c.pause.ensures))

pub returns-in_default : goal.returns-in_default
returns-in_default c =
    let i = c.self.inside in
    let x : Client = record {
      peer = record { user = i.user.items; host = i.host.items };
      servers = i.servers.items;
      moment = i.moment;
      channels = i.channels;
      requests = i.requests.table;
      subscriptions = i.monitors;
      circuits = i.circuits;
      order = i.order.items;
      issued = i.requests.order;
      searches = i.searches.entries;
      beacons = i.beacons;
    } in
    let t : Tables = record { channels = c.find.new.channels; circuits = c.find.new.circuits; order = c.find.new.order.items } in
    let did : FindsIn (tables_of x) c.args.from (message_of c.args.reply.now []) (Ok None) t =
    subst (λ (o : Option Handle). FindsIn (tables_of x) c.args.from (message_of c.args.reply.now []) (Ok o) t) c.in_default.is c.in_ok-found.ensures in
    subst (λ (y : Client). FindsOr y c.args.from (message_of c.args.reply.now []) (Ok tt) (with_tables t x)) c.self.view_is
    (heard-found x c.args.from (message_of c.args.reply.now []) None t (with_tables t x) did (λ j. with_tables t x))

pub invariant_of-self-in-Some : goal.invariant_of-self-in-Some
invariant_of-self-in-Some c =
    let i = c.self.inside in
    let x : Client = record {
      peer = record { user = i.user.items; host = i.host.items };
      servers = i.servers.items;
      moment = i.moment;
      channels = i.channels;
      requests = i.requests.table;
      subscriptions = i.monitors;
      circuits = i.circuits;
      order = i.order.items;
      issued = i.requests.order;
      searches = i.searches.entries;
      beacons = i.beacons;
    } in
    let t : Tables = record { channels = c.find.new.channels; circuits = c.find.new.circuits; order = c.find.new.order.items } in
    let new : Client = record (with_tables t x) { searches = c.pause.new.self.entries } in
    let did : FindsIn (tables_of x) c.args.from (message_of c.args.reply.now []) (Ok (Some c.in-Some.channel)) t =
    subst (λ (o : Option Handle). FindsIn (tables_of x) c.args.from (message_of c.args.reply.now []) (Ok o) t) c.in-Some.is c.in_ok-found.ensures in
    let r = heard-found x c.args.from (message_of c.args.reply.now []) (Some c.in-Some.channel) t new did (ap (λ (es : List (ℕ × search.Channel)). record (with_tables t x) { searches = es }) c.pause.ensures) in
    subst (IsSoundWith i.lives.items) (sym r.3) (sound-found i.lives.items x c.args.from (message_of c.args.reply.now []) r.0 r.1 c.self.invariant)

pub invariant_of-self-in_default : goal.invariant_of-self-in_default
invariant_of-self-in_default c =
    let i = c.self.inside in
    let x : Client = record {
      peer = record { user = i.user.items; host = i.host.items };
      servers = i.servers.items;
      moment = i.moment;
      channels = i.channels;
      requests = i.requests.table;
      subscriptions = i.monitors;
      circuits = i.circuits;
      order = i.order.items;
      issued = i.requests.order;
      searches = i.searches.entries;
      beacons = i.beacons;
    } in
    let t : Tables = record { channels = c.find.new.channels; circuits = c.find.new.circuits; order = c.find.new.order.items } in
    let did : FindsIn (tables_of x) c.args.from (message_of c.args.reply.now []) (Ok None) t =
    subst (λ (o : Option Handle). FindsIn (tables_of x) c.args.from (message_of c.args.reply.now []) (Ok o) t) c.in_default.is c.in_ok-found.ensures in
    let r = heard-found x c.args.from (message_of c.args.reply.now []) None t (with_tables t x) did (λ j. with_tables t x) in
    subst (IsSoundWith i.lives.items) (sym r.3) (sound-found i.lives.items x c.args.from (message_of c.args.reply.now []) r.0 r.1 c.self.invariant)
