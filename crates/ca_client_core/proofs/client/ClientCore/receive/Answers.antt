use Rattle.std.proofs.Common.{◌≡◌, ◌≢◌, ◌∙◌, ◌++◌, ◌≤◌, ◌*◌, List, [], ap, arith, length, map, Ok, refl, subst, sym, ℕ}
use Rattle.ca_dgram.specs.Datagram.{IsDatagram}
use Rattle.ca_search.specs.Searches as search
use Rattle.ca_wire.specs.Fields.{Fields}
use Rattle.ca_wire.specs.Stream.{NoneBegins}
use Rattle.ca_model.specs.Client.{Client}
use Rattle.ca_model.specs.ClientEnds.{Arrival, ClientReceives}
use Rattle.ca_client_tables.specs.Noting.{as_sent}
use Rattle.ca_client_tables.specs.Receiving.{Parts, all_settled, all_settled_in, with_parts}
use Rattle.ca_client_tables.specs.declared.foretelling.Creation.{Creation}
use Rattle.ca_client_tables.specs.declared.receiving.Received.{Received}
use Rattle.ca_client_core.specs.declared.for_histories.Sending.{Sending}
use Rattle.ca_client_core.specs.ForHistories.{sending_of}
use Rattle.ca_client_core.proofs.Datagrams.{at_moment, datagram-sound, noted-refused, some-begins, unread-begins}
use Rattle.ca_client_core.proofs.Sendings.{datagram-noted, received-so}
use Rattle.ca_client_core.proofs.client.ClientCore.receive.Goals as goal

pub returns-in_default : goal.returns-in_default
returns-in_default c = (refl, unread-begins c.args.bytes.now c.read.result c.read.ensures c.in_default.not-Ok)

pub returns-in_err-reserve : goal.returns-in_err-reserve
returns-in_err-reserve c =
    let a : Arrival = record { now = c.args.now; from = c.args.from; bytes = c.args.bytes.now } in
    let ms = c.messages-messages.result.now in
    let read : IsDatagram c.args.bytes.now ms = subst (λ (ns : List Fields). IsDatagram c.args.bytes.now ns) (sym c.messages-messages.ensures) c.in-Ok.ensures in
    let some : ms ≢ [] = λ none. (let long : length ms ≡ 0 = ap length none in omega (arith, c.in_err-reserve.ensures.full, c.new-sent.ensures.len, long)) in
    noted-refused c.args.self.now a c.from_residual.result c.from_residual.ensures.0 (some-begins c.args.bytes.now ms read some)

pub invariant_of-self : goal.invariant_of-self
invariant_of-self c =
    let i = c.self.inside in
    let x : Client = record {
      peer = record { user = i.user.items; host = i.host.items };
      servers = i.servers.items;
      moment = i.moment;
      channels = i.channels;
      requests = i.requests.table;
      subscriptions = i.monitors;
      circuits = i.circuits;
      order = i.order.items;
      issued = i.requests.order;
      searches = i.searches.entries;
      beacons = i.beacons;
    } in
    let a : Arrival = record { now = c.args.now; from = c.args.from; bytes = c.args.bytes.now } in
    let ms = c.messages-messages.result.now in
    let p : Parts = record { channels = c.receive_all.new.channels; circuits = c.receive_all.new.circuits; order = c.receive_all.new.order.items; beacons = c.receive_all.new.beacons } in
    let ds : List Received = c.in-Ok-receive_all.noted.done.items in
    let cs : List Creation = c.in-Ok-receive_all.noted.sent.items in
    let new : Client = record (with_parts p x) { moment = c.max-moment.result; searches = c.settle.new.searches.entries } in
    let left : new ≡ all_settled ds (with_parts p (at_moment a x)) =
    ap (λ (es : List (ℕ × search.Channel)). let y : Client = record (with_parts p x) { moment = c.max-moment.result; searches = es } in y) (c.settle.ensures ∙ ap (λ (fs : List Received). all_settled_in c.max-moment.result fs x.searches) c.deref.ensures.value)
    ∙ ap (λ (n : ℕ). let y : Client = record (with_parts p x) { moment = n; searches = all_settled_in n ds x.searches } in y) c.max-moment.ensures in
    datagram-sound i.lives.items x a ms ds p new (received-so _ p a ms ds cs c.in-Ok-receive_all.ensures.0) left c.self.invariant

pub returns-in-Ok-receive_all : goal.returns-in-Ok-receive_all
returns-in-Ok-receive_all c =
    let i = c.self.inside in
    let x : Client = record {
      peer = record { user = i.user.items; host = i.host.items };
      servers = i.servers.items;
      moment = i.moment;
      channels = i.channels;
      requests = i.requests.table;
      subscriptions = i.monitors;
      circuits = i.circuits;
      order = i.order.items;
      issued = i.requests.order;
      searches = i.searches.entries;
      beacons = i.beacons;
    } in
    let a : Arrival = record { now = c.args.now; from = c.args.from; bytes = c.args.bytes.now } in
    let ms = c.messages-messages.result.now in
    let p : Parts = record { channels = c.receive_all.new.channels; circuits = c.receive_all.new.circuits; order = c.receive_all.new.order.items; beacons = c.receive_all.new.beacons } in
    let ds : List Received = c.in-Ok-receive_all.noted.done.items in
    let cs : List Creation = c.in-Ok-receive_all.noted.sent.items in
    let new : Client = record (with_parts p x) { moment = c.max-moment.result; searches = c.settle.new.searches.entries } in
    let left : new ≡ all_settled ds (with_parts p (at_moment a x)) =
    ap (λ (es : List (ℕ × search.Channel)). let y : Client = record (with_parts p x) { moment = c.max-moment.result; searches = es } in y) (c.settle.ensures ∙ ap (λ (fs : List Received). all_settled_in c.max-moment.result fs x.searches) c.deref.ensures.value)
    ∙ ap (λ (n : ℕ). let y : Client = record (with_parts p x) { moment = n; searches = all_settled_in n ds x.searches } in y) c.max-moment.ensures in
    let read : IsDatagram c.args.bytes.now ms = subst (λ (ns : List Fields). IsDatagram c.args.bytes.now ns) (sym c.messages-messages.ensures) c.in-Ok.ensures in
    let sent : List Sending = c.push_creations.new.sent.items in
    let are : map sending_of sent ≡ map as_sent cs =
    c.push_creations.ensures ∙ ap (λ (ss : List Sending). map sending_of ss ++ map as_sent cs) (c.reserve.ensures.items ∙ c.new-sent.ensures.items) in
    subst (λ (y : Client). ClientReceives y a (Ok tt) (map sending_of sent) new × (16 * length sent ≤ length a.bytes)) c.self.view_is
    (datagram-noted x a ms ds cs p new sent read c.in-Ok-receive_all.ensures.0 c.in-Ok-receive_all.ensures.1 left are)

pub returns : goal.returns
returns c =
    let i = c.self.inside in
    let x : Client = record {
      peer = record { user = i.user.items; host = i.host.items };
      servers = i.servers.items;
      moment = i.moment;
      channels = i.channels;
      requests = i.requests.table;
      subscriptions = i.monitors;
      circuits = i.circuits;
      order = i.order.items;
      issued = i.requests.order;
      searches = i.searches.entries;
      beacons = i.beacons;
    } in
    let ms = c.messages-messages.result.now in
    let p : Parts = record { channels = c.receive_all.new.channels; circuits = c.receive_all.new.circuits; order = c.receive_all.new.order.items; beacons = c.receive_all.new.beacons } in
    let new : Client = with_parts p x in
    let read : IsDatagram c.args.bytes.now ms = subst (λ (ns : List Fields). IsDatagram c.args.bytes.now ns) (sym c.messages-messages.ensures) c.in-Ok.ensures in
    subst (λ (y : Client). (new ≡ y) × (NoneBegins c.args.bytes.now → ⊥)) c.self.view_is
    (ap (λ (q : Parts). with_parts q x) c.in-Err.ensures.1, some-begins c.args.bytes.now ms read c.in-Err.ensures.0)
