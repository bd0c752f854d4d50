use Rattle.std.proofs.Common.{◌≡◌, ◌∙◌, Err, List, Ok, Some, ap, refl, subst, sym, ℕ}
use Rattle.ca_ids.specs.Table.{under}
use Rattle.ca_requests.specs.Calls.{Answers}
use Rattle.ca_requests.specs.Meaning.{message_of}
use Rattle.ca_model.specs.Client.{Client}
use Rattle.ca_client_tables.specs.declared.first.First.TheVariants as first
use Rattle.ca_client_core.specs.Dispatch.{HearsFirstReply}
use Rattle.ca_client_core.specs.First.{FirstOn, first_on, without_first}
use Rattle.ca_client_core.specs.Hearing.{HearsReply}
use Rattle.ca_client_core.proofs.Firsts.{first-some, payload-found, whole-found}
use Rattle.ca_client_core.proofs.Placing.{hears-reply, sound-answered, with_issued}
use Rattle.ca_client_core.proofs.Replied.{reply-taken}
use Rattle.ca_client_core.proofs.client.ClientCore.complete.Goals as goal

pub payload-requires : goal.payload-requires
payload-requires c =
    whole-found c.args.self.now c.args.circuit c.in-Some.found.now c.args.head.now (c.in-Some.ensures ∙ ap (λ (y : Client). under y.circuits c.args.circuit) c.self.view_is) c.requires

pub unreachable-requires : goal.unreachable-requires
unreachable-requires c = first-some c.args.self.now c.args.circuit c.args.head.now (c.in_default.ensures ∙ ap (λ (y : Client). under y.circuits c.args.circuit) c.self.view_is) c.requires

pub take-requires : goal.take-requires
take-requires c = subst (λ (y : Client). FirstOn y c.args.circuit (first.Message c.args.head.now)) (sym c.self.view_is) c.requires

pub invariant_of-self : goal.invariant_of-self
invariant_of-self c = sound-answered c.self.inside.channels c.self.inside.searches.entries c.self.inside.requests.table c.self.inside.monitors c.self.inside.circuits c.self.inside.lives.items c.self.invariant _ c.answer.new.self _ _ c.answer.result refl c.answer.ensures

pub invariant_of-self-in-Err : goal.invariant_of-self-in-Err
invariant_of-self-in-Err c = sound-answered c.self.inside.channels c.self.inside.searches.entries c.self.inside.requests.table c.self.inside.monitors c.self.inside.circuits c.self.inside.lives.items c.self.invariant _ c.answer.new.self _ _ c.answer.result refl c.answer.ensures

pub returns-in-Ok : goal.returns-in-Ok
returns-in-Ok c =
    let i = c.self.inside in
    let x : Client = record {
      peer = record { user = i.user.items; host = i.host.items };
      servers = i.servers.items;
      moment = i.moment;
      channels = i.channels;
      requests = i.requests.table;
      subscriptions = i.monitors;
      circuits = i.circuits;
      order = i.order.items;
      issued = i.requests.order;
      searches = i.searches.entries;
      beacons = i.beacons;
    } in
    let h = c.args.circuit in
    let head = c.args.head.now in
    let n = c.answer.new.self in
    let m = first_on x h head in
    let told = subst (λ (p : List ℕ). Answers (record { table = x.requests; order = x.issued }) h (message_of head.header p) (Ok c.in-Ok.told) n) (payload-found x h c.in-Some.found.now head c.payload.result.now c.in-Some.ensures c.payload.ensures) c.in-Ok.ensures in
    let heard : HearsReply x h m (Ok c.in-Ok.told) (with_issued x n) = hears-reply x n m _ (Ok c.in-Ok.told) told in
    let taken = reply-taken x (with_issued x n) h head m c.in-Ok.told heard in
    subst (λ (y : Client). HearsFirstReply y h head (Ok c.in-Ok.told) c.take.new.self) c.self.view_is
    (subst (λ (z : Client). HearsReply (without_first h head x) h m (Ok c.in-Ok.told) z) (sym c.take.ensures) taken)

pub returns-in-Err : goal.returns-in-Err
returns-in-Err c =
    let i = c.self.inside in
    let x : Client = record {
      peer = record { user = i.user.items; host = i.host.items };
      servers = i.servers.items;
      moment = i.moment;
      channels = i.channels;
      requests = i.requests.table;
      subscriptions = i.monitors;
      circuits = i.circuits;
      order = i.order.items;
      issued = i.requests.order;
      searches = i.searches.entries;
      beacons = i.beacons;
    } in
    let h = c.args.circuit in
    let head = c.args.head.now in
    let n = c.answer.new.self in
    let m = first_on x h head in
    let told = subst (λ (p : List ℕ). Answers (record { table = x.requests; order = x.issued }) h (message_of head.header p) (Err c.in-Err.refused) n) (payload-found x h c.in-Some.found.now head c.payload.result.now c.in-Some.ensures c.payload.ensures) c.in-Err.ensures in
    subst (λ (y : Client). HearsFirstReply y h head (Err c.in-Err.refused) (with_issued x n)) c.self.view_is
    (hears-reply x n m _ (Err c.in-Err.refused) told)
