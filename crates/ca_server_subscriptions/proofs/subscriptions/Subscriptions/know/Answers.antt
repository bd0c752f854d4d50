use Rattle.std.proofs.Common.{List, ap, ◌∙◌, subst}
use Rattle.ca_queue.specs.declared.entry.SubKey.{SubKey}
use Rattle.ca_queue.specs.Keys.{is_among}
use Rattle.ca_server_subscriptions.specs.Subscribed.{AreKnown, Subscribed}
use Rattle.ca_server_subscriptions.proofs.Placing.{keys-of, room-is}
use Rattle.ca_server_subscriptions.proofs.subscriptions.Subscriptions.know.Goals as goal

pub returns-clause-known : goal.returns-clause-known
returns-clause-known c =
    let es = c.self.inside.standing.entries in
    subst (λ (s : Subscribed). AreKnown s) c.self.view_is
    (λ i q k at some. ap (λ (ks : List SubKey). is_among k ks) (keys-of es c.self.invariant.0.keyed) ∙ c.self.invariant.0.known i q k at some)

pub returns-clause-room : goal.returns-clause-room
returns-clause-room c = room-is c.self.inside.standing.entries c.self.inside.queues c.self.invariant.0 c.args.self.now c.self.view_is
