use Rattle.std.proofs.Common.{sym, subst}
use Rattle.ca_server_subscriptions.specs.Owing.{AreEmpty, AreOn}
use Rattle.ca_server_subscriptions.specs.Subscribed.{Subscribed}
use Rattle.ca_server_subscriptions.proofs.Passing.{if-passes}
use Rattle.ca_server_subscriptions.proofs.subscriptions.Subscriptions.seek_only.Goals as goal

pub returns-clause-passes : goal.returns-clause-passes
returns-clause-passes c =
    let on = subst (λ (s : Subscribed). AreOn s.queues) (sym c.self.view_is) c.requires.on in
    let empty = subst (λ (s : Subscribed). AreEmpty s.queues) (sym c.self.view_is) c.requires.empty in
    if-passes c.self.inside.standing.entries c.self.inside.queues c.self.invariant.0 c.args.name.now c.args.mask c.in_ok-standing.standing.now c.args.self.now c.wanted_by.result c.in_ok-standing.ensures on empty c.self.view_is
    c.wanted_by.ensures.wants
