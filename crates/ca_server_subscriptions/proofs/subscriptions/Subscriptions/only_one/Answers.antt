use Rattle.ca_server_subscriptions.proofs.Passing.{if-passes}
use Rattle.ca_server_subscriptions.proofs.subscriptions.Subscriptions.only_one.Goals as goal

pub returns-in-Some-clause-passes : goal.returns-in-Some-clause-passes
returns-in-Some-clause-passes c =
    let quiet = c.is_idle.ensures.quiet c.if-not-is_idle.false in
    if-passes c.self.inside.standing.entries c.self.inside.queues c.self.invariant.0 c.args.name.now c.args.mask c.in-Some.standing.now c.args.self.now c.wanted_by.result c.in-Some.ensures quiet.0 quiet.1 c.self.view_is
    c.wanted_by.ensures.wants
