use Rattle.std.proofs.Common.{sym}
use Rattle.ca_server_subscriptions.specs.Subscribed.{subscriptions_in}
use Rattle.ca_server_subscriptions.proofs.Pumps.{gives-one, taken-some}
use Rattle.ca_server_subscriptions.proofs.subscriptions.Subscriptions.first.Goals as goal

pub unreachable-requires : goal.unreachable-requires
unreachable-requires c =
    let i = c.self.inside in
    let n = c.in_ok-key.ensures in
    taken-some i.standing.entries i.queues c.self.invariant.0 n.0 c.in_ok-key.key c.in_ok-key.update.now n.1 n.2 (sym c.in_default.ensures)

pub returns-clause-gives : goal.returns-clause-gives
returns-clause-gives c =
    let i = c.self.inside in
    let n = c.in_ok-key.ensures in (
      record { subscriptions = subscriptions_in i.standing.entries; queues = n.1 },
      gives-one i.standing.entries i.queues c.self.invariant.0 n.0 c.in_ok-key.key c.in_ok-key.update.now n.1 n.2 c.args.self.now c.in-Some.standing.now c.wanted.result c.self.view_is (sym c.in-Some.ensures) c.wanted.ensures.wanted,
    )
