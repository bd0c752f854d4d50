use Rattle.ca_server_subscriptions.proofs.Orders.{place-found, place-missing}
use Rattle.ca_server_subscriptions.proofs.order.is_before.Goals as goal

pub returns-in-Some : goal.returns-in-Some
returns-in-Some c = place-found c.args.key c.args.standing.now.entries c.args.place c.in-Some.found c.in-Some.ensures.index

pub returns-in-None : goal.returns-in-None
returns-in-None c = place-missing c.args.key c.args.standing.now.entries c.args.place c.in-None.ensures.found
