use Rattle.ca_server_subscriptions.proofs.Changes.{gives-lost, placed-lost}
use Rattle.ca_server_subscriptions.proofs.subscriptions.Subscriptions.drop_first.Goals as goal

pub invariant_of-self : goal.invariant_of-self
invariant_of-self c = (placed-lost c.self.inside.standing.entries c.self.inside.queues c.self.invariant.0 c.drop_first.new.self c.drop_first.ensures, c.self.invariant.1, c.self.invariant.2, c.self.invariant.3, c.self.invariant.4)

pub returns : goal.returns
returns c = gives-lost c.self.inside.standing.entries c.self.inside.queues c.self.invariant.0 c.args.self.now c.drop_first.new.self c.self.view_is c.drop_first.ensures
