use Rattle.ca_requests.proofs.Lined.{requests-freed}
use Rattle.ca_requests.proofs.Orders.{still-freed}
use Rattle.ca_requests.proofs.requests.Requests.free.Goals as goal

pub invariant_of-self : goal.invariant_of-self
invariant_of-self c =
    requests-freed c.self.inside.table c.free.new.self c.self.inside.listed.items c.self.inside.circuits.items c.self.inside.channels.items c.args.handle c.free.ensures.after c.self.invariant

pub returns : goal.returns
returns c =
    rw (← c.self.view_is)
    (still-freed c.self.inside.table c.free.new.self c.self.inside.listed.items c.args.handle c.free.ensures.after)
