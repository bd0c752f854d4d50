use Rattle.ca_requests.proofs.Lined.{requests-tidied}
use Rattle.ca_requests.proofs.Orders.{tidied}
use Rattle.ca_requests.proofs.requests.Requests.tidy.Goals as goal

pub invariant_of-self : goal.invariant_of-self
invariant_of-self c =
    rw c.forget.ensures (requests-tidied c.self.inside.table c.self.inside.listed.items c.self.inside.circuits.items c.self.inside.channels.items c.self.invariant)

pub returns : goal.returns
returns c = rw (← c.self.view_is) (rw c.forget.ensures (tidied c.self.inside.table c.self.inside.listed.items))
