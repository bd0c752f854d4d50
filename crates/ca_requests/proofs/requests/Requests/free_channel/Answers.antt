use Rattle.ca_requests.specs.Requests.{asks_on}
use Rattle.ca_requests.proofs.Lined.{requests-map}
use Rattle.ca_requests.proofs.Orders.{still-map}
use Rattle.ca_requests.proofs.Tables.{by_value, dims-freed, stays-freed}
use Rattle.ca_ids.specs.Table.{kept_of}
use Rattle.ca_requests.proofs.requests.Requests.free_channel.Goals as goal

pub invariant_of-self : goal.invariant_of-self
invariant_of-self c =
    requests-map (by_value (kept_of (asks_on c.args.channel))) c.self.inside.table c.free_all.new.table c.self.inside.listed.items c.self.inside.circuits.items c.self.inside.channels.items (dims-freed (asks_on c.args.channel)) (stays-freed (asks_on c.args.channel)) c.free_all.ensures c.self.invariant

pub returns : goal.returns
returns c =
    rw (← c.self.view_is)
    (still-map (by_value (kept_of (asks_on c.args.channel))) c.self.inside.table c.free_all.new.table c.self.inside.listed.items (dims-freed (asks_on c.args.channel)) c.free_all.ensures)
