use Rattle.std.proofs.Common.{sym}
use Rattle.ca_lists.proofs.Listed.{listed-without}
use Rattle.ca_client_tables.specs.OnCircuits.{circuit_of}
use Rattle.ca_client_tables.proofs.OnLists.{none-on}
use Rattle.ca_client_tables.proofs.channels.Channels.leave.Goals as goal

pub invariant_of-self : goal.invariant_of-self
invariant_of-self c complete =
    listed-without circuit_of c.self.inside.table c.self.inside.circuits c.remove.new.self c.in-Some.circuit c.args.index c.remove.ensures.own c.remove.ensures.others
    (λ v there mine. none-on c.in-Some.circuit _ (sym c.if-is_on_index.ensures) v there mine) (c.self.invariant complete)
