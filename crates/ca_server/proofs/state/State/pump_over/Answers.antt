use Rattle.ca_server.proofs.CountedCalls.{hands, then-nothing, pumps}
use Rattle.ca_server.proofs.Counting.{counted_nothing}
use Rattle.ca_server.proofs.state.State.pump_over.Goals as goal

pub invariant_of-self : goal.invariant_of-self
invariant_of-self g c =
    let s = c.args.self.now in
    let d = c.pump_over.ensures in
    let mid = d.1.0 in
    record { counted = counted_nothing s.core c.pump_over.new.self s.count s.book.total s.credits.items s.counted (then-nothing s.core mid c.pump_over.new.self (pumps s.core c.args.circuit d.0 mid d.1.1) (hands mid c.args.circuit _ c.pump_over.new.self d.1.2)) }
