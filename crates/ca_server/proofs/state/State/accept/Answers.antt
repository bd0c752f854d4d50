use Rattle.ca_server.proofs.CountedCalls.{accepts}
use Rattle.ca_server.proofs.Counting.{counted_nothing}
use Rattle.ca_server.proofs.state.State.accept.Goals as goal

pub invariant_of-self : goal.invariant_of-self
invariant_of-self g c =
    let s = c.args.self.now in
    record { counted = counted_nothing s.core c.accept.new.self s.count s.book.total s.credits.items s.counted (accepts s.core c.accept.result c.accept.new.self c.accept.ensures.call) }
