use Rattle.std.specs.Arc.{arc_value}
use Rattle.ca_client.proofs.Given.{state-given}
use Rattle.ca_client.proofs.state.ClientState.give.Goals as goal

pub invariant_of-self : goal.invariant_of-self
invariant_of-self c =
    let s = c.self.inside in
    state-given s.core s.seat (arc_value s.board) s.tickets.items c.args.circuit c.args.bytes.now c.args.more c.give.result c.give.ensures.0 c.give.new.self c.self.invariant c.give.ensures.1
