use Rattle.std.specs.Arc.{arc_value}
use Rattle.ca_client.proofs.Given.{state-handed}
use Rattle.ca_client.proofs.state.ClientState.sent.Goals as goal

pub invariant_of-self : goal.invariant_of-self
invariant_of-self c =
    let s = c.self.inside in
    state-handed s.core s.seat (arc_value s.board) s.tickets.items c.args.circuit c.args.n c.sent.new.self c.self.invariant c.sent.ensures
