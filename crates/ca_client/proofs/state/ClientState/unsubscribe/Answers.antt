use Rattle.std.specs.Arc.{arc_value}
use Rattle.ca_client.proofs.Frames.{state-unsubscribes}
use Rattle.ca_client.proofs.state.ClientState.unsubscribe.Goals as goal

pub invariant_of-self : goal.invariant_of-self
invariant_of-self c =
    let s = c.self.inside in
    state-unsubscribes s.core s.seat (arc_value s.board) s.tickets.items c.unsubscribe.new.self c.self.invariant c.args.subscription c.unsubscribe.result c.unsubscribe.ensures.0 c.unsubscribe.ensures.1
