use Rattle.std.specs.Arc.{arc_value}
use Rattle.ca_client.proofs.Frames.{state-receives}
use Rattle.ca_client.proofs.state.ClientState.datagram.Goals as goal

pub invariant_of-self : goal.invariant_of-self
invariant_of-self c =
    let s = c.self.inside in
    state-receives s.core s.seat (arc_value s.board) s.tickets.items c.datagram.new.self c.self.invariant (record { now = c.args.now; from = c.args.from; bytes = c.args.bytes.now }) c.datagram.result c.datagram.ensures.0 c.datagram.ensures.1
