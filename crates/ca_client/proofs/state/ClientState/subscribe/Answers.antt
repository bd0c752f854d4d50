use Rattle.std.specs.Arc.{arc_value}
use Rattle.ca_client.proofs.Frames.{state-subscribes}
use Rattle.ca_client.proofs.state.ClientState.subscribe.Goals as goal

pub invariant_of-self : goal.invariant_of-self
invariant_of-self c =
    let s = c.self.inside in
    state-subscribes s.core s.seat (arc_value s.board) s.tickets.items c.subscribe.new.self c.self.invariant c.args.channel (record { data_type = c.args.data_type; count = c.args.count }) c.args.mask c.subscribe.result c.subscribe.ensures.0 c.subscribe.ensures.1
