use Rattle.std.specs.Arc.{arc_value}
use Rattle.ca_dbr.specs.Elements.{elements}
use Rattle.ca_client.proofs.Frames.{state-writes}
use Rattle.ca_client.proofs.state.ClientState.write.Goals as goal

pub invariant_of-self : goal.invariant_of-self
invariant_of-self c =
    let s = c.self.inside in
    state-writes s.core s.seat (arc_value s.board) s.tickets.items c.write.new.self c.self.invariant c.args.channel (elements c.args.value.now) c.write.result c.write.ensures.0 c.write.ensures.1
