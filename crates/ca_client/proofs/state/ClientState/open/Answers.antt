use Rattle.std.specs.Arc.{arc_value}
use Rattle.ca_client.proofs.Frames.{state-opens}
use Rattle.ca_client.proofs.state.ClientState.open.Goals as goal

pub invariant_of-self : goal.invariant_of-self
invariant_of-self c =
    let s = c.self.inside in
    state-opens s.core s.seat (arc_value s.board) s.tickets.items c.open.new.self c.self.invariant (record { name = c.args.name.now; priority = c.args.priority; now = c.args.now }) c.open.result c.open.ensures
