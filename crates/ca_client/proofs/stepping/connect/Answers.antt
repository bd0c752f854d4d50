use Rattle.std.proofs.Common.{◌∙◌}
use Rattle.std.specs.Arc.{arc_value}
use Rattle.ca_client.proofs.Settled.{due-told, stands-connected, stands-unconnected, state-same, state-told}
use Rattle.ca_client.proofs.stepping.connect.Goals as goal

pub settle-requires-clause-due : goal.settle-requires-clause-due
settle-requires-clause-due c =
    let s = c.state.inside in
    due-told s.core s.seat (arc_value s.board) s.tickets.items c.in-Some.closing.notices c.connected.new.self c.state.invariant (stands-unconnected s.core c.args.circuit c.in-Some.closing c.in-Some.ensures.0 c.connected.new.self c.state.invariant.placed c.state.invariant.listed c.in-Some.ensures.1).told

pub invariant_of-state-2 : goal.invariant_of-state-2
invariant_of-state-2 c =
    let s = c.state.inside in
    state-told s.core s.seat (arc_value s.board) s.tickets.items c.in-Some.closing.notices c.connected.new.self c.settle.new.seat c.state.invariant (stands-unconnected s.core c.args.circuit c.in-Some.closing c.in-Some.ensures.0 c.connected.new.self c.state.invariant.placed c.state.invariant.listed c.in-Some.ensures.1) c.settle.ensures.fills (c.settle.ensures.board ∙ c.deref.ensures)

pub invariant_of-state : goal.invariant_of-state
invariant_of-state c =
    let s = c.state.inside in
    let r = stands-connected s.core c.args.circuit c.in-None.ensures.0 c.connected.new.self c.state.invariant.placed c.in-None.ensures.1 in
    state-same s.core s.seat (arc_value s.board) s.tickets.items c.connected.new.self c.state.invariant r.0 r.1
