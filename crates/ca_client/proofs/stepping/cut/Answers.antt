use Rattle.std.proofs.Common.{◌∙◌}
use Rattle.std.specs.Arc.{arc_value}
use Rattle.ca_model.specs.Ends as why
use Rattle.ca_client.proofs.Settled.{due-told, stands-end, state-told}
use Rattle.ca_client.proofs.stepping.cut.Goals as goal

pub settle-requires-clause-due : goal.settle-requires-clause-due
settle-requires-clause-due c =
    let s = c.state.inside in
    due-told s.core s.seat (arc_value s.board) s.tickets.items c.cut-closing.result.notices c.cut-closing.new.self c.state.invariant (stands-end why.Cut s.core c.args.circuit c.cut-closing.result c.cut-closing.ensures.0 c.cut-closing.new.self c.state.invariant.placed c.state.invariant.listed c.cut-closing.ensures.1).told

pub invariant_of-state : goal.invariant_of-state
invariant_of-state c =
    let s = c.state.inside in
    state-told s.core s.seat (arc_value s.board) s.tickets.items c.cut-closing.result.notices c.cut-closing.new.self c.settle.new.seat c.state.invariant (stands-end why.Cut s.core c.args.circuit c.cut-closing.result c.cut-closing.ensures.0 c.cut-closing.new.self c.state.invariant.placed c.state.invariant.listed c.cut-closing.ensures.1) c.settle.ensures.fills (c.settle.ensures.board ∙ c.deref.ensures)
