use Rattle.std.proofs.Common.{◌∙◌}
use Rattle.std.specs.Arc.{arc_value}
use Rattle.ca_client.proofs.Settled.{due-told, stands-cleared, state-told}
use Rattle.ca_client.proofs.stepping.clear.Goals as goal

pub fill_all-requires-clause-due : goal.fill_all-requires-clause-due
fill_all-requires-clause-due c =
    let s = c.state.inside in
    due-told s.core s.seat (arc_value s.board) s.tickets.items c.in-Ok.notices c.clear.new.self c.state.invariant (stands-cleared s.core c.args.channel c.in-Ok.notices c.in-Ok.ensures.0 c.clear.new.self c.state.invariant.placed c.state.invariant.listed c.in-Ok.ensures.1).told

pub invariant_of-state-2 : goal.invariant_of-state-2
invariant_of-state-2 c =
    let s = c.state.inside in
    state-told s.core s.seat (arc_value s.board) s.tickets.items c.in-Ok.notices c.clear.new.self c.fill_all.new.seat c.state.invariant (stands-cleared s.core c.args.channel c.in-Ok.notices c.in-Ok.ensures.0 c.clear.new.self c.state.invariant.placed c.state.invariant.listed c.in-Ok.ensures.1) c.fill_all.ensures.fills (c.fill_all.ensures.board ∙ c.deref.ensures)
