use Rattle.std.proofs.Common.{◌∙◌, subst, sym}
use Rattle.std.specs.Arc.{arc_value}
use Rattle.ca_client.specs.Awaited.{StateView}
use Rattle.ca_client.specs.Calls.{HasSteppedUnderLock}
use Rattle.ca_client.specs.declared.ask.CoreCall.TheVariants as ask
use Rattle.ca_client.specs.Replies.{IsOther}
use Rattle.ca_client.specs.Stepping.{notices_in}
use Rattle.ca_client.proofs.Settled.{due-told, other-handed, stands-stepped, state-told, steps-handed}
use Rattle.ca_client.proofs.stepping.step_other.Goals as goal

pub hand_over-requires-clause-due : goal.hand_over-requires-clause-due
hand_over-requires-clause-due c =
    let s = c.state.inside in
    let steps = c.step-stepped.ensures in
    due-told s.core s.seat (arc_value s.board) s.tickets.items (notices_in c.step-stepped.result) c.step-stepped.new.self c.state.invariant (stands-stepped s.core c.args.circuit c.step-stepped.result steps.0 c.step-stepped.new.self c.state.invariant.placed c.state.invariant.listed steps.1).told

pub invariant_of-state : goal.invariant_of-state
invariant_of-state c =
    let s = c.state.inside in
    let steps = c.step-stepped.ensures in
    state-told s.core s.seat (arc_value s.board) s.tickets.items (notices_in c.step-stepped.result) c.step-stepped.new.self c.hand_over.new.seat c.state.invariant (stands-stepped s.core c.args.circuit c.step-stepped.result steps.0 c.step-stepped.new.self c.state.invariant.placed c.state.invariant.listed steps.1) c.hand_over.ensures.fills (c.hand_over.ensures.board ∙ c.deref.ensures)

pub returns-clause-steps : goal.returns-clause-steps
returns-clause-steps c =
    let s = c.state.inside in
    subst (λ (v : StateView). HasSteppedUnderLock v (ask.Step c.args.circuit) c.hand_over.result (record { core = c.step-stepped.new.self; seat = c.hand_over.new.seat; tickets = s.tickets.items })) c.state.view_is
    (steps-handed (record { core = s.core; seat = s.seat; tickets = s.tickets.items }) c.args.circuit c.step-stepped.new.self c.hand_over.new.seat c.step-stepped.result c.hand_over.result c.step-stepped.ensures c.hand_over.ensures.fills c.hand_over.ensures.answer)

pub returns-clause-other : goal.returns-clause-other
returns-clause-other c = subst IsOther (sym c.hand_over.ensures.answer) (other-handed c.step-stepped.result)
