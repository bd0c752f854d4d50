use Rattle.std.proofs.Common.{List, [], ◌∷◌, ◌∙◌, inl, inr, refl, subst, sym}
use Rattle.std.specs.Arc.{arc_value}
use Rattle.ca_model.specs.Answers.{Completed, Notice}
use Rattle.ca_model.specs.Client.{Client}
use Rattle.ca_client.specs.declared.answer.Answer.TheVariants as answer
use Rattle.ca_client.specs.declared.ask.CoreCall.TheVariants as ask
use Rattle.ca_client.specs.Awaited.{IsState, StateView}
use Rattle.ca_client.specs.Calls.{HasSteppedUnderLock}
use Rattle.ca_client.proofs.Settled.{due-told, rests-step, stands-heard, state-told}
use Rattle.ca_client.proofs.stepping.step_reply.Goals as goal

pub fill_one-requires-clause-due : goal.fill_one-requires-clause-due
fill_one-requires-clause-due c =
    let s = c.state.inside in
    let ns : List Notice = Completed c.in-Completed.request c.in-Completed.outcome ∷ [] in
    due-told s.core s.seat (arc_value s.board) s.tickets.items ns c.read_reply.new.self c.state.invariant (stands-heard s.core c.args.circuit ns c.in-Completed.ensures.0 c.read_reply.new.self c.state.invariant.placed c.state.invariant.listed c.in-Completed.ensures.1).told

pub invariant_of-state : goal.invariant_of-state
invariant_of-state c =
    let s = c.state.inside in
    let ns : List Notice = Completed c.in-Completed.request c.in-Completed.outcome ∷ [] in
    state-told s.core s.seat (arc_value s.board) s.tickets.items ns c.read_reply.new.self c.fill_one.new.seat c.state.invariant (stands-heard s.core c.args.circuit ns c.in-Completed.ensures.0 c.read_reply.new.self c.state.invariant.placed c.state.invariant.listed c.in-Completed.ensures.1) c.fill_one.ensures.fills (c.fill_one.ensures.board ∙ c.deref.ensures)

pub returns-in-Completed : goal.returns-in-Completed
returns-in-Completed c =
    let s = c.state.inside in
    let e = c.in-Completed.ensures in
    let ns : List Notice = Completed c.in-Completed.request c.in-Completed.outcome ∷ [] in
    subst (λ (v : StateView). HasSteppedUnderLock v (ask.Step c.args.circuit) answer.Filled (record { core = c.read_reply.new.self; seat = c.fill_one.new.seat; tickets = s.tickets.items })) c.state.view_is
    (ns, (inl (c.in-Completed.request, c.in-Completed.outcome, refl), e), c.fill_one.ensures.fills, refl, refl)

pub invariant_of-state-in-Unawaited : goal.invariant_of-state-in-Unawaited
invariant_of-state-in-Unawaited c =
    let s = c.state.inside in
    state-told s.core s.seat (arc_value s.board) s.tickets.items [] c.read_reply.new.self s.seat c.state.invariant (stands-heard s.core c.args.circuit [] c.in-Unawaited.ensures.0 c.read_reply.new.self c.state.invariant.placed c.state.invariant.listed c.in-Unawaited.ensures.1) refl c.state.invariant.same

pub returns-in-Unawaited : goal.returns-in-Unawaited
returns-in-Unawaited c =
    let s = c.state.inside in
    let e = c.in-Unawaited.ensures in
    subst (λ (v : StateView). HasSteppedUnderLock v (ask.Step c.args.circuit) answer.Filled (record { core = c.read_reply.new.self; seat = s.seat; tickets = s.tickets.items })) c.state.view_is
    ([], (inr refl, e), refl, refl, refl)

pub invariant_of-state-in-NeedBytes : goal.invariant_of-state-in-NeedBytes
invariant_of-state-in-NeedBytes c =
    let s = c.state.inside in
    subst (λ (x : Client). IsState x s.seat (arc_value s.board) s.tickets.items) (sym (rests-step s.core c.args.circuit c.in-NeedBytes.ensures.0 c.read_reply.new.self c.in-NeedBytes.ensures.1)) c.state.invariant

pub returns-in-NeedBytes : goal.returns-in-NeedBytes
returns-in-NeedBytes c =
    let s = c.state.inside in
    subst (λ (v : StateView). HasSteppedUnderLock v (ask.Step c.args.circuit) answer.NeedBytes (record { core = c.read_reply.new.self; seat = s.seat; tickets = s.tickets.items })) c.state.view_is
    ([], (refl, c.in-NeedBytes.ensures), refl, refl, refl)

pub invariant_of-state-in-Other : goal.invariant_of-state-in-Other
invariant_of-state-in-Other c =
    let s = c.state.inside in
    subst (λ (x : Client). IsState x s.seat (arc_value s.board) s.tickets.items) (sym c.in-Other.ensures) c.state.invariant
