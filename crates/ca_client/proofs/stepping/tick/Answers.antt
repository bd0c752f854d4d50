use Rattle.std.proofs.Common.{◌≡◌, ◌∙◌, List, Ok, ap, refl, subst, sym}
use Rattle.std.specs.Arc.{arc_value}
use Rattle.ca_client_core.specs.Ticked.{lefts_of, notices_of}
use Rattle.ca_model.specs.Answers.{Notice, Ticked}
use Rattle.ca_model.specs.ClientEnds.{ClientTicks}
use Rattle.ca_client.specs.declared.answer.Answer.TheVariants as answer
use Rattle.ca_client.specs.declared.ask.CoreCall.TheVariants as ask
use Rattle.ca_client.specs.Awaited.{StateView}
use Rattle.ca_client.specs.Calls.{HasSteppedUnderLock}
use Rattle.ca_client.proofs.Settled.{Stands, due-told, state-told}
use Rattle.ca_client.proofs.Ticked.{stands-ticked}
use Rattle.ca_client.proofs.stepping.tick.Goals as goal

pub fill_each-requires-clause-due : goal.fill_each-requires-clause-due
fill_each-requires-clause-due c =
    let s = c.state.inside in
    let ran = stands-ticked s.core c.args.now c.in-Ok.ticked c.in-Ok.ensures.0 c.tick.new.self c.state.invariant.placed c.state.invariant.listed c.in-Ok.ensures.1 in
    let told = subst (λ (ns : List Notice). Stands s.core ns c.tick.new.self) (sym (ap (λ (t : Ticked). t.notices) c.ticked.view_is)) ran in
    due-told s.core s.seat (arc_value s.board) s.tickets.items (notices_of c.ticked.inside.closings.items) c.tick.new.self c.state.invariant told.told

pub invariant_of-state-2 : goal.invariant_of-state-2
invariant_of-state-2 c =
    let s = c.state.inside in
    let ran = stands-ticked s.core c.args.now c.in-Ok.ticked c.in-Ok.ensures.0 c.tick.new.self c.state.invariant.placed c.state.invariant.listed c.in-Ok.ensures.1 in
    let told = subst (λ (ns : List Notice). Stands s.core ns c.tick.new.self) (sym (ap (λ (t : Ticked). t.notices) c.ticked.view_is)) ran in
    state-told s.core s.seat (arc_value s.board) s.tickets.items (notices_of c.ticked.inside.closings.items) c.tick.new.self c.fill_each.new.seat c.state.invariant told c.fill_each.ensures.fills (c.fill_each.ensures.board ∙ c.deref.ensures)

pub returns : goal.returns
returns c =
    let s = c.state.inside in
    let ls = c.ticked.inside.closings.items in
    let all : Ticked = record { notices = notices_of ls; datagrams = c.ticked.inside.datagrams.items; closings = lefts_of c.fill_each.new.closings.items } in
    let left : Ticked = record { notices = notices_of c.fill_each.new.closings.items; datagrams = c.ticked.inside.datagrams.items; closings = lefts_of c.fill_each.new.closings.items } in
    let same : c.in-Ok.ticked ≡ all =
    sym c.ticked.view_is ∙ (λ i. record { notices = notices_of ls; datagrams = c.ticked.inside.datagrams.items; closings = sym c.fill_each.ensures.lefts i }) in
    subst (λ (v : StateView). HasSteppedUnderLock v (ask.Tick c.args.now) (answer.Ticked left) (record { core = c.tick.new.self; seat = c.fill_each.new.seat; tickets = s.tickets.items })) c.state.view_is (
      notices_of ls,
      (c.in-Ok.ensures.0, subst (λ (t : Ticked). ClientTicks s.core c.args.now (Ok t) c.in-Ok.ensures.0 c.tick.new.self) same c.in-Ok.ensures.1),
      c.fill_each.ensures.fills,
      c.fill_each.ensures.others,
      refl,
    )
