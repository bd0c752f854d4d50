use Rattle.std.proofs.Common.{◌∙◌, ap, sym, subst, refl, ℕ, Ok}
use Rattle.std.specs.Prelude.{slice_set}
use Rattle.std.specs.Arc.{arc_value}
use Rattle.ca_board.specs.Views.{CoreView}
use Rattle.ca_model.specs.Client.{Client}
use Rattle.ca_client.specs.Awaited.{IsState, StateView}
use Rattle.ca_client.specs.Calls.{HasIssuedUnderLock}
use Rattle.ca_client.proofs.Issued.{issued-none, issued-refused, issued-undone, state-issued, state-recycled, state-refused}
use Rattle.ca_client.proofs.Tickets.{armed_after, unarmed}
use Rattle.ca_client.proofs.issuing.issue_under_lock.Goals as goal

pub invariant_of-state : goal.invariant_of-state
invariant_of-state c =
    let s = c.state.inside in
    state-recycled s.core s.seat c.arm_one.new.seat (arc_value s.board) s.tickets.items c.state.invariant (unarmed s.seat c.arm_one.new.seat c.in_err-ticket.field-0.0 c.in_err-ticket.ensures)

pub returns-in_err-ticket : goal.returns-in_err-ticket
returns-in_err-ticket c =
    let s = c.state.inside in
    let new : StateView = record { core = s.core; seat = c.arm_one.new.seat; tickets = s.tickets.items } in
    subst (λ (v : StateView). HasIssuedUnderLock v c.args.request.now c.from_residual.result new) c.state.view_is
    (issued-none (record { core = s.core; seat = s.seat; tickets = s.tickets.items }) c.args.request.now c.in_err-ticket.field-0.0 new c.from_residual.result c.from_residual.ensures.1 refl refl c.in_err-ticket.ensures)

pub issue_or_take_back-requires : goal.issue_or_take_back-requires
issue_or_take_back-requires c =
    let s = c.state.inside in
    let f = armed_after s.seat c.arm_one.new.seat c.in_ok-ticket.ticket c.in_ok-ticket.ensures in
    record { board = ap (λ (v : CoreView). v.board) f.2.0 ∙ f.1.0 ∙ c.state.invariant.same ∙ sym c.deref-2.ensures; due = f.2.2; kept = f.2.3 }

pub invariant_of-state-in_err-handle : goal.invariant_of-state-in_err-handle
invariant_of-state-in_err-handle c =
    let s = c.state.inside in
    let f = armed_after s.seat c.arm_one.new.seat c.in_ok-ticket.ticket c.in_ok-ticket.ensures in
    subst (λ (x : Client). IsState x c.issue_or_take_back.new.seat (arc_value s.board) s.tickets.items) (sym (issued-refused s.core c.args.request.now c.in_err-handle.field-0.0 c.issue_or_take_back.new.core c.in_err-handle.ensures.issued))
    (state-refused s.core s.seat f.0 c.arm_one.new.seat c.issue_or_take_back.new.seat (arc_value s.board) s.tickets.items c.in_ok-ticket.ticket c.state.invariant f.1 f.2.0 f.2.1.0 c.in_err-handle.ensures.err)

pub returns-in_err-handle : goal.returns-in_err-handle
returns-in_err-handle c =
    let s = c.state.inside in
    let new : StateView = record { core = c.issue_or_take_back.new.core; seat = c.issue_or_take_back.new.seat; tickets = s.tickets.items } in
    subst (λ (v : StateView). HasIssuedUnderLock v c.args.request.now c.from_residual-in_err-handle.result new) c.state.view_is
    (issued-undone (record { core = s.core; seat = s.seat; tickets = s.tickets.items }) c.args.request.now c.in_err-handle.field-0.0 new c.from_residual-in_err-handle.result c.in_ok-ticket.ticket c.arm_one.new.seat c.from_residual-in_err-handle.ensures.1 refl c.in_ok-ticket.ensures c.in_err-handle.ensures.issued c.in_err-handle.ensures.err)

pub invariant_of-state-2 : goal.invariant_of-state-2
invariant_of-state-2 c =
    let s = c.state.inside in
    let f = armed_after s.seat c.arm_one.new.seat c.in_ok-ticket.ticket c.in_ok-ticket.ensures in
    subst (λ (v : CoreView). IsState c.issue_or_take_back.new.core v (arc_value s.board) (slice_set s.tickets.items c.from.result c.in_ok-ticket.ticket)) (sym c.in_ok-handle.ensures.ok)
    (subst (λ (n : ℕ). IsState c.issue_or_take_back.new.core c.arm_one.new.seat (arc_value s.board) (slice_set s.tickets.items n c.in_ok-ticket.ticket)) (sym c.from.ensures)
    (state-issued s.core s.seat f.0 c.arm_one.new.seat (arc_value s.board) s.tickets.items c.in_ok-ticket.ticket c.args.request.now c.in_ok-handle.handle c.issue_or_take_back.new.core c.state.invariant f.1 f.2.0 f.2.1.0 f.2.2 c.in_ok-handle.ensures.issued))

pub returns : goal.returns
returns c =
    let s = c.state.inside in
    let ticket = c.in_ok-ticket.ticket in
    let tickets = slice_set s.tickets.items c.from.result ticket in
    subst (λ (v : StateView). HasIssuedUnderLock v c.args.request.now (Ok (c.in_ok-handle.handle, ticket)) (record { core = c.issue_or_take_back.new.core; seat = c.issue_or_take_back.new.seat; tickets = tickets })) c.state.view_is
    (subst (λ (v : CoreView). HasIssuedUnderLock (record { core = s.core; seat = s.seat; tickets = s.tickets.items }) c.args.request.now (Ok (c.in_ok-handle.handle, ticket)) (record { core = c.issue_or_take_back.new.core; seat = v; tickets = tickets })) (sym c.in_ok-handle.ensures.ok)
    (c.in_ok-ticket.ensures, c.in_ok-handle.ensures.issued, ap (λ (n : ℕ). slice_set s.tickets.items n ticket) c.from.ensures))
