use Rattle.std.proofs.Common.{◌≡◌, ◌∙◌, refl, sym, ap, subst, length, rules}
use Rattle.std.specs.Arc.{arc_value}
use Rattle.ca_board.specs.Views.{CoreView}
use Rattle.ca_text.specs.Limits.{arena_slots}
use Rattle.ca_model.specs.Placed.{IsPlaced}
use Rattle.ca_text.specs.declared.refusal.Refusal.TheVariants.{OutOfMemory}
use Rattle.ca_client.proofs.Fresh.{lacks, state-new}
use Rattle.ca_client.proofs.state.ClientState.new.Goals as goal

pub invariant_of-state : goal.invariant_of-state
invariant_of-state c =
    let same : c.in_ok-board.seat.board ≡ arc_value c.in_ok-board-2.board =
    ap (λ (v : CoreView). v.board) c.in_ok-board.ensures.ok ∙ sym c.in_ok-board-2.ensures.ok in
    let wide : length c.in_ok-tickets.tickets.items ≡ arena_slots = search rules in
    state-new _ c.in_ok-core.core c.in_ok-board.seat (arc_value c.in_ok-board-2.board) c.in_ok-tickets.tickets.items c.in_ok-core.ensures
    (subst IsPlaced c.core.view_is c.core.invariant.placed) same wide

pub returns-in_err-board-clause-err : goal.returns-in_err-board-clause-err
returns-in_err-board-clause-err c =
    lacks _ _ c.in_err-board.field-0.0 c.from_residual-in_err-board.result c.in_ok-core.ensures c.from_residual-in_err-board.ensures.1 c.in_err-board.ensures.err

pub returns-in_err-tickets-clause-err : goal.returns-in_err-tickets-clause-err
returns-in_err-tickets-clause-err c =
    lacks _ _ OutOfMemory c.from_residual-in_err-tickets.result c.in_ok-core.ensures c.from_residual-in_err-tickets.ensures.1 refl

pub returns-in_err-board-2-clause-err : goal.returns-in_err-board-2-clause-err
returns-in_err-board-2-clause-err c =
    lacks _ _ OutOfMemory c.from_residual-in_err-board-2.result c.in_ok-core.ensures c.from_residual-in_err-board-2.ensures.1 refl
