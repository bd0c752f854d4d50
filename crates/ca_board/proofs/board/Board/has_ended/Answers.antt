use Rattle.std.proofs.Common.{arith, inr, sym, ap, ◌∙◌, subst}
use Rattle.ca_board.specs.History.{IsOpen}
use Rattle.ca_board.specs.Views.{CallerView}
use Rattle.ca_board.proofs.After.{found_as, missed_word, caller_sound}
use Rattle.ca_board.proofs.Collecting.{finds_as}
use Rattle.ca_board.proofs.board.Board.has_ended.Goals as goal

pub load-found-requires : goal.load-found-requires
load-found-requires c = let z = c.self.invariant in let near = c.if-ticket-ge-BOARD_CELLS.false in
    ((ap (λ v. v.board) c.caller.view_is ∙ (c.requires ∙ sym c.self.view_is)), omega arith, finds_as _ _ _ _ _ _ _ c.caller.invariant (omega arith))

pub invariant_of-caller : goal.invariant_of-caller
invariant_of-caller c =
    caller_sound c.load-found.new.seat _ _ _ (missed_word c.args.ticket.cell c.load-found.result _ _ _ _ _ c.caller.invariant c.load-found.ensures.2.0).1

pub returns-clause-ended : goal.returns-clause-ended
returns-clause-ended c = λ yes. let near = c.if-ticket-ge-BOARD_CELLS.false in let past = c.is_past.ensures.past yes in
    inr (c.load-found.result, omega arith, found_as c.load-found.new.seat c.args.caller.now c.args.ticket c.load-found.result _ _ _ _ c.caller.inside.seat.me (omega arith) c.load-found.ensures.0 c.caller.invariant c.load-found.ensures.2.0 c.caller.view_is)

pub returns-clause-open : goal.returns-clause-open
returns-clause-open c = λ no. let near = c.if-ticket-ge-BOARD_CELLS.false in let low = c.is_past.ensures.not_yet no in (
  subst (λ (v : CallerView). IsOpen v.takes v.gives v.seen c.args.ticket) c.caller.view_is (c.load-found.ensures.2.1 c.args.ticket.generation low),
  (c.load-found.result, low, found_as c.load-found.new.seat c.args.caller.now c.args.ticket c.load-found.result _ _ _ _ c.caller.inside.seat.me (omega arith) c.load-found.ensures.0 c.caller.invariant c.load-found.ensures.2.0 c.caller.view_is),
)
