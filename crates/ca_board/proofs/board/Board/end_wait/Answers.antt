use Rattle.std.proofs.Common.{◌≡◌, arith, inr, sym, ap, ◌∙◌, subst, ◌+◌, ◌*◌}
use Rattle.ca_board.specs.History.{IsOpen}
use Rattle.ca_board.specs.Views.{CallerView, with_give_up}
use Rattle.ca_board.proofs.After.{found_as, missed_word, caller_sound, caller_seen, ended}
use Rattle.ca_board.proofs.Collecting.{ups_as}
use Rattle.ca_board.proofs.board.Board.end_wait.Goals as goal

pub compare_exchange-requires : goal.compare_exchange-requires
compare_exchange-requires c = let z = c.self.invariant in let near = c.if-ticket-ge-BOARD_CELLS.false in let one : c.word-waiting.result ≡ 8 * c.args.ticket.generation + 1 = c.word-waiting.ensures in let five : c.word-given_up.result ≡ 8 * c.args.ticket.generation + 5 = c.word-given_up.ensures in
    ((ap (λ v. v.board) c.caller.view_is ∙ (c.requires ∙ sym c.self.view_is)), omega arith, ups_as _ _ _ c.args.ticket.generation _ _ _ _ _ _ c.caller.invariant (omega arith) one (omega arith))

pub invariant_of-caller : goal.invariant_of-caller
invariant_of-caller c = let one : c.word-waiting.result ≡ 8 * c.args.ticket.generation + 1 = c.word-waiting.ensures in let five : c.word-given_up.result ≡ 8 * c.args.ticket.generation + 5 = c.word-given_up.ensures in
    caller_sound c.compare_exchange.new.seat _ _ _ (missed_word c.args.ticket.cell c.compare_exchange.result _ _ _ _ _ c.caller.invariant ((c.compare_exchange.ensures.2 c.args.ticket.generation one).1 c.if-compare_exchange-waiting.true)).1

pub returns-then-compare_exchange-waiting-clause-found : goal.returns-then-compare_exchange-waiting-clause-found
returns-then-compare_exchange-waiting-clause-found c = λ _. let one : c.word-waiting.result ≡ 8 * c.args.ticket.generation + 1 = c.word-waiting.ensures in let five : c.word-given_up.result ≡ 8 * c.args.ticket.generation + 5 = c.word-given_up.ensures in
    let near = c.if-ticket-ge-BOARD_CELLS.false in
    inr (c.compare_exchange.result, (λ e. c.if-compare_exchange-waiting.true (omega arith)), found_as c.compare_exchange.new.seat c.args.caller.now c.args.ticket c.compare_exchange.result _ _ _ _ c.caller.inside.seat.me (omega arith) c.compare_exchange.ensures.0 c.caller.invariant ((c.compare_exchange.ensures.2 c.args.ticket.generation one).1 c.if-compare_exchange-waiting.true) c.caller.view_is)

pub invariant_of-caller-2 : goal.invariant_of-caller-2
invariant_of-caller-2 c = let one : c.word-waiting.result ≡ 8 * c.args.ticket.generation + 1 = c.word-waiting.ensures in let five : c.word-given_up.result ≡ 8 * c.args.ticket.generation + 5 = c.word-given_up.ensures in
    let e = ended c.self.inside.cells.shared.table_id.slots c.args.ticket.cell c.args.ticket.generation c.word-waiting.result c.word-given_up.result c.compare_exchange.result c.caller.inside.seat.me c.compare_exchange.new.seat.me _ _ _ c.caller.invariant c.compare_exchange.ensures.2 one c.if-compare_exchange-waiting.false in
    caller_sound c.compare_exchange.new.seat _ _ _ e.1

pub returns-clause-ended : goal.returns-clause-ended
returns-clause-ended c = λ _. let one : c.word-waiting.result ≡ 8 * c.args.ticket.generation + 1 = c.word-waiting.ensures in let five : c.word-given_up.result ≡ 8 * c.args.ticket.generation + 5 = c.word-given_up.ensures in
    let e = ended c.self.inside.cells.shared.table_id.slots c.args.ticket.cell c.args.ticket.generation c.word-waiting.result c.word-given_up.result c.compare_exchange.result c.caller.inside.seat.me c.compare_exchange.new.seat.me _ _ _ c.caller.invariant c.compare_exchange.ensures.2 one c.if-compare_exchange-waiting.false in
    (caller_seen c.compare_exchange.new.seat _ _ _ _ c.compare_exchange.ensures.0 e.1 ∙ ap (λ (v : CallerView). with_give_up v c.args.ticket) c.caller.view_is, subst (λ (v : CallerView). IsOpen v.takes v.gives v.seen c.args.ticket) c.caller.view_is e.0)
