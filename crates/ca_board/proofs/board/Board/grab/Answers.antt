use Rattle.std.proofs.Common.{◌≡◌, suc, arith, sym, ap, ◌∙◌, ◌+◌, ◌*◌, ◌/◌, ◌∷◌, None}
use Rattle.ca_board.specs.History.{Sat, holding, refused_too}
use Rattle.ca_board.proofs.Filling.{looks_as, grabs_as}
use Rattle.ca_board.proofs.board.Board.grab.Goals as goal

pub load-requires : goal.load-requires
load-requires c = let z = c.self.invariant in let near = c.requires.due.2 in
    (c.requires.board ∙ sym c.self.view_is, omega arith, looks_as _ _ _ _ _ _ _ _ c.requires.idle (omega arith))

pub returns-then-is_waiting-clause-taken : goal.returns-then-is_waiting-clause-taken
returns-then-is_waiting-clause-taken c = λ _.
    c.load.ensures.2.0 (c.load.result / 8) (c.is_waiting.ensures.waits c.if-is_waiting.true)
    ∙ ap (λ (x : Sat). (holding c.args.seat.now.me.0 (suc c.args.ticket.cell), (c.args.ticket.cell, None) ∷ x.1)) c.requires.idle

pub compare_exchange-requires : goal.compare_exchange-requires
compare_exchange-requires c = let z = c.self.invariant in let near = c.requires.due.2 in let other = c.is_waiting.ensures.other c.if-is_waiting.false in
    let one : c.word-waiting.result ≡ 8 * c.args.ticket.generation + 1 = c.word-waiting.ensures in
    let same = c.load.ensures.2.1 (λ g e. other (omega arith)) in
    (c.load.ensures.0 ∙ (c.requires.board ∙ sym c.self.view_is), omega arith, grabs_as _ _ _ c.args.ticket.generation _ _ _ _ _ _ _ (same ∙ c.requires.idle) c.requires.due.0 c.requires.due.1 one one)

pub returns-then-compare_exchange-waiting-clause-gone : goal.returns-then-compare_exchange-waiting-clause-gone
returns-then-compare_exchange-waiting-clause-gone c = λ _. let other = c.is_waiting.ensures.other c.if-is_waiting.false in
    let one : c.word-waiting.result ≡ 8 * c.args.ticket.generation + 1 = c.word-waiting.ensures in
    let same = c.load.ensures.2.1 (λ g e. other (omega arith)) in
    (c.compare_exchange.ensures.2 c.args.ticket.generation one).1 c.if-compare_exchange-waiting.true
    ∙ (ap (λ (x : Sat). (refused_too x.0 c.args.ticket, x.1)) same ∙ ap (λ (x : Sat). (refused_too c.args.seat.now.me.0 c.args.ticket, x.1)) c.requires.idle)

pub returns-clause-taken : goal.returns-clause-taken
returns-clause-taken c = λ _. let other = c.is_waiting.ensures.other c.if-is_waiting.false in
    let one : c.word-waiting.result ≡ 8 * c.args.ticket.generation + 1 = c.word-waiting.ensures in
    let same = c.load.ensures.2.1 (λ g e. other (omega arith)) in
    (c.compare_exchange.ensures.2 c.args.ticket.generation one).0 c.if-compare_exchange-waiting.false
    ∙ (ap (λ (x : Sat). (holding x.0 (suc c.args.ticket.cell), (c.args.ticket.cell, None) ∷ x.1)) same
    ∙ ap (λ (x : Sat). (holding c.args.seat.now.me.0 (suc c.args.ticket.cell), (c.args.ticket.cell, None) ∷ x.1)) c.requires.idle)
