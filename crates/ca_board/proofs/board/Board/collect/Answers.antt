use Rattle.std.proofs.Common.{◌≡◌, arith, refl, sym, ap, ◌∙◌, subst, inr, ◌+◌, ◌*◌, Some, [], ◌∷◌, ◌++◌}
use Rattle.std.specs.Option.{IsSome}
use Rattle.ca_board.specs.History.{Slot, IsOpen}
use Rattle.ca_board.specs.Views.{CallerView, with_take}
use Rattle.ca_board.proofs.After.{found_as, missed_word, caller_sound, caller_seen, taken, Taken, emptied, given, holds_one, found_there}
use Rattle.ca_board.proofs.Collecting.{takes_as, hands_as}
use Rattle.ca_board.proofs.Filling.{some_out}
use Rattle.ca_board.proofs.board.Board.collect.Goals as goal

pub compare_exchange-requires : goal.compare_exchange-requires
compare_exchange-requires c = let z = c.self.invariant in let near = c.if-cell-ge-BOARD_CELLS.false in let two : c.word-done.result ≡ 8 * c.args.ticket.generation + 2 = c.word-done.ensures in let three : c.word-taken.result ≡ 8 * c.args.ticket.generation + 3 = c.word-taken.ensures in
    ((ap (λ v. v.board) c.caller.view_is ∙ (c.requires ∙ sym c.self.view_is)), omega arith, takes_as _ _ _ c.args.ticket.generation _ _ _ _ _ _ c.caller.invariant (omega arith) (omega arith) (omega arith))

pub invariant_of-caller : goal.invariant_of-caller
invariant_of-caller c = let two : c.word-done.result ≡ 8 * c.args.ticket.generation + 2 = c.word-done.ensures in let three : c.word-taken.result ≡ 8 * c.args.ticket.generation + 3 = c.word-taken.ensures in
    caller_sound c.compare_exchange.new.seat _ _ _ (missed_word c.args.ticket.cell c.compare_exchange.result _ _ _ _ _ c.caller.invariant ((c.compare_exchange.ensures.2 c.args.ticket.generation two).1 c.if-compare_exchange-done.true)).1

pub returns-then-compare_exchange-done : goal.returns-then-compare_exchange-done
returns-then-compare_exchange-done c = let two : c.word-done.result ≡ 8 * c.args.ticket.generation + 2 = c.word-done.ensures in let three : c.word-taken.result ≡ 8 * c.args.ticket.generation + 3 = c.word-taken.ensures in
    let near = c.if-cell-ge-BOARD_CELLS.false in
    inr (c.compare_exchange.result, (λ e. c.if-compare_exchange-done.true (omega arith)), found_as c.compare_exchange.new.seat c.args.caller.now c.args.ticket c.compare_exchange.result _ _ _ _ c.caller.inside.seat.me (omega arith) c.compare_exchange.ensures.0 c.caller.invariant ((c.compare_exchange.ensures.2 c.args.ticket.generation two).1 c.if-compare_exchange-done.true) c.caller.view_is)

pub exchange-outcome-requires : goal.exchange-outcome-requires
exchange-outcome-requires c = let two : c.word-done.result ≡ 8 * c.args.ticket.generation + 2 = c.word-done.ensures in let three : c.word-taken.result ≡ 8 * c.args.ticket.generation + 3 = c.word-taken.ensures in
    let t : Taken c.args.ticket.cell c.args.ticket.generation c.caller.inside.seat.me.0.caller.takes c.caller.inside.seat.me.0.caller.gives c.caller.inside.seat.me.0.caller.seen c.compare_exchange.new.seat.me = taken c.self.inside.cells.shared.table_id.slots c.args.ticket.cell c.args.ticket.generation c.word-done.result c.word-taken.result c.compare_exchange.result c.caller.inside.seat.me c.compare_exchange.new.seat.me c.caller.inside.seat.me.0.caller.takes c.caller.inside.seat.me.0.caller.gives c.caller.inside.seat.me.0.caller.seen c.caller.invariant c.compare_exchange.ensures.2 two c.if-compare_exchange-done.false in
    (c.compare_exchange.ensures.0 ∙ (ap (λ v. v.board) c.caller.view_is ∙ (c.requires ∙ sym c.self.view_is)), (Some t.0, holds_one c.compare_exchange.new.seat.me c.args.ticket.cell _ (Some t.0) t.2))

pub store-requires : goal.store-requires
store-requires c = let z = c.self.invariant in let near = c.if-cell-ge-BOARD_CELLS.false in let two : c.word-done.result ≡ 8 * c.args.ticket.generation + 2 = c.word-done.ensures in let three : c.word-taken.result ≡ 8 * c.args.ticket.generation + 3 = c.word-taken.ensures in
    let t : Taken c.args.ticket.cell c.args.ticket.generation c.caller.inside.seat.me.0.caller.takes c.caller.inside.seat.me.0.caller.gives c.caller.inside.seat.me.0.caller.seen c.compare_exchange.new.seat.me = taken c.self.inside.cells.shared.table_id.slots c.args.ticket.cell c.args.ticket.generation c.word-done.result c.word-taken.result c.compare_exchange.result c.caller.inside.seat.me c.compare_exchange.new.seat.me c.caller.inside.seat.me.0.caller.takes c.caller.inside.seat.me.0.caller.gives c.caller.inside.seat.me.0.caller.seen c.caller.invariant c.compare_exchange.ensures.2 two c.if-compare_exchange-done.false in (
      c.exchange-outcome.ensures.0 ∙ (c.compare_exchange.ensures.0 ∙ (ap (λ v. v.board) c.caller.view_is ∙ (c.requires ∙ sym c.self.view_is))),
      omega arith,
      hands_as _ _ _ c.args.ticket.generation _ _ c.caller.inside.seat.me.0.caller.takes c.caller.inside.seat.me.0.caller.gives c.caller.inside.seat.me.0.caller.seen t.0 (emptied c.args.ticket.cell c.compare_exchange.new.seat.me c.exchange-outcome.new.seat.me _ (Some t.0) t.2 c.exchange-outcome.ensures.3) (omega arith) (omega arith),
    )

pub unwrap-requires : goal.unwrap-requires
unwrap-requires c = let two : c.word-done.result ≡ 8 * c.args.ticket.generation + 2 = c.word-done.ensures in let three : c.word-taken.result ≡ 8 * c.args.ticket.generation + 3 = c.word-taken.ensures in
    let t : Taken c.args.ticket.cell c.args.ticket.generation c.caller.inside.seat.me.0.caller.takes c.caller.inside.seat.me.0.caller.gives c.caller.inside.seat.me.0.caller.seen c.compare_exchange.new.seat.me = taken c.self.inside.cells.shared.table_id.slots c.args.ticket.cell c.args.ticket.generation c.word-done.result c.word-taken.result c.compare_exchange.result c.caller.inside.seat.me c.compare_exchange.new.seat.me c.caller.inside.seat.me.0.caller.takes c.caller.inside.seat.me.0.caller.gives c.caller.inside.seat.me.0.caller.seen c.caller.invariant c.compare_exchange.ensures.2 two c.if-compare_exchange-done.false in
    let is = found_there c.args.ticket.cell c.compare_exchange.new.seat.me _ (Some t.0) c.exchange-outcome.result _ t.2 c.exchange-outcome.ensures.2 in
    subst (λ (x : Slot). IsSome x) (sym is) refl

pub invariant_of-caller-2 : goal.invariant_of-caller-2
invariant_of-caller-2 c = let two : c.word-done.result ≡ 8 * c.args.ticket.generation + 2 = c.word-done.ensures in let three : c.word-taken.result ≡ 8 * c.args.ticket.generation + 3 = c.word-taken.ensures in
    let t : Taken c.args.ticket.cell c.args.ticket.generation c.caller.inside.seat.me.0.caller.takes c.caller.inside.seat.me.0.caller.gives c.caller.inside.seat.me.0.caller.seen c.compare_exchange.new.seat.me = taken c.self.inside.cells.shared.table_id.slots c.args.ticket.cell c.args.ticket.generation c.word-done.result c.word-taken.result c.compare_exchange.result c.caller.inside.seat.me c.compare_exchange.new.seat.me c.caller.inside.seat.me.0.caller.takes c.caller.inside.seat.me.0.caller.gives c.caller.inside.seat.me.0.caller.seen c.caller.invariant c.compare_exchange.ensures.2 two c.if-compare_exchange-done.false in
    let empty = emptied c.args.ticket.cell c.compare_exchange.new.seat.me c.exchange-outcome.new.seat.me _ (Some t.0) t.2 c.exchange-outcome.ensures.3 in
    let now = given c.self.inside.cells.shared.table_id.slots c.args.ticket.cell c.word-empty.result c.word-empty.result c.args.ticket.generation c.exchange-outcome.new.seat.me c.store.new.seat.me (c.caller.inside.seat.me.0.caller.takes ++ (c.args.ticket, t.0) ∷ []) c.caller.inside.seat.me.0.caller.gives c.caller.inside.seat.me.0.caller.seen empty c.store.ensures.2 in
    caller_sound c.store.new.seat _ _ _ now

pub returns : goal.returns
returns c = let two : c.word-done.result ≡ 8 * c.args.ticket.generation + 2 = c.word-done.ensures in let three : c.word-taken.result ≡ 8 * c.args.ticket.generation + 3 = c.word-taken.ensures in
    let t : Taken c.args.ticket.cell c.args.ticket.generation c.caller.inside.seat.me.0.caller.takes c.caller.inside.seat.me.0.caller.gives c.caller.inside.seat.me.0.caller.seen c.compare_exchange.new.seat.me = taken c.self.inside.cells.shared.table_id.slots c.args.ticket.cell c.args.ticket.generation c.word-done.result c.word-taken.result c.compare_exchange.result c.caller.inside.seat.me c.compare_exchange.new.seat.me c.caller.inside.seat.me.0.caller.takes c.caller.inside.seat.me.0.caller.gives c.caller.inside.seat.me.0.caller.seen c.caller.invariant c.compare_exchange.ensures.2 two c.if-compare_exchange-done.false in
    let empty = emptied c.args.ticket.cell c.compare_exchange.new.seat.me c.exchange-outcome.new.seat.me _ (Some t.0) t.2 c.exchange-outcome.ensures.3 in
    let now = given c.self.inside.cells.shared.table_id.slots c.args.ticket.cell c.word-empty.result c.word-empty.result c.args.ticket.generation c.exchange-outcome.new.seat.me c.store.new.seat.me (c.caller.inside.seat.me.0.caller.takes ++ (c.args.ticket, t.0) ∷ []) c.caller.inside.seat.me.0.caller.gives c.caller.inside.seat.me.0.caller.seen empty c.store.ensures.2 in
    let is = found_there c.args.ticket.cell c.compare_exchange.new.seat.me _ (Some t.0) c.exchange-outcome.result _ t.2 c.exchange-outcome.ensures.2 in
    let out = some_out t.0 c.unwrap.result (sym is ∙ c.unwrap.ensures) in (
      caller_seen c.store.new.seat _ _ _ _ (c.store.ensures.0 ∙ (c.exchange-outcome.ensures.0 ∙ c.compare_exchange.ensures.0)) now
          ∙ (ap (λ (v : CallerView). with_take v c.args.ticket t.0) c.caller.view_is ∙ ap (λ o. with_take c.args.caller.now c.args.ticket o) out),
      subst (λ (v : CallerView). IsOpen v.takes v.gives v.seen c.args.ticket) c.caller.view_is t.1,
      (let near = c.if-cell-ge-BOARD_CELLS.false in omega arith),
    )
