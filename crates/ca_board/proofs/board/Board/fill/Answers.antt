use Rattle.std.proofs.Common.{◌≡◌, arith, refl, sym, ap, ◌∙◌, subst, ◌+◌, ◌*◌, Some, None}
use Rattle.std.specs.Option.{IsSome}
use Rattle.ca_board.specs.History.{Slot, Has, IsUnfilled}
use Rattle.ca_board.specs.Views.{CoreView, with_fill, with_refusal}
use Rattle.ca_board.proofs.After.{core_sound, core_seen, refused_sat, taken_sat, loaded, finished, outrun, emptied, put_home, holds_one, found_there}
use Rattle.ca_board.proofs.Filling.{fills_as, returns_as, some_out, none_some}
use Rattle.ca_board.proofs.board.Board.fill.Goals as goal

pub grab-requires : goal.grab-requires
grab-requires c = let i = c.core.invariant in
    let has = subst (λ (v : CoreView). Has v.arms c.args.ticket) (sym c.core.view_is) c.requires.due.0 in let un = subst (λ (v : CoreView). IsUnfilled v.fills c.args.ticket) (sym c.core.view_is) c.requires.due.1 in
    record { board = ap (λ v. v.board) c.core.view_is ∙ c.requires.board; idle = i.idle; due = (has, un, i.inside has.0 c.args.ticket has.1) }

pub invariant_of-core : goal.invariant_of-core
invariant_of-core c = let one : c.word-waiting.result ≡ 8 * c.args.ticket.generation + 1 = c.word-waiting.ensures in let two : c.word-done.result ≡ 8 * c.args.ticket.generation + 2 = c.word-done.ensures in let i = c.core.invariant in
    let now = refused_sat c.args.ticket c.core.inside.seat.me c.grab.new.seat.me _ _ _ _ i.idle (c.grab.ensures.gone c.if-not-grab.true) in
    core_sound c.grab.new.seat _ _ _ _ _ _ now i.inside i.stock i.wide

pub exchange-requires : goal.exchange-requires
exchange-requires c = let one : c.word-waiting.result ≡ 8 * c.args.ticket.generation + 1 = c.word-waiting.ensures in let two : c.word-done.result ≡ 8 * c.args.ticket.generation + 2 = c.word-done.ensures in let i = c.core.invariant in
    let slot = taken_sat c.args.ticket.cell c.core.inside.seat.me c.grab.new.seat.me _ _ _ _ i.idle (c.grab.ensures.taken c.if-not-grab.false) in
    (c.grab.ensures.board.0 ∙ (ap (λ v. v.board) c.core.view_is ∙ (c.requires.board ∙ sym c.self.view_is)), (None, holds_one c.grab.new.seat.me c.args.ticket.cell _ None slot))

pub unreachable-requires : goal.unreachable-requires
unreachable-requires c = let one : c.word-waiting.result ≡ 8 * c.args.ticket.generation + 1 = c.word-waiting.ensures in let two : c.word-done.result ≡ 8 * c.args.ticket.generation + 2 = c.word-done.ensures in let i = c.core.invariant in
    let slot = taken_sat c.args.ticket.cell c.core.inside.seat.me c.grab.new.seat.me _ _ _ _ i.idle (c.grab.ensures.taken c.if-not-grab.false) in
    none_some c.in-Some.field-0 (sym c.in-Some.is ∙ found_there c.args.ticket.cell c.grab.new.seat.me _ None c.exchange.result _ slot c.exchange.ensures.2)

pub compare_exchange-requires : goal.compare_exchange-requires
compare_exchange-requires c = let one : c.word-waiting.result ≡ 8 * c.args.ticket.generation + 1 = c.word-waiting.ensures in let two : c.word-done.result ≡ 8 * c.args.ticket.generation + 2 = c.word-done.ensures in let i = c.core.invariant in
    let z = c.self.invariant in let has = subst (λ (v : CoreView). Has v.arms c.args.ticket) (sym c.core.view_is) c.requires.due.0 in let un = subst (λ (v : CoreView). IsUnfilled v.fills c.args.ticket) (sym c.core.view_is) c.requires.due.1 in let near = i.inside has.0 c.args.ticket has.1 in
    let held = loaded c.args.ticket.cell c.grab.new.seat.me c.exchange.new.seat.me _ _ _ _ c.args.outcome (taken_sat c.args.ticket.cell c.core.inside.seat.me c.grab.new.seat.me _ _ _ _ i.idle (c.grab.ensures.taken c.if-not-grab.false)) c.exchange.ensures.3 in
    (c.exchange.ensures.0 ∙ (c.grab.ensures.board.0 ∙ (ap (λ v. v.board) c.core.view_is ∙ (c.requires.board ∙ sym c.self.view_is))), omega arith, fills_as _ _ _ c.args.ticket.generation _ _ _ _ _ _ _ c.args.outcome held has un one (omega arith))

pub invariant_of-core-then-compare_exchange-waiting : goal.invariant_of-core-then-compare_exchange-waiting
invariant_of-core-then-compare_exchange-waiting c = let one : c.word-waiting.result ≡ 8 * c.args.ticket.generation + 1 = c.word-waiting.ensures in let two : c.word-done.result ≡ 8 * c.args.ticket.generation + 2 = c.word-done.ensures in let i = c.core.invariant in
    let held = loaded c.args.ticket.cell c.grab.new.seat.me c.exchange.new.seat.me _ _ _ _ c.args.outcome (taken_sat c.args.ticket.cell c.core.inside.seat.me c.grab.new.seat.me _ _ _ _ i.idle (c.grab.ensures.taken c.if-not-grab.false)) c.exchange.ensures.3 in
    let now = finished c.self.inside.cells.shared.table_id.slots c.args.ticket.cell c.args.ticket.generation c.word-waiting.result c.word-done.result c.compare_exchange.result c.exchange.new.seat.me c.compare_exchange.new.seat.me _ _ _ _ c.args.outcome held c.compare_exchange.ensures.2 one c.if-compare_exchange-waiting.true in
    core_sound c.compare_exchange.new.seat _ _ _ _ _ _ now i.inside i.stock i.wide

pub returns-then-compare_exchange-waiting : goal.returns-then-compare_exchange-waiting
returns-then-compare_exchange-waiting c = let one : c.word-waiting.result ≡ 8 * c.args.ticket.generation + 1 = c.word-waiting.ensures in let two : c.word-done.result ≡ 8 * c.args.ticket.generation + 2 = c.word-done.ensures in let i = c.core.invariant in
    let held = loaded c.args.ticket.cell c.grab.new.seat.me c.exchange.new.seat.me _ _ _ _ c.args.outcome (taken_sat c.args.ticket.cell c.core.inside.seat.me c.grab.new.seat.me _ _ _ _ i.idle (c.grab.ensures.taken c.if-not-grab.false)) c.exchange.ensures.3 in
    let now = finished c.self.inside.cells.shared.table_id.slots c.args.ticket.cell c.args.ticket.generation c.word-waiting.result c.word-done.result c.compare_exchange.result c.exchange.new.seat.me c.compare_exchange.new.seat.me _ _ _ _ c.args.outcome held c.compare_exchange.ensures.2 one c.if-compare_exchange-waiting.true in
    core_seen c.compare_exchange.new.seat _ _ _ _ _ (c.compare_exchange.ensures.0 ∙ (c.exchange.ensures.0 ∙ c.grab.ensures.board.0)) now ∙ ap (λ (v : CoreView). with_fill v c.args.ticket c.args.outcome) c.core.view_is

pub exchange-outcome-requires : goal.exchange-outcome-requires
exchange-outcome-requires c = let one : c.word-waiting.result ≡ 8 * c.args.ticket.generation + 1 = c.word-waiting.ensures in let two : c.word-done.result ≡ 8 * c.args.ticket.generation + 2 = c.word-done.ensures in let i = c.core.invariant in
    let held = loaded c.args.ticket.cell c.grab.new.seat.me c.exchange.new.seat.me _ _ _ _ c.args.outcome (taken_sat c.args.ticket.cell c.core.inside.seat.me c.grab.new.seat.me _ _ _ _ i.idle (c.grab.ensures.taken c.if-not-grab.false)) c.exchange.ensures.3 in
    let out = outrun c.self.inside.cells.shared.table_id.slots c.args.ticket.cell c.args.ticket.generation c.word-waiting.result c.word-done.result c.compare_exchange.result c.exchange.new.seat.me c.compare_exchange.new.seat.me _ _ _ _ c.args.outcome held c.compare_exchange.ensures.2 one c.if-compare_exchange-waiting.false in
    (c.compare_exchange.ensures.0 ∙ (c.exchange.ensures.0 ∙ (c.grab.ensures.board.0 ∙ (ap (λ v. v.board) c.core.view_is ∙ (c.requires.board ∙ sym c.self.view_is)))), (Some c.args.outcome, holds_one c.compare_exchange.new.seat.me c.args.ticket.cell _ (Some c.args.outcome) out))

pub load-requires : goal.load-requires
load-requires c = let one : c.word-waiting.result ≡ 8 * c.args.ticket.generation + 1 = c.word-waiting.ensures in let two : c.word-done.result ≡ 8 * c.args.ticket.generation + 2 = c.word-done.ensures in let i = c.core.invariant in
    let z = c.self.invariant in let has = subst (λ (v : CoreView). Has v.arms c.args.ticket) (sym c.core.view_is) c.requires.due.0 in let un = subst (λ (v : CoreView). IsUnfilled v.fills c.args.ticket) (sym c.core.view_is) c.requires.due.1 in let near = i.inside has.0 c.args.ticket has.1 in
    let held = loaded c.args.ticket.cell c.grab.new.seat.me c.exchange.new.seat.me _ _ _ _ c.args.outcome (taken_sat c.args.ticket.cell c.core.inside.seat.me c.grab.new.seat.me _ _ _ _ i.idle (c.grab.ensures.taken c.if-not-grab.false)) c.exchange.ensures.3 in
    let out = outrun c.self.inside.cells.shared.table_id.slots c.args.ticket.cell c.args.ticket.generation c.word-waiting.result c.word-done.result c.compare_exchange.result c.exchange.new.seat.me c.compare_exchange.new.seat.me _ _ _ _ c.args.outcome held c.compare_exchange.ensures.2 one c.if-compare_exchange-waiting.false in
    let empty = emptied c.args.ticket.cell c.compare_exchange.new.seat.me c.exchange-outcome.new.seat.me _ (Some c.args.outcome) out c.exchange-outcome.ensures.3 in (
      c.exchange-outcome.ensures.0 ∙ (c.compare_exchange.ensures.0 ∙ (c.exchange.ensures.0 ∙ (c.grab.ensures.board.0 ∙ (ap (λ v. v.board) c.core.view_is ∙ (c.requires.board ∙ sym c.self.view_is))))),
      omega arith,
      returns_as _ _ _ _ _ _ _ _ empty (omega arith),
    )

pub unwrap-requires : goal.unwrap-requires
unwrap-requires c = let one : c.word-waiting.result ≡ 8 * c.args.ticket.generation + 1 = c.word-waiting.ensures in let two : c.word-done.result ≡ 8 * c.args.ticket.generation + 2 = c.word-done.ensures in let i = c.core.invariant in
    let held = loaded c.args.ticket.cell c.grab.new.seat.me c.exchange.new.seat.me _ _ _ _ c.args.outcome (taken_sat c.args.ticket.cell c.core.inside.seat.me c.grab.new.seat.me _ _ _ _ i.idle (c.grab.ensures.taken c.if-not-grab.false)) c.exchange.ensures.3 in
    let out = outrun c.self.inside.cells.shared.table_id.slots c.args.ticket.cell c.args.ticket.generation c.word-waiting.result c.word-done.result c.compare_exchange.result c.exchange.new.seat.me c.compare_exchange.new.seat.me _ _ _ _ c.args.outcome held c.compare_exchange.ensures.2 one c.if-compare_exchange-waiting.false in
    let is = found_there c.args.ticket.cell c.compare_exchange.new.seat.me _ (Some c.args.outcome) c.exchange-outcome.result _ out c.exchange-outcome.ensures.2 in
    subst (λ (x : Slot). IsSome x) (sym is) refl

pub invariant_of-core-2 : goal.invariant_of-core-2
invariant_of-core-2 c = let one : c.word-waiting.result ≡ 8 * c.args.ticket.generation + 1 = c.word-waiting.ensures in let two : c.word-done.result ≡ 8 * c.args.ticket.generation + 2 = c.word-done.ensures in let i = c.core.invariant in
    let held = loaded c.args.ticket.cell c.grab.new.seat.me c.exchange.new.seat.me _ _ _ _ c.args.outcome (taken_sat c.args.ticket.cell c.core.inside.seat.me c.grab.new.seat.me _ _ _ _ i.idle (c.grab.ensures.taken c.if-not-grab.false)) c.exchange.ensures.3 in
    let out = outrun c.self.inside.cells.shared.table_id.slots c.args.ticket.cell c.args.ticket.generation c.word-waiting.result c.word-done.result c.compare_exchange.result c.exchange.new.seat.me c.compare_exchange.new.seat.me _ _ _ _ c.args.outcome held c.compare_exchange.ensures.2 one c.if-compare_exchange-waiting.false in
    let empty = emptied c.args.ticket.cell c.compare_exchange.new.seat.me c.exchange-outcome.new.seat.me _ (Some c.args.outcome) out c.exchange-outcome.ensures.3 in
    let now = put_home c.self.inside.cells.shared.table_id.slots c.args.ticket.cell c.load.result c.exchange-outcome.new.seat.me c.load.new.seat.me _ _ _ _ empty c.load.ensures.2 in
    core_sound c.load.new.seat _ _ _ _ _ _ now i.inside i.stock i.wide

pub returns : goal.returns
returns c = let one : c.word-waiting.result ≡ 8 * c.args.ticket.generation + 1 = c.word-waiting.ensures in let two : c.word-done.result ≡ 8 * c.args.ticket.generation + 2 = c.word-done.ensures in let i = c.core.invariant in
    let held = loaded c.args.ticket.cell c.grab.new.seat.me c.exchange.new.seat.me _ _ _ _ c.args.outcome (taken_sat c.args.ticket.cell c.core.inside.seat.me c.grab.new.seat.me _ _ _ _ i.idle (c.grab.ensures.taken c.if-not-grab.false)) c.exchange.ensures.3 in
    let out = outrun c.self.inside.cells.shared.table_id.slots c.args.ticket.cell c.args.ticket.generation c.word-waiting.result c.word-done.result c.compare_exchange.result c.exchange.new.seat.me c.compare_exchange.new.seat.me _ _ _ _ c.args.outcome held c.compare_exchange.ensures.2 one c.if-compare_exchange-waiting.false in
    let empty = emptied c.args.ticket.cell c.compare_exchange.new.seat.me c.exchange-outcome.new.seat.me _ (Some c.args.outcome) out c.exchange-outcome.ensures.3 in
    let is = found_there c.args.ticket.cell c.compare_exchange.new.seat.me _ (Some c.args.outcome) c.exchange-outcome.result _ out c.exchange-outcome.ensures.2 in
    let now = put_home c.self.inside.cells.shared.table_id.slots c.args.ticket.cell c.load.result c.exchange-outcome.new.seat.me c.load.new.seat.me _ _ _ _ empty c.load.ensures.2 in (
      sym (some_out c.args.outcome c.unwrap.result (sym is ∙ c.unwrap.ensures)),
      core_seen c.load.new.seat _ _ _ _ _ (c.load.ensures.0 ∙ (c.exchange-outcome.ensures.0 ∙ (c.compare_exchange.ensures.0 ∙ (c.exchange.ensures.0 ∙ c.grab.ensures.board.0)))) now ∙ ap (λ (v : CoreView). with_refusal v c.args.ticket) c.core.view_is,
    )
