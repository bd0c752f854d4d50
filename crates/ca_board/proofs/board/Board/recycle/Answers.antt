use Rattle.std.proofs.Common.{arith, sym, ap, ◌∙◌, subst, ℕ, ◌+◌, ◌/◌, [], ◌∷◌, length-append}
use Rattle.ca_board.specs.History.{ticket, Sat, IsStock, Frees}
use Rattle.ca_board.specs.Views.{CoreView, with_recycle}
use Rattle.ca_board.proofs.After.{core_sound, core_seen, freed_after}
use Rattle.ca_board.proofs.Stock.{freed_stock, stock_fits}
use Rattle.ca_board.proofs.Arming.{recycles_as, Ends}
use Rattle.ca_board.proofs.board.Board.recycle.Goals as goal

pub compare_exchange-requires : goal.compare_exchange-requires
compare_exchange-requires c = let z = c.self.invariant in let most = c.if-ended-from.false in let last = c.from.ensures in let i = c.core.invariant in let near = c.if-cell-ge-BOARD_CELLS.false in let g : ℕ = c.peek-ended.result / 8 in let one : Ends g c.peek-ended.result = c.has_ended.ensures.ended c.if-not-has_ended.false in
    ((ap (λ v. v.board) c.core.view_is ∙ (c.requires ∙ sym c.self.view_is)), omega arith, recycles_as _ _ _ g _ _ _ _ _ _ _ i.idle (omega arith) one (omega arith) (omega (arith, most, last)))

pub invariant_of-core : goal.invariant_of-core
invariant_of-core c = let i = c.core.invariant in let near = c.if-cell-ge-BOARD_CELLS.false in let g : ℕ = c.peek-ended.result / 8 in let one : Ends g c.peek-ended.result = c.has_ended.ensures.ended c.if-not-has_ended.false in
    let same = (c.compare_exchange.ensures.2 g one).1 c.if-compare_exchange-ended.true in core_sound c.compare_exchange.new.seat _ _ _ _ _ _ (same ∙ i.idle) i.inside i.stock i.wide

pub returns-then-compare_exchange-ended-clause-kept : goal.returns-then-compare_exchange-ended-clause-kept
returns-then-compare_exchange-ended-clause-kept c = λ _. let i = c.core.invariant in let near = c.if-cell-ge-BOARD_CELLS.false in let g : ℕ = c.peek-ended.result / 8 in let one : Ends g c.peek-ended.result = c.has_ended.ensures.ended c.if-not-has_ended.false in
    let same = (c.compare_exchange.ensures.2 g one).1 c.if-compare_exchange-ended.true in core_seen c.compare_exchange.new.seat _ _ _ _ _ c.compare_exchange.ensures.0 (same ∙ i.idle) ∙ c.core.view_is

pub push_reserved-requires : goal.push_reserved-requires
push_reserved-requires c = let i = c.core.invariant in let near = c.if-cell-ge-BOARD_CELLS.false in let g : ℕ = c.peek-ended.result / 8 in let one : Ends g c.peek-ended.result = c.has_ended.ensures.ended c.if-not-has_ended.false in let did = (c.compare_exchange.ensures.2 g one).0 c.if-compare_exchange-ended.false in
    let frees = subst (λ (x : Sat). Frees x.0.core.arms x.0.core.recycles c.args.cell g) i.idle did.0 in
    let l = stock_fits _ _ _ (freed_stock _ _ _ c.args.cell g i.stock (omega arith) frees) in let long = length-append c.core.inside.free.items (ticket c.args.cell (g + 1) ∷ []) in let wide = i.wide in let k = c.core.inside.free.ok in omega arith

pub invariant_of-core-2 : goal.invariant_of-core-2
invariant_of-core-2 c = let i = c.core.invariant in let near = c.if-cell-ge-BOARD_CELLS.false in let g : ℕ = c.peek-ended.result / 8 in let one : Ends g c.peek-ended.result = c.has_ended.ensures.ended c.if-not-has_ended.false in let did = (c.compare_exchange.ensures.2 g one).0 c.if-compare_exchange-ended.false in
    let frees = subst (λ (x : Sat). Frees x.0.core.arms x.0.core.recycles c.args.cell g) i.idle did.0 in
    let stock = freed_stock _ _ _ c.args.cell g i.stock (omega arith) frees in
    core_sound c.compare_exchange.new.seat _ _ _ _ _ _ (freed_after _ _ _ _ _ _ c.args.cell g i.idle did.1) i.inside (subst (IsStock _ _) (sym c.push_reserved.ensures.items) stock) (let a = c.push_reserved.ensures.capacity in let b = i.wide in omega arith)

pub returns-clause-freed : goal.returns-clause-freed
returns-clause-freed c = λ _. let i = c.core.invariant in let near = c.if-cell-ge-BOARD_CELLS.false in let g : ℕ = c.peek-ended.result / 8 in let one : Ends g c.peek-ended.result = c.has_ended.ensures.ended c.if-not-has_ended.false in let did = (c.compare_exchange.ensures.2 g one).0 c.if-compare_exchange-ended.false in (
  g,
  subst (λ (v : CoreView). Frees v.arms v.recycles c.args.cell g) c.core.view_is did.0,
  core_seen c.compare_exchange.new.seat _ _ _ _ _ c.compare_exchange.ensures.0 (freed_after _ _ _ _ _ _ c.args.cell g i.idle did.1) ∙ ap (λ (v : CoreView). with_recycle v (ticket c.args.cell g)) c.core.view_is,
)
