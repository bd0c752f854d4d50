use Rattle.std.proofs.Common.{◌≡◌, arith, refl, sym, ap, ◌∙◌, subst, ℕ, ◌<◌, ◌+◌, ◌*◌}
use Rattle.ca_text.specs.Limits.{board_cells}
use Rattle.ca_board.specs.History.{Has, IsNext, IsStock, InUse}
use Rattle.ca_board.specs.Views.{CoreView, with_arm, IsDue}
use Rattle.ca_board.proofs.After.{core_sound, core_seen, inside_snoc, armed_after}
use Rattle.ca_board.proofs.Stock.{armed_stock, none_free, nothing_left, last_next, has_last}
use Rattle.ca_board.proofs.Arming.{arms_as}
use Rattle.ca_board.proofs.board.Board.arm.Goals as goal

pub returns-in_default : goal.returns-in_default
returns-in_default c = let none = nothing_left c.core.inside.free.items (let k = c.core.inside.free.ok in let z = c.in_default.ensures.cases.0 in omega arith) in
    (refl, c.core.view_is, subst (λ (v : CoreView). (k : ℕ) → k < board_cells → InUse v.arms v.recycles k) c.core.view_is (none_free _ _ (subst (IsStock _ _) none c.core.invariant.stock)))

pub store-requires : goal.store-requires
store-requires c = let z = c.self.invariant in let s = subst (IsStock _ _) c.in-Some.ensures.items c.core.invariant.stock in let n = last_next _ _ _ _ s in let near = n.0 in let one : c.word-waiting.result ≡ 8 * c.in-Some.ticket.generation + 1 = c.word-waiting.ensures in
    (ap (λ v. v.board) c.core.view_is ∙ (c.requires ∙ sym c.self.view_is), omega arith, arms_as _ _ _ c.in-Some.ticket.generation _ _ _ _ _ _ c.core.invariant.idle (omega arith) n.1 (omega arith))

pub invariant_of-core-2 : goal.invariant_of-core-2
invariant_of-core-2 c = let one : c.word-waiting.result ≡ 8 * c.in-Some.ticket.generation + 1 = c.word-waiting.ensures in
    let t = c.store.ensures.2 c.in-Some.ticket.generation one in let i = c.core.invariant in
    let s = subst (IsStock _ _) c.in-Some.ensures.items i.stock in let n = last_next _ _ _ _ s in
    core_sound c.store.new.seat _ _ _ _ _ _ (armed_after _ _ _ _ _ _ c.in-Some.ticket.cell c.in-Some.ticket.generation i.idle t.1)
    (inside_snoc _ c.in-Some.ticket i.inside n.0) (armed_stock _ _ _ c.in-Some.ticket s t.0.2) (let a = c.in-Some.ensures.capacity in let b = i.wide in omega arith)

pub returns : goal.returns
returns c = let one : c.word-waiting.result ≡ 8 * c.in-Some.ticket.generation + 1 = c.word-waiting.ensures in
    let t = c.store.ensures.2 c.in-Some.ticket.generation one in let i = c.core.invariant in
    let s = subst (IsStock _ _) c.in-Some.ensures.items i.stock in let n = last_next _ _ _ _ s in
    let seen = core_seen c.store.new.seat _ _ _ _ _ c.store.ensures.0 (armed_after _ _ _ _ _ _ c.in-Some.ticket.cell c.in-Some.ticket.generation i.idle t.1) in (
      seen ∙ ap (λ (v : CoreView). with_arm v c.in-Some.ticket) c.core.view_is,
      subst (λ (v : CoreView). IsNext v.arms v.recycles c.in-Some.ticket.cell c.in-Some.ticket.generation) c.core.view_is n.1,
      subst (λ (v : CoreView). IsDue v c.in-Some.ticket) (sym seen) (has_last _ c.in-Some.ticket, t.0.0, t.0.1),
      subst (λ (v : CoreView). ¬ (Has v.recycles c.in-Some.ticket)) (sym seen) t.0.2,
    )
