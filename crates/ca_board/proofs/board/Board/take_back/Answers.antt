use Rattle.std.proofs.Common.{◌≡◌, arith, inl, sym, ap, ◌∙◌, subst, ◌+◌, ◌*◌, [], ◌∷◌, length-append}
use Rattle.ca_board.specs.History.{ticket, Has, IsStock, Frees, Sat}
use Rattle.ca_board.specs.Views.{CoreView, IsDue, with_recycle, with_refusal}
use Rattle.ca_board.proofs.After.{core_sound, core_seen}
use Rattle.ca_board.proofs.Meeting.{parts_as}
use Rattle.ca_board.proofs.Stock.{freed_stock, stock_fits}
use Rattle.ca_board.proofs.TakingBack.{ends_as, frees_as, ended_back, freed_back, parted_back}
use Rattle.ca_board.proofs.board.Board.take_back.Goals as goal

pub store-requires : goal.store-requires
store-requires c = let z = c.self.invariant in let i = c.core.invariant in let t = c.args.ticket in
    let due = subst (λ (v : CoreView). IsDue v t) (sym c.core.view_is) c.requires.due in let kept = subst (λ (v : CoreView). ¬ (Has v.recycles t)) (sym c.core.view_is) c.requires.kept in
    let near = i.inside due.0.0 t due.0.1 in let one : c.word-given_up.result ≡ 8 * c.args.ticket.generation + 5 = c.word-given_up.ensures in
    ((ap (λ v. v.board) c.core.view_is ∙ (c.requires.board ∙ sym c.self.view_is)), omega arith, ends_as _ _ _ c.args.ticket.generation _ _ _ _ _ _ i.idle (omega arith) due.0 due.1 kept one)

pub split_seat-requires : goal.split_seat-requires
split_seat-requires c = let z = c.self.invariant in let i = c.core.invariant in let t = c.args.ticket in let one : c.word-given_up.result ≡ 8 * c.args.ticket.generation + 5 = c.word-given_up.ensures in
    (c.store.ensures.0 ∙ (ap (λ v. v.board) c.core.view_is ∙ (c.requires.board ∙ sym c.self.view_is)), omega arith, parts_as _ _ _ _ _ _ _ _ _ (ended_back _ _ _ _ _ _ t i.idle ((c.store.ensures.2 c.args.ticket.generation).1 one)))

pub invariant_of-core : goal.invariant_of-core
invariant_of-core c = let i = c.core.invariant in let t = c.args.ticket in let one : c.word-given_up.result ≡ 8 * c.args.ticket.generation + 5 = c.word-given_up.ensures in
    let did = ended_back _ _ _ _ _ _ t i.idle ((c.store.ensures.2 c.args.ticket.generation).1 one) in
    core_sound c.split_seat.new.seat _ _ _ _ _ _ (parted_back _ _ _ _ _ _ _ did c.split_seat.ensures.2) i.inside i.stock i.wide

pub store-requires-2 : goal.store-requires-2
store-requires-2 c = let z = c.self.invariant in let i = c.core.invariant in let t = c.args.ticket in
    let due = subst (λ (v : CoreView). IsDue v t) (sym c.core.view_is) c.requires.due in let kept = subst (λ (v : CoreView). ¬ (Has v.recycles t)) (sym c.core.view_is) c.requires.kept in
    let near = i.inside due.0.0 t due.0.1 in let below = c.if-ticket-ge-LAST_GENERATION.false in let one : c.word-freed.result ≡ 8 * (c.args.ticket.generation + 1) + 0 = c.word-freed.ensures in
    ((ap (λ v. v.board) c.core.view_is ∙ (c.requires.board ∙ sym c.self.view_is)), omega arith, frees_as _ _ _ c.args.ticket.generation _ _ _ _ _ _ i.idle (omega arith) due.0 due.1 kept (omega arith) (omega arith))

pub split_seat-requires-2 : goal.split_seat-requires-2
split_seat-requires-2 c = let z = c.self.invariant in let i = c.core.invariant in let t = c.args.ticket in let one : c.word-freed.result ≡ 8 * (c.args.ticket.generation + 1) + 0 = c.word-freed.ensures in
    (c.store-2.ensures.0 ∙ (ap (λ v. v.board) c.core.view_is ∙ (c.requires.board ∙ sym c.self.view_is)), omega arith, parts_as _ _ _ _ _ _ _ _ _ (freed_back _ _ _ _ _ _ t i.idle ((c.store-2.ensures.2 c.args.ticket.generation).0 (omega arith)).1))

pub push_reserved-requires : goal.push_reserved-requires
push_reserved-requires c = let i = c.core.invariant in let t = c.args.ticket in let one : c.word-freed.result ≡ 8 * (c.args.ticket.generation + 1) + 0 = c.word-freed.ensures in
    let due = subst (λ (v : CoreView). IsDue v t) (sym c.core.view_is) c.requires.due in let near = i.inside due.0.0 t due.0.1 in
    let did = (c.store-2.ensures.2 c.args.ticket.generation).0 (omega arith) in
    let frees = subst (λ (x : Sat). Frees x.0.core.arms x.0.core.recycles c.args.ticket.cell c.args.ticket.generation) i.idle did.0 in
    let l = stock_fits _ _ _ (freed_stock _ _ _ c.args.ticket.cell c.args.ticket.generation i.stock near frees) in let long = length-append c.core.inside.free.items (ticket c.args.ticket.cell (c.args.ticket.generation + 1) ∷ []) in let wide = i.wide in let k = c.core.inside.free.ok in omega arith

pub invariant_of-core-2 : goal.invariant_of-core-2
invariant_of-core-2 c = let i = c.core.invariant in let t = c.args.ticket in let one : c.word-freed.result ≡ 8 * (c.args.ticket.generation + 1) + 0 = c.word-freed.ensures in
    let due = subst (λ (v : CoreView). IsDue v t) (sym c.core.view_is) c.requires.due in let near = i.inside due.0.0 t due.0.1 in
    let did = (c.store-2.ensures.2 c.args.ticket.generation).0 (omega arith) in
    let frees = subst (λ (x : Sat). Frees x.0.core.arms x.0.core.recycles c.args.ticket.cell c.args.ticket.generation) i.idle did.0 in
    let stock = freed_stock _ _ _ c.args.ticket.cell c.args.ticket.generation i.stock near frees in
    core_sound c.split_seat-2.new.seat _ _ _ _ _ _ (parted_back _ _ _ _ _ _ _ (freed_back _ _ _ _ _ _ t i.idle did.1) c.split_seat-2.ensures.2) i.inside (subst (IsStock _ _) (sym c.push_reserved.ensures.items) stock) (let a = c.push_reserved.ensures.capacity in let b = i.wide in omega arith)

pub returns : goal.returns
returns c = let i = c.core.invariant in let t = c.args.ticket in let one : c.word-freed.result ≡ 8 * (c.args.ticket.generation + 1) + 0 = c.word-freed.ensures in
    let below = c.if-ticket-ge-LAST_GENERATION.false in let did = (c.store-2.ensures.2 c.args.ticket.generation).0 (omega arith) in
    inl (
      omega arith,
      subst (λ (v : CoreView). Frees v.arms v.recycles c.args.ticket.cell c.args.ticket.generation) c.core.view_is did.0,
      core_seen c.split_seat-2.new.seat _ _ _ _ _ (c.split_seat-2.ensures.0 ∙ c.store-2.ensures.0) (parted_back _ _ _ _ _ _ _ (freed_back _ _ _ _ _ _ t i.idle did.1) c.split_seat-2.ensures.2) ∙ ap (λ (v : CoreView). with_recycle (with_refusal v t) t) c.core.view_is,
    )
