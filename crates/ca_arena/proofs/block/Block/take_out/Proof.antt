-- `take_out` moves the item of the last slot in use out. Assumes `Logic`.
use Rattle.std.proofs.Common.{◌≡◌, ℕ, zero, suc, ◌+◌, ◌-◌, ◌*◌, ◌<◌, ◌^◌, List, [], ◌∷◌, ◌++◌, refl, sym, ap, arith, length, w64}
use base.Fraction.{full_share}
use base.Fml.{Fml, ftrue, fat, froom, fsep, flft}
use base.Logic.{SProp, emp}
use contract.BorrowLft.{◌⊑◌}
use contract.Monad.{fact, fact_i}
use contract.Running.{tables}
use mir.MapTy.{inst_fn}
use mir.Syntax.{named, ty_array}
use mir.Val.{Val, vint, vptr}
use types.ByLocal.{alloc_all, pass_all, free_all, look_at, get, through, sets, sets_last, env}
use types.Kit.{‵, raw, ◌⊛◌, some, given, at_ret, ◌$◌, ◌∵◌, !, qed, by, move, keep, drop, use0, use1, use2, split, join, pick, learn, rewrite, fsplit, fsplit3, fjoin, fjoin3, feq_i}
use types.Part.{whole, sub, look_in}
use types.Run.{forget, stop, fld, load, look, size_lit, of_opd, bin, first, blocks, exec, returns, enter}
use denote.Array.{Array}
use denote.Builtin.{usize}
use denote.Exit.{yes}
use denote.Memory.{part_at}
use denote.Plain.{uint_vals, uint_Tells}
use denote.RattleType.{owns}
use denote.Ref.{mut_vals, mut_Tells}
use denote.Signature.{plain, types_at}
use denote.Steps.{nothing}
use denote.Triple.Walked.{Stays, stay_dropped, stay_ref, walk_of, Goes-dropped, Goes-ref}
use Rattle.core.proofs.ptr.Rows.{times_below, one_below}
use Rattle.core.proofs.slots.Bodies.{after}
use Rattle.std.proofs.raw_atomic.Walks.{proved, leaves}
use Rattle.std_alloc.proofs.VecSteps.El.{El, Good, R, args, el_own, elτ, sz}
use Rattle.std_alloc.proofs.VecSteps.Rows.{el_out, unsnoc, unspare}
use Rattle.ca_arena.specs.Block.{block_slots}
use Rattle.ca_arena.specs.BlockLending.{with_items}
use Rattle.ca_arena.specs.contracts.block.Block.take_out as promise
use Rattle.ca_arena.proofs.BlockParts.{Held, Row, closed, opened}
use Rattle.ca_arena.proofs.block.Block.take_out.Statement.{statement}
use Rattle.ca_arena.proofs.block.Block.take_out.Code as code

-- the items before the last one, and the last one
last_of : {X : Type 0} (items : List X) (i : ℕ) → i + 1 ≡ length items → (front : List X) × (item : X) × (items ≡ front ++ item ∷ []) × (length front ≡ i)
last_of [] i count = absurd (omega arith)
last_of (item ∷ []) i count = let none : 0 ≡ i = omega arith in ([], item, refl, none)
last_of (item ∷ next ∷ items) zero count = absurd (omega arith)
last_of (item ∷ next ∷ items) (suc i) count = let rest = last_of (next ∷ items) i (omega arith) in (item ∷ rest.0, rest.1, ap (λ l. item ∷ l) rest.2, ap suc rest.3)

pub take_out_spec : {M : Type 1} → statement M
take_out_spec 𝓤 𝓛 𝓜 𝓡 wired X U L LU g d dd met _ =
    let E : El = record { row = X; laws = L; al = record { row = U; laws = LU; g = g; d = d; drops = dd } } in
    let H = 𝓛.H in let 𝓣 = tables 𝓤 H 𝓜 𝓡 𝓡.env in let fn = inst_fn (args E) code.function in
    let ended = promise.ended X U g d dd in let clauses = promise.clauses X U g d dd 𝓛 𝓜.mem 𝓡.returns in let word = plain (λ _. usize) in
    let stays : Stays ended.signature.params ended.kept = (stay_ref (0 ∷ []) tt (plain (λ _. Row E)), (stay_dropped word yes, tt)) in
    proved 𝓛 ended stays clauses 𝓜 𝓡 (Goes-ref 𝓛 3 0 tt (plain (λ _. Row E)), (Goes-dropped 𝓛 3 word yes (λ κs x f. refl), tt)) (promise.Key.name (args E)) fn (code.unfolded 𝓤 H 𝓜 𝓡 wired (X, (U, tt)) d dd)
    (λ κs. (mut_vals, (uint_vals w64, tt))) (λ κs. (mut_Tells (named 0) κs.0 (Row E), (uint_Tells w64, tt))) (λ κs qs bounds a ghost are.
    let κ = κs.0 in let rb = a.0.ref_ptr.0 in let ro = a.0.ref_ptr.1 in let block = a.0.now in let i = a.1.0 in let s = sz E in let n = length block.items in
    let y : (walk_of 𝓛 ended stays clauses).Ghost = ((κs, qs, bounds, a, (mut_vals a.0, (uint_vals w64 i, tt))), ghost) in
    let post : Val → SProp 𝓤 = (walk_of 𝓛 ended stays clauses).post y in
    let tokens : Fml = fsep (flft κs.1.0 qs.1.0) (fsep (flft κs.1.1.0 qs.1.1.0) ftrue) in
    qed 𝓛 (((‵ (flft κ qs.0) ⊛ ‵ tokens) ⊛ ‵ (owns (types_at ended.signature.params κs) a y.0.4)) ∷ raw (fact 𝓤 (κs.1.0 ⊑ X.lives)) ∷ raw (fact 𝓤 (κs.1.1.0 ⊑ U.lives)) ∷ given ((i + 1 ≡ n) × (i < block_slots)) (‵ ftrue) ∷ []) ∵
    keep ! (3 ∷ 0 ∷ []) $ learn ! (λ asked. drop ! $
    let below = asked.1 in let last = last_of block.items i asked.0 in let front = last.0 in let x = last.1 in let new : Held E = with_items block front in
    split ! $ split ! $ move ! (2 ∷ []) $ fsplit ! $ fsplit3 ! $ keep ! (1 ∷ 2 ∷ 4 ∷ 5 ∷ []) $
    enter ! 𝓣.C 𝓣.Λ fn (vptr rb ro ∷ vint w64 i ∷ []) post $ alloc_all ! (λ l. pass_all ! refl ((tt, tt), ((tt, record { fits = are.1.0.1 }), tt)) $
    opened E ! tt block rb ro (λ b o at fit.
    let tiny : s < 2 ^ 64 = omega (arith, one_below block_slots s (2 ^ 63) (omega arith) fit) in
    let far : i * s < 2 ^ 64 = omega (arith, times_below i block_slots s (2 ^ 63) (omega arith) fit) in let place = i * s + o in
    rewrite ! 0 (λ l. ‵ (part_at (Array (R E) n) full_share l b o)) last.2 refl $
    use1 𝓛 (‵ (part_at (Array (R E) i) full_share front b o) ⊛ ‵ (part_at (R E) full_share x b place)) (unsnoc E 𝓛 b o n i front x last.3) $ split ! $ move ! (1 ∷ []) $
    use1 𝓛 (some (λ (v : Val). given (Good E v) (‵ (fat full_share (elτ E) b place v) ⊛ ‵ (el_own E x (v ∷ []))))) (el_out E 𝓛 full_share x b place) $ pick ! (λ v. learn ! (λ good. split ! $
    -- [the slot; what is owned of the item; the other items; the room after them; the right to
    -- free; the cell; the open borrow; obs; auth; the other tokens]
    first ! $ blocks ! $ sets ! (of_opd ! (load ! (through ! refl (fld ! refl (stop !))) (look_in ! 5 (sub ! 0 refl (whole !))))) refl (tt, tt) $
    sets ! (bin ! (get ! refl) (size_lit ! (record { fits = tiny })) (record { fits = far })) refl (tt, record { fits = far }) $
    sets ! (bin ! (get ! refl) (get ! refl) tt) refl (tt, tt) $ sets_last ! (of_opd ! (load ! (through ! refl (stop !)) (look ! 0 refl))) refl good $
    exec ! 𝓣.C 𝓣.Λ (env fn.locals l) (after 1 fn.body) (at_ret (env fn.locals l) post) $ sets ! (of_opd ! (get ! refl)) refl good $
    forget ! 0 refl $ move ! (0 ∷ 3 ∷ []) $ rewrite ! 1 (λ k. ‵ (froom (ty_array (elτ E) (block_slots - k)) b (o + k * s))) (sym asked.0) refl $
    use2 𝓛 (‵ (froom (ty_array (elτ E) (block_slots - i)) b (o + i * s))) (unspare E 𝓛 b o i block_slots below) $
    rewrite ! 0 (λ k. ‵ (froom (ty_array (elτ E) (block_slots - k)) b (o + k * s))) (sym last.3) refl $ move ! (2 ∷ []) $ rewrite ! 0 (λ k. ‵ (part_at (Array (R E) k) full_share front b o)) (sym last.3) refl $
    move ! (0 ∷ 1 ∷ 3 ∷ 4 ∷ 5 ∷ 6 ∷ 7 ∷ []) $ closed E ! tt new b o rb ro at fit $ returns ! (look_at ! 0 refl) $ free_all ! refl $
    -- [the reference, in two parts; the token; what is owned of the item; the other tokens]
    feq_i ! _ (vptr rb ro ∷ []) (vptr rb ro ∷ []) refl $ fjoin3 ! $ nothing ! $ nothing ! $ fjoin ! $ move ! (1 ∷ 0 ∷ []) $ fjoin ! $ move ! (1 ∷ 3 ∷ []) $ join ! $
    use0 𝓛 (raw (fact 𝓤 (block ≡ with_items new (front ++ x ∷ [])))) (fact_i 𝓤 _ (emp 𝓤) (ap (with_items block) last.2)) $
    keep ! (1 ∷ 2 ∷ 3 ∷ 0 ∷ []) $ by ! (leaves 𝓛 ended stays clauses y v x (new, (tt, tt)) (tt, (tt, tt)))))))))
