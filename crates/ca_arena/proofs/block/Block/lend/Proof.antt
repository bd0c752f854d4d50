-- `lend` hands on the `&` to one item that a `&` to the block holds. Assumes `Logic`.
use Rattle.std.proofs.Common.{◌≡◌, ◌+◌, ◌*◌, ◌<◌, ◌^◌, [], ◌∷◌, Some, refl, arith, length, get_or, slice_get, w64}
use base.Fml.{Fml, ftrue, fsep, flft, flt}
use base.Logic.{SProp, emp}
use contract.BorrowLft.{◌⊑◌}
use contract.Monad.{fact, fact_i}
use contract.Running.{tables}
use mir.MapTy.{inst_fn}
use mir.Syntax.{named}
use mir.Val.{Val, vint, vptr}
use types.ByLocal.{alloc_all, pass_all, free_all, look_at, get, through, sets, sets_last, env}
use types.Kit.{‵, raw, ◌⊛◌, given, at_ret, ◌$◌, ◌∵◌, !, qed, by, move, keep, drop, use0, use1, split, split3, join, learn, rewrite, fsplit, fjoin, fjoin3, feq_i, flt_l}
use types.Run.{stop, fld, look, load, addr, size_lit, of_opd, bin, first, blocks, exec, returns, enter}
use denote.Array.{Array}
use denote.Builtin.{RefOf, usize}
use denote.Exit.{yes}
use denote.Memory.{hidden_shr}
use denote.Plain.{uint_vals, uint_Tells}
use denote.RattleType.{owns}
use denote.RawPtr.{RawPtr, in_a_block}
use denote.Ref.{Bor, shr_vals, shr_Tells}
use denote.Signature.{plain, types_at}
use denote.Steps.{nothing}
use denote.Struct.Lending.{lent_at}
use denote.Triple.Walked.{Stays, stay_dropped, walk_of, Goes-dropped}
use Rattle.core.proofs.ptr.Rows.{times_below, one_below}
use Rattle.core.proofs.slots.Bodies.{after}
use Rattle.core.proofs.slots.Lent.{pointer_in, pointer_out}
use Rattle.std.proofs.raw_atomic.Walks.{proved, leaves}
use Rattle.std_alloc.proofs.VecSteps.El.{El, R, sz, args}
use Rattle.ca_arena.specs.Block.{block_slots}
use Rattle.ca_arena.specs.contracts.block.Block.lend as promise
use Rattle.ca_arena.proofs.BlockParts.{Row, item_of, item_shown, none_at_null, shown}
use Rattle.ca_arena.proofs.block.Block.lend.Statement.{statement}
use Rattle.ca_arena.proofs.block.Block.lend.Code as code

pub lend_spec : {M : Type 1} → statement M
lend_spec 𝓤 𝓛 𝓜 𝓡 wired X U L LU g d dd met _ =
    let E : El = record { row = X; laws = L; al = record { row = U; laws = LU; g = g; d = d; drops = dd } } in
    let H = 𝓛.H in let 𝓣 = tables 𝓤 H 𝓜 𝓡 𝓡.env in let fn = inst_fn (args E) code.function in
    let ended = promise.ended X U g d dd in let clauses = promise.clauses X U g d dd 𝓛 𝓜.mem 𝓡.returns in
    let self = RefOf (0 ∷ []) tt (plain (λ _. Row E)) (λ _. tt) in let word = plain (λ _. usize) in
    let stays : Stays ended.signature.params ended.kept = (stay_dropped self yes, (stay_dropped word yes, tt)) in
    proved 𝓛 ended stays clauses 𝓜 𝓡 (Goes-dropped 𝓛 3 self yes (λ κs x f. refl), (Goes-dropped 𝓛 3 word yes (λ κs x f. refl), tt)) (promise.Key.name (args E)) fn (code.unfolded 𝓤 H 𝓜 𝓡 wired (X, (U, tt)) d dd)
    (λ κs. (shr_vals, (uint_vals w64, tt))) (λ κs. (shr_Tells (named 0) κs.0 (Row E), (uint_Tells w64, tt))) (λ κs qs bounds a ghost are.
    let κ = κs.0 in let rb = a.0.ref_ptr.0 in let ro = a.0.ref_ptr.1 in let block = a.0.now in let i = a.1.0 in let s = sz E in
    let y : (walk_of 𝓛 ended stays clauses).Ghost = ((κs, qs, bounds, a, (shr_vals a.0, (uint_vals w64 i, tt))), ghost) in
    let post : Val → SProp 𝓤 = (walk_of 𝓛 ended stays clauses).post y in
    let others : Fml = fsep (flft κs.1.0 qs.1.0) (fsep (flft κs.1.1.0 qs.1.1.0) ftrue) in
    qed 𝓛 (((‵ (flft κ qs.0) ⊛ ‵ others) ⊛ ‵ (owns (types_at ended.signature.params κs) a y.0.4)) ∷ raw (fact 𝓤 (κs.1.0 ⊑ X.lives)) ∷ raw (fact 𝓤 (κs.1.1.0 ⊑ U.lives)) ∷ given ((i < length block.items) × (i < block_slots)) (‵ ftrue) ∷ []) ∵
    keep ! (3 ∷ 0 ∷ []) $ learn ! (λ asked. drop ! $ let within = asked.0 in let below = asked.1 in
    let found = item_of block.items i within in let x = found.0 in
    split ! $ split ! $ move ! (2 ∷ []) $ fsplit ! $ fsplit ! $ drop ! $
    use1 𝓛 (‵ (hidden_shr RawPtr κ block.first rb (ro + 0)) ⊛ ‵ (flt (block_slots * s) (2 ^ 63)) ⊛ ‵ (lent_at (Array (R E) (length block.items)) block.first block.items κ)) (shown E 𝓛 κ block rb ro) $
    split3 ! $ move ! (1 ∷ []) $ flt_l ! (λ fit.
    let tiny : s < 2 ^ 64 = omega (arith, one_below block_slots s (2 ^ 63) (omega arith) fit) in
    let far : i * s < 2 ^ 64 = omega (arith, times_below i block_slots s (2 ^ 63) (omega arith) fit) in
    move ! (1 ∷ []) $ in_a_block ! block.first (λ p. lent_at (Array (R E) (length block.items)) p block.items κ) (none_at_null E 𝓛 κ block.items) (λ b o at.
    let place = i * s + o in let result : Bor X.Denot = record { ref_ptr = (b, place); now = x } in
    use1 𝓛 (‵ (hidden_shr (R E) κ (get_or block.items i x) b place)) (item_shown E 𝓛 κ block.items i x b o within) $ rewrite ! 0 (λ item. ‵ (hidden_shr (R E) κ item b place)) found.2 refl $
    keep ! (1 ∷ 3 ∷ 4 ∷ 0 ∷ []) $ enter ! 𝓣.C 𝓣.Λ fn (vptr rb ro ∷ vint w64 i ∷ []) post $ alloc_all ! (λ l. pass_all ! refl ((tt, tt), ((tt, record { fits = are.1.0.1 }), tt)) $
    -- [the pointer; the token; the other tokens; the item]
    first ! $ blocks ! $ pointer_in ! tt block.first b o at rb (ro + 0) (λ share.
    sets ! (of_opd ! (load ! (through ! refl (fld ! refl (stop !))) (look ! 0 refl))) refl (tt, tt) $ pointer_out ! tt block.first b o at rb (ro + 0) $
    sets ! (bin ! (get ! refl) (size_lit ! (record { fits = tiny })) (record { fits = far })) refl (tt, record { fits = far }) $
    sets ! (bin ! (get ! refl) (get ! refl) tt) refl (tt, tt) $ sets_last ! (addr ! (through ! refl (stop !))) refl (tt, tt) $
    exec ! 𝓣.C 𝓣.Λ (env fn.locals l) (after 1 fn.body) (at_ret (env fn.locals l) post) $ sets ! (of_opd ! (get ! refl)) refl (tt, tt) $ returns ! (look_at ! 0 refl) $ free_all ! refl $
    join ! $ move ! (1 ∷ []) $ feq_i ! _ (vptr b place ∷ []) (vptr b place ∷ []) refl $ fjoin ! $
    use0 𝓛 (raw (fact 𝓤 (slice_get block.items i ≡ Some x))) (fact_i 𝓤 _ (emp 𝓤) found.1) $ nothing ! $ nothing ! $ nothing ! $ fjoin3 ! $
    keep ! (3 ∷ 0 ∷ 2 ∷ 1 ∷ []) $ by ! (leaves 𝓛 ended stays clauses y (vptr b place) result (tt, (tt, tt)) (tt, (tt, tt)))))))))
