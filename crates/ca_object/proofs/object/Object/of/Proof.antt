-- `of` keeps the pointer of a box, and what the box owned. Assumes `Logic`.
use Rattle.std.proofs.Common.{◌≡◌, List, Some, [], ◌∷◌, ◌++◌, refl, sym, ap, subst}
use base.Fml.{ftrue, flft}
use base.Fraction.{full_share}
use base.Logic.{SProp, ent, emp, id⊢}
use contract.BorrowLft.{◌⊑◌}
use contract.Monad.{fact, fact_i}
use contract.Running.{tables}
use mir.MapTy.{inst_fn}
use mir.Syntax.{a_type, dcons, dnil}
use mir.Val.{Val}
use prog.Wp.{WpFn}
use types.ByLocal.{alloc_all, pass_all, free_all, look_at, get, sets, lands_as}
use types.Kit.{‵, raw, ◌⊛◌, some, later, await, pick, ◌$◌, ◌∵◌, !, qed, by, move, keep, drop, use0, use1, split, split3, join, fsplit, fjoin, feq_l, suffices}
use types.Part.{agg}
use types.Run.{of_opd, no_more, and_then, enter, returns}
use denote.Builtin.{RawPtr}
use denote.Exit.{no}
use denote.Param.{bounded, param}
use denote.Param.NoDrop.{glues}
use denote.RattleType.{RattleType, owns}
use denote.RawPtr.{Ptr}
use denote.Signature.{plain, types_at}
use denote.Steps.{nothing, only}
use denote.Triple.Call.{calls_at}
use denote.Triple.Clauses.{Lasts, lasts}
use denote.Triple.Spec.{triple_of}
use denote.Triple.Table.{framed}
use denote.Triple.Walked.{Stays, stay_dropped, walk_of, Goes-dropped}
use Rattle.core.proofs.atomic.Steps.{Ptr-Good}
use Rattle.libc.specs.Heap.{chunk}
use Rattle.std.proofs.raw_atomic.Walks.{proved_at, leaves}
use Rattle.std_alloc.specs.Box.Ownership.{box_owns}
use Rattle.std_alloc.proofs.BoxSteps.Form as box
use Rattle.std_alloc.proofs.BoxSteps.Steps.{box_out, box_in}
use Rattle.std_alloc.specs.contracts.boxed.Box as boxed
use Rattle.std_alloc.specs.contracts.boxed.Box.into_raw as callee
use Rattle.std_alloc.proofs.boxed.Box.into_raw.Met.{met}
use Rattle.std_heap.specs.contracts.Global as heap
use Rattle.std_heap.specs.contracts.GlobalAllocator.TheImpl.{dict, ghosts}
use Rattle.std_heap.proofs.GlobalAllocator.TheImpl.Met.{passed}
use Rattle.ca_object.specs.declared.object.Object.{Object}
use Rattle.ca_object.specs.contracts.object.Object.of as promise
use Rattle.ca_object.proofs.HeapBox.{A, A-laws, box_at, drops}
use Rattle.ca_object.proofs.Parts.{made, value_of, value_good}
use Rattle.ca_object.proofs.object.Object.of.Statement.{statement}
use Rattle.ca_object.proofs.object.Object.of.Code as code

pub of_spec : {M : Type 1} → statement M
unfolding Rattle.ca_object.proofs.Destruct++none.drop.Code.code
of_spec {M} 𝓤 𝓛 𝓜 𝓡 wired X L d dropped =
    let H = 𝓛.H in let 𝓣 = tables 𝓤 H 𝓜 𝓡 𝓡.env in let args = bounded (a_type ∷ []) (X, tt) (dcons d dnil) in let fn = inst_fn args code.function in
    let ended = promise.ended X d in let clauses = promise.clauses X d 𝓛 𝓜.mem 𝓡.returns in let R : RattleType = param 0 X in
    let E : box.Bx = box_at X L in let self = plain (λ _. boxed.the_row R heap.the_row ghosts) in let stays : Stays ended.signature.params ended.kept = (stay_dropped self no, tt) in
    proved_at 𝓛 ended stays clauses 𝓜 𝓡 (Goes-dropped 𝓛 1 self no (λ κs x f. refl), tt) (promise.Key.name args) fn (code.unfolded 𝓤 H 𝓜 𝓡 wired (X, tt) d) (λ z are.
    let κs = z.0.0 in let qs = z.0.1 in let b = z.0.3.0 in let post : Val → SProp 𝓤 = (walk_of 𝓛 ended stays clauses).post z in
    qed 𝓛 (((‵ (flft κs.0 qs.0) ⊛ ‵ ftrue) ⊛ ‵ (owns (types_at ended.signature.params κs) z.0.3 z.0.4)) ∷ (raw (fact 𝓤 (κs.0 ⊑ X.lives)) ⊛ ‵ ftrue) ∷ []) ∵ split ! $ split ! $ move ! (2 ∷ []) $ fsplit ! $
    box_out E ! b z.0.4.0 (λ block o h at is fits. box_in E ! b block o b.value at refl $
    -- [the box; nothing; its token; nothing; what is required]
    let w = box.word E h block o in let k = triple_of 𝓛 (callee.signature X A ghosts dict drops d) (callee.spec X A ghosts dict drops d 𝓛 𝓜.mem 𝓡.returns) in
    let y : k.Ghost = (((κs.0, ([], tt)), (qs.0, (full_share, tt)), tt, (b, tt), (w ∷ [], tt)), tt) in let tokens = ‵ (flft κs.0 qs.0) ⊛ ‵ (flft [] full_share) ⊛ ‵ ftrue in
    fjoin ! $ use0 𝓛 (‵ (flft [] full_share)) (𝓛.lfts.lft-nil full_share) $ move ! (0 ∷ 3 ∷ []) $ join ! $ move ! (2 ∷ 0 ∷ []) $ join ! $ move ! (0 ∷ 1 ∷ []) $ join ! $
    move ! (1 ∷ []) $ split ! $ use0 𝓛 (raw (fact 𝓤 ([] ⊑ A.lives))) (fact_i 𝓤 ([] ⊑ A.lives) (emp 𝓤) (λ a m. m)) $ move ! (0 ∷ 2 ∷ []) $ join ! $ move ! (1 ∷ 0 ∷ []) $ join ! $
    move ! (1 ∷ 0 ∷ []) $ join ! $ use1 𝓛 (raw (k.pre y)) (id⊢ 𝓤 _) $
    let run : List Val → SProp 𝓤 = λ vs. WpFn 𝓤 H 𝓣.C 𝓣.Λ fn (vs ++ []) post in let typed = box.box_typed E h block o fits in
    suffices ! (run (w ∷ [])) (subst (λ vs. ent 𝓤 (run (w ∷ [])) (run vs)) (sym is) (id⊢ 𝓤 _)) $
    enter ! 𝓣.C 𝓣.Λ fn (w ∷ []) post $ alloc_all ! (λ l. pass_all ! refl (typed, tt) $ sets ! (of_opd ! (get ! refl)) refl typed $
    calls_at ! (framed 𝓤 H 𝓜 𝓣) k (met 𝓤 𝓛 𝓜 𝓡 (code.calls-std_alloc::boxed::Box::into_raw 𝓡.env wired) X A L A-laws ghosts dict drops d
    (passed 𝓡.env (code.calls-std_heap::GlobalAllocator::allocate 𝓡.env wired) (code.calls-std_heap::GlobalAllocator::deallocate 𝓡.env wired)
    (code.calls-std_heap::GlobalAllocator::grow 𝓡.env wired) (code.calls-std_heap::GlobalAllocator::shrink 𝓡.env wired) M 𝓤 𝓛 𝓜 𝓡)
    (glues "ca_object::Destruct++none::drop" 𝓡.env (code.calls-ca_object::Destruct++none::drop 𝓡.env wired) A A-laws M 𝓤 𝓛 𝓜 𝓡) dropped) y
    (and_then ! (get ! refl) (no_more !)) (λ u.
    use1 𝓛 (later (some (λ (p : Ptr). (tokens ⊛ ‵ (RawPtr.own_val p (u ∷ []))) ⊛ some (λ (ls : Lasts (callee.ended X A ghosts dict drops d) y.0.0 y.0.3).
    ‵ (lasts (callee.ended X A ghosts dict drops d) y.0.0 y.0.3 ls) ⊛ ‵ (box_owns chunk R p b.value))))) (id⊢ 𝓤 _) $
    await ! tt $ pick ! (λ p. split ! $ split ! $ split3 ! $ move ! (1 ∷ []) $ drop ! $ join ! $ move ! (1 ∷ []) $ feq_l ! (λ is_at. move ! (1 ∷ []) $ pick ! (λ _. split ! $ drop ! $
    -- [what the box owned; the token]
    let object : Object X.Denot = record { at = p; value = Some b.value } in
    lands_as ! (ap only is_at) refl (Ptr-Good p) $ sets ! (agg ! (and_then ! (get ! refl) (no_more !))) refl (value_good R p) $ made R ! object $
    use0 𝓛 (raw (fact 𝓤 (object.value ≡ Some b.value))) (fact_i 𝓤 (object.value ≡ Some b.value) (emp 𝓤) refl) $ nothing ! $ nothing ! $ fjoin ! $
    returns ! (look_at ! 0 refl) $ free_all ! refl $ keep ! (3 ∷ 0 ∷ 2 ∷ 1 ∷ []) $ by ! (leaves 𝓛 ended stays clauses z (value_of p) object (tt, tt) (tt, tt)))))))))
