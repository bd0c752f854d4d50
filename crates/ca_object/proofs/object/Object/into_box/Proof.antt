-- `into_box` tests the pointer, and makes the box again. Assumes `Logic`.
use Rattle.std.proofs.Common.{◌≡◌, List, None, Some, [], ◌∷◌, ◌++◌, refl, sym, ap, ◌∙◌, subst, lit<}
use base.Fml.{ftrue, flft}
use base.Fraction.{full_share}
use base.Logic.{SProp, ent, emp, id⊢}
use contract.BorrowLft.{◌⊑◌}
use contract.Monad.{fact, fact_i}
use contract.Running.{tables}
use mir.MapTy.{inst_fn}
use mir.Syntax.{a_type, dcons, dnil}
use mir.Val.{Val, vptr, vcons, vnil}
use prog.Wp.{WpFn}
use types.ByLocal.{alloc_all, pass_all, free_all, look_at, get, get_in, sets, lands_last, env}
use types.Kit.{‵, raw, ◌⊛◌, some, later, await, pick, at_ret, ◌$◌, ◌∵◌, !, qed, by, move, keep, drop, use0, use1, split, split3, join, fsplit, fjoin, fjoin3, feq_i, rewrite, suffices}
use types.Match.{live}
use types.Part.{agg, sub, whole}
use types.Run.{stop, fld, lit, of_opd, bin, no_more, and_then, first, blocks, branches, skips, exec, enter, returns, returns_within}
use denote.Exit.{yes, no}
use denote.Param.{bounded, layout, param}
use denote.Param.NoDrop.{glues}
use denote.RattleType.{RattleType, owns}
use denote.RawPtr.{Ptr, block_ptr, null_ptr, tests_null}
use denote.Signature.{plain, types_at, type_at}
use denote.Steps.{nothing, only, heard}
use denote.Triple.Call.{calls_at_last}
use denote.Triple.Clauses.{Lasts, lasts}
use denote.Triple.Spec.{triple_of}
use denote.Triple.Table.{framed}
use denote.Triple.Walked.{Stays, stay_dropped, walk_of, Goes-dropped}
use Rattle.core.proofs.alloc.Calls.{handle_tells}
use Rattle.core.proofs.alloc.Shapes.{after}
use Rattle.core.proofs.atomic.Steps.{Ptr-Good}
use Rattle.core.proofs.cell.Inside.{Good}
use Rattle.core.proofs.option.Made.{Some-of, none_of}
use Rattle.std.proofs.raw_atomic.Walks.{proved_at, leaves}
use Rattle.std_alloc.proofs.BoxSteps.Form as box
use Rattle.std_alloc.proofs.BoxSteps.Steps.{box_out, box_in}
use Rattle.std_alloc.proofs.ResultValues.{and_tt}
use Rattle.std_alloc.specs.contracts.boxed.Box as boxed
use Rattle.std_alloc.specs.contracts.boxed.Box.from_raw as callee
use Rattle.std_alloc.proofs.boxed.Box.from_raw.Met.{met}
use Rattle.std_heap.specs.contracts.Global as heap
use Rattle.std_heap.specs.contracts.GlobalAllocator.TheImpl.{dict, ghosts}
use Rattle.std_heap.proofs.GlobalAllocator.TheImpl.Met.{passed}
use Rattle.ca_object.specs.contracts.object.Object.into_box as promise
use Rattle.ca_object.proofs.HeapBox.{A, A-laws, box_at, drops}
use Rattle.ca_object.proofs.Parts.{Row, is_there, taken, value_of, value_good}
use Rattle.ca_object.proofs.object.Object.into_box.Statement.{statement}
use Rattle.ca_object.proofs.object.Object.into_box.Code as code

pub into_box_spec : {M : Type 1} → statement M
unfolding Rattle.ca_object.proofs.Destruct++none.drop.Code.code
into_box_spec {M} 𝓤 𝓛 𝓜 𝓡 wired X L d dropped =
    let H = 𝓛.H in let 𝓣 = tables 𝓤 H 𝓜 𝓡 𝓡.env in let args = bounded (a_type ∷ []) (X, tt) (dcons d dnil) in let fn = inst_fn args code.function in
    let ended = promise.ended X d in let clauses = promise.clauses X d 𝓛 𝓜.mem 𝓡.returns in let R : RattleType = param 0 X in
    let E : box.Bx = box_at X L in let B : RattleType = boxed.the_row R heap.the_row ghosts in let self = plain (λ _. Row R) in let handle = plain (λ _. heap.the_row) in
    let stays : Stays ended.signature.params ended.kept = (stay_dropped self no, (stay_dropped handle yes, tt)) in
    proved_at 𝓛 ended stays clauses 𝓜 𝓡 (Goes-dropped 𝓛 1 self no (λ κs x f. refl), (Goes-dropped 𝓛 1 handle yes (λ κs x f. refl), tt)) (promise.Key.name args) fn (code.unfolded 𝓤 H 𝓜 𝓡 wired (X, tt) d) (λ z are.
    let κs = z.0.0 in let qs = z.0.1 in let object = z.0.3.0 in let a = z.0.3.1.0 in let post : Val → SProp 𝓤 = (walk_of 𝓛 ended stays clauses).post z in
    let Out : RattleType = type_at ended.signature.result κs in
    qed 𝓛 (((‵ (flft κs.0 qs.0) ⊛ ‵ ftrue) ⊛ ‵ (owns (types_at ended.signature.params κs) z.0.3 z.0.4)) ∷ (raw (fact 𝓤 (κs.0 ⊑ X.lives)) ⊛ ‵ ftrue) ∷ []) ∵ split ! $ move ! (1 ∷ []) $ fsplit ! $ move ! (1 ∷ []) $ fsplit ! $
    handle_tells E.al ! a z.0.4.1.0 (λ h is_h fits. move ! (2 ∷ []) $ taken R ! object z.0.4.0 (λ is_object.
    -- [what is at the pointer; the allocator; nothing; the token; what is required]
    let run : List Val → List Val → SProp 𝓤 = λ us vs. WpFn 𝓤 H 𝓣.C 𝓣.Λ fn (us ++ (vs ++ [])) post in
    let runs : (p : Ptr) → object.at ≡ p → ent 𝓤 (run (value_of p ∷ []) (h ∷ [])) (run z.0.4.0 z.0.4.1.0) = λ p at.
    subst (λ us. ent 𝓤 (run (value_of p ∷ []) (h ∷ [])) (run us z.0.4.1.0)) (sym (is_object ∙ ap (λ q. value_of q ∷ []) at)) (subst (λ vs. ent 𝓤 (run (value_of p ∷ []) (h ∷ [])) (run (value_of p ∷ []) vs)) (sym is_h) (id⊢ 𝓤 _)) in
    is_there R ! object.at object.value
    (λ at is_none. let none : Val = live 0 vnil in
    suffices ! (run (value_of null_ptr ∷ []) (h ∷ [])) (runs null_ptr at) $ enter ! 𝓣.C 𝓣.Λ fn (value_of null_ptr ∷ h ∷ []) post $ alloc_all ! (λ l. pass_all ! refl (value_good R null_ptr, (fits, tt)) $
    sets ! (of_opd ! (get_in ! (fld ! refl (stop !)) (sub ! 0 refl (whole !)))) refl (Ptr-Good null_ptr) $ sets ! (of_opd ! (get ! refl)) refl (Ptr-Good null_ptr) $
    sets ! (bin ! (get ! refl) (lit ! tt) tt) refl (tt, tt) $ first ! $ branches ! (get ! refl)
    (λ _. sets ! (agg ! (and_then ! (lit ! tt) (no_more !))) refl (tt, (record { fits = lit< tt }, tt)) $
    use0 𝓛 (‵ (Out.own_val None (none ∷ []))) (none_of 𝓛 B) $ use0 𝓛 (raw (fact 𝓤 (None ≡ object.value))) (fact_i 𝓤 (None ≡ object.value) (emp 𝓤) (sym is_none)) $ nothing ! $ nothing ! $ nothing ! $ fjoin3 ! $
    returns_within ! post refl (look_at ! 0 refl) $ free_all ! refl $ keep ! (5 ∷ 0 ∷ 2 ∷ 1 ∷ []) $ by ! (leaves 𝓛 ended stays clauses z none None (tt, (tt, tt)) (tt, (tt, tt)))) (λ wrong. absurd wrong)))
    (λ block o x at is_some test. let p : Ptr = block_ptr block o in
    let k = triple_of 𝓛 (callee.signature X A ghosts dict drops) (callee.spec X A ghosts dict drops 𝓛 𝓜.mem 𝓡.returns) in
    let y : k.Ghost = (((κs.0, ([], tt)), (qs.0, (full_share, tt)), tt, (a, (p, tt)), (h ∷ [], (vptr block o ∷ [], tt))), x) in let tokens = ‵ (flft κs.0 qs.0) ⊛ ‵ (flft [] full_share) ⊛ ‵ ftrue in
    move ! (4 ∷ []) $ split ! $ move ! (1 ∷ []) $ drop ! $ use0 𝓛 (raw (fact 𝓤 ([] ⊑ A.lives))) (fact_i 𝓤 ([] ⊑ A.lives) (emp 𝓤) (λ a m. m)) $ move ! (0 ∷ 2 ∷ []) $ join ! $ move ! (1 ∷ 0 ∷ []) $ join ! $
    move ! (2 ∷ []) $ feq_i ! (List Val) (vptr block o ∷ []) (vptr block o ∷ []) refl $ fjoin ! $ move ! (2 ∷ 0 ∷ []) $ fjoin ! $
    move ! (2 ∷ []) $ split ! $ use0 𝓛 (‵ (flft [] full_share)) (𝓛.lfts.lft-nil full_share) $ move ! (0 ∷ 2 ∷ []) $ join ! $ move ! (1 ∷ 0 ∷ []) $ join ! $ join ! $ join ! $ use1 𝓛 (raw (k.pre y)) (id⊢ 𝓤 _) $
    suffices ! (run (value_of p ∷ []) (h ∷ [])) (runs p at) $ enter ! 𝓣.C 𝓣.Λ fn (value_of p ∷ h ∷ []) post $ alloc_all ! (λ l. pass_all ! refl (value_good R p, (fits, tt)) $ let Ev = env fn.locals l in
    sets ! (of_opd ! (get_in ! (fld ! refl (stop !)) (sub ! 0 refl (whole !)))) refl (Ptr-Good p) $ sets ! (of_opd ! (get ! refl)) refl (Ptr-Good p) $
    sets ! (bin ! (get ! refl) (lit ! tt) (tests_null p test)) refl (tt, tt) $ first ! $ branches ! (get ! refl) (λ wrong. absurd wrong)
    (λ _. skips ! $ exec ! 𝓣.C 𝓣.Λ Ev (after 4 fn.body) (at_ret Ev post) $
    first ! $ blocks ! $ sets ! (of_opd ! (get ! refl)) refl fits $ sets ! (of_opd ! (get ! refl)) refl (Ptr-Good p) $
    calls_at_last ! (framed 𝓤 H 𝓜 𝓣) k (met 𝓤 𝓛 𝓜 𝓡 (code.calls-std_alloc::boxed::Box::from_raw 𝓡.env wired) X A L A-laws ghosts dict drops
    (passed 𝓡.env (code.calls-std_heap::GlobalAllocator::allocate 𝓡.env wired) (code.calls-std_heap::GlobalAllocator::deallocate 𝓡.env wired)
    (code.calls-std_heap::GlobalAllocator::grow 𝓡.env wired) (code.calls-std_heap::GlobalAllocator::shrink 𝓡.env wired) M 𝓤 𝓛 𝓜 𝓡)
    (glues "ca_object::Destruct++none::drop" 𝓡.env (code.calls-ca_object::Destruct++none::drop 𝓡.env wired) A A-laws M 𝓤 𝓛 𝓜 𝓡)) y
    (and_then ! (get ! refl) (and_then ! (get ! refl) (no_more !))) (λ u.
    use1 𝓛 (later (some (λ (r : B.Denot). (tokens ⊛ ‵ (B.own_val r (u ∷ []))) ⊛ some (λ (ls : Lasts (callee.ended X A ghosts dict drops) y.0.0 y.0.3).
    ‵ (lasts (callee.ended X A ghosts dict drops) y.0.0 y.0.3 ls) ⊛ (raw (fact 𝓤 (r.value ≡ x)) ⊛ raw (fact 𝓤 (r.alloc ≡ a))))))) (id⊢ 𝓤 _) $
    await ! tt $ pick ! (λ r. split ! $ split ! $ split3 ! $ move ! (1 ∷ []) $ drop ! $ join ! $ move ! (2 ∷ []) $ pick ! (λ _. split3 ! $ drop ! $ heard ! (r.value ≡ x) (λ same. drop ! $ move ! (1 ∷ []) $
    -- [the box; the token]
    box_out E ! r (u ∷ []) (λ block' o' h' at' is_r fits'. box_in E ! r block' o' r.value at' refl $ rewrite ! 0 (λ us. ‵ (B.own_val r us)) (sym is_r) refl $
    let good : Good (layout B) u = subst (Good (layout B)) (sym (ap only is_r)) (box.box_typed E h' block' o' fits') in let some_r : Val = live 1 (vcons u vnil) in
    lands_last ! refl good $ exec ! 𝓣.C 𝓣.Λ Ev (after 5 fn.body) (at_ret Ev post) $ sets ! (of_opd ! (get ! refl)) refl good $
    sets ! (agg ! (and_then ! (lit ! tt) (and_then ! (get ! refl) (no_more !)))) refl (and_tt _ good.0, (record { fits = lit< tt }, (good.1, tt))) $
    use1 𝓛 (‵ (Out.own_val (Some r) (some_r ∷ []))) (Some-of 𝓛 B r u) $ use0 𝓛 (raw (fact 𝓤 (Some r.value ≡ object.value))) (fact_i 𝓤 (Some r.value ≡ object.value) (emp 𝓤) (ap Some same ∙ sym is_some)) $
    nothing ! $ nothing ! $ nothing ! $ fjoin3 ! $
    returns ! (look_at ! 0 refl) $ free_all ! refl $ keep ! (3 ∷ 0 ∷ 2 ∷ 1 ∷ []) $ by ! (leaves 𝓛 ended stays clauses z some_r (Some r) (tt, (tt, tt)) (tt, (tt, tt))))))))))))))
