-- `into_object` moves a pointer, and what is owned at it goes with it. Assumes `Logic`.
use Rattle.std.proofs.Common.{◌≡◌, List, [], ◌∷◌, ◌++◌, refl, sym, ◌∙◌, subst}
use base.Fml.{ftrue}
use base.Logic.{SProp, ent, emp, id⊢}
use contract.Monad.{fact, fact_i}
use contract.Running.{tables}
use mir.Val.{Val, vstruct, of_list}
use prog.Wp.{WpFn}
use types.ByLocal.{alloc_all, pass_all, free_all, look_at, get, get_in, sets}
use types.Kit.{‵, raw, ◌⊛◌, ◌$◌, ◌∵◌, !, qed, by, move, keep, split, fsplit, fjoin, fpick, feq_l, suffices, use0}
use types.Part.{agg, sub, whole}
use types.Run.{stop, fld, of_opd, no_more, and_then, enter, returns}
use denote.Exit.{yes}
use denote.RattleType.{owns}
use denote.Signature.{plain, types_at}
use denote.Steps.{nothing}
use denote.Triple.Walked.{Stays, stay_dropped, walk_of, Goes-dropped}
use Rattle.core.proofs.atomic.Steps.{Ptr-Good}
use Rattle.std.proofs.raw_atomic.Walks.{proved_at, leaves}
use Rattle.ca_object.proofs.Parts.{made, value_of, value_good}
use Rattle.ca_c.specs.contracts.repeater_object.RepeaterObject.{the_row as R}
use Rattle.ca_c.specs.contracts.cvz_repeater.CvzRepeater.{the_row}
use Rattle.ca_c.specs.declared.repeater_object.RepeaterObject.{RepeaterObject}
use Rattle.ca_object.specs.declared.object.Object.{Object}
use Rattle.ca_c.specs.contracts.cvz_repeater.CvzRepeater.into_object as promise
use Rattle.ca_c.proofs.cvz_repeater.CvzRepeater.into_object.Statement.{statement}
use Rattle.ca_c.proofs.cvz_repeater.CvzRepeater.into_object.Code as code

pub into_object_spec : {M : Type 1} → statement M
into_object_spec 𝓤 𝓛 𝓜 𝓡 wired =
    let H = 𝓛.H in let 𝓣 = tables 𝓤 H 𝓜 𝓡 𝓡.env in let fn = code.function in let ended = promise.ended in let clauses = promise.clauses 𝓛 𝓜.mem 𝓡.returns in
    let self = plain (λ _. the_row) in let stays : Stays ended.signature.params ended.kept = (stay_dropped self yes, tt) in
    proved_at 𝓛 ended stays clauses 𝓜 𝓡 (Goes-dropped 𝓛 0 self yes (λ κs x f. refl), tt) promise.Key.name fn (code.unfolded 𝓤 H 𝓜 𝓡 wired) (λ z are.
    let handle = z.0.3.0 in let post : Val → SProp 𝓤 = (walk_of 𝓛 ended stays clauses).post z in let run : List Val → SProp 𝓤 = λ vs. WpFn 𝓤 H 𝓣.C 𝓣.Λ fn (vs ++ []) post in
    qed 𝓛 ((‵ ftrue ⊛ ‵ (owns (types_at ended.signature.params z.0.0) z.0.3 z.0.4)) ∷ raw ((clauses z.0.0 z.0.3).requires z.1) ∷ []) ∵ split ! $ move ! (1 ∷ []) $ fsplit ! $
    fsplit ! $ fpick ! (λ fields. fsplit ! $ feq_l ! (λ whole_is. fsplit ! $ feq_l ! (λ at_is. keep ! (1 ∷ 3 ∷ []) $
    -- [what is at the pointer; no tokens]
    let w = value_of handle.at in let good = value_good R handle.at in let is : z.0.4.0 ≡ w ∷ [] = whole_is ∙ (λ i. vstruct (of_list (at_is i ++ [])) ∷ []) in
    let object : Object RepeaterObject = record { at = handle.at; value = handle.value } in
    suffices ! (run (w ∷ [])) (subst (λ vs. ent 𝓤 (run (w ∷ [])) (run vs)) (sym is) (id⊢ 𝓤 _)) $ enter ! 𝓣.C 𝓣.Λ fn (w ∷ []) post $ alloc_all ! (λ l. pass_all ! refl (good, tt) $
    sets ! (of_opd ! (get_in ! (fld ! refl (stop !)) (sub ! 0 refl (whole !)))) refl (Ptr-Good handle.at) $ sets ! (of_opd ! (get ! refl)) refl (Ptr-Good handle.at) $
    sets ! (agg ! (and_then ! (get ! refl) (no_more !))) refl good $
    made R ! object $
    use0 𝓛 (raw (fact 𝓤 (object.value ≡ handle.value))) (fact_i 𝓤 (object.value ≡ handle.value) (emp 𝓤) refl) $ nothing ! $ nothing ! $ fjoin ! $
    returns ! (look_at ! 0 refl) $ free_all ! refl $ keep ! (3 ∷ 0 ∷ 2 ∷ 1 ∷ []) $ by ! (leaves 𝓛 ended stays clauses z w object (tt, tt) (tt, tt)))))))
