-- `none` makes the struct at null, where it owns nothing. Assumes `Logic`.
use Rattle.std.proofs.Common.{◌≡◌, None, [], ◌∷◌, refl}
use base.Fml.{ftrue, flft}
use base.Logic.{SProp, emp}
use contract.Monad.{fact, fact_i}
use contract.Running.{tables}
use mir.MapTy.{inst_fn}
use mir.Syntax.{a_type, dcons, dnil}
use mir.Val.{Val}
use types.ByLocal.{alloc_all, pass_all, free_all, look_at, sets}
use types.Kit.{‵, raw, ◌⊛◌, ◌$◌, ◌∵◌, !, qed, by, keep, split, use0, feq_i}
use types.Part.{agg}
use types.Run.{lit, no_more, and_then, enter, returns}
use denote.Param.{bounded, param}
use denote.RawPtr.{Ptr, null_ptr}
use denote.Steps.{nothing}
use denote.Triple.Walked.{walk_of}
use Rattle.std.proofs.raw_atomic.Walks.{proved, leaves}
use Rattle.ca_object.specs.declared.object.Object.{Object}
use Rattle.ca_object.specs.contracts.object.Object.none as promise
use Rattle.ca_object.proofs.Parts.{made, value_of, value_good}
use Rattle.ca_object.proofs.object.Object.none.Statement.{statement}
use Rattle.ca_object.proofs.object.Object.none.Code as code

pub none_spec : {M : Type 1} → statement M
none_spec 𝓤 𝓛 𝓜 𝓡 wired X L d met =
    let H = 𝓛.H in let 𝓣 = tables 𝓤 H 𝓜 𝓡 𝓡.env in let args = bounded (a_type ∷ []) (X, tt) (dcons d dnil) in let fn = inst_fn args code.function in
    let ended = promise.ended X d in let clauses = promise.clauses X d 𝓛 𝓜.mem 𝓡.returns in let R = param 0 X in
    proved 𝓛 ended tt clauses 𝓜 𝓡 tt (promise.Key.name args) fn (code.unfolded 𝓤 H 𝓜 𝓡 wired (X, tt) d) (λ κs. tt) (λ κs. tt) (λ κs qs bounds a ghost are.
    let y : (walk_of 𝓛 ended tt clauses).Ghost = ((κs, qs, bounds, a, tt), ghost) in let post : Val → SProp 𝓤 = (walk_of 𝓛 ended tt clauses).post y in
    let object : Object X.Denot = record { at = null_ptr; value = None } in
    qed 𝓛 (((‵ (flft κs.0 qs.0) ⊛ ‵ ftrue) ⊛ ‵ ftrue) ∷ raw ((clauses κs a).requires ghost) ∷ []) ∵ split ! $ keep ! (0 ∷ []) $
    enter ! 𝓣.C 𝓣.Λ fn [] post $ alloc_all ! (λ l. pass_all ! refl tt $
    sets ! (agg ! (and_then ! (lit ! tt) (no_more !))) refl (value_good R null_ptr) $
    feq_i ! Ptr null_ptr null_ptr refl $ made R ! object $ use0 𝓛 (raw (fact 𝓤 (object.value ≡ None))) (fact_i 𝓤 (object.value ≡ None) (emp 𝓤) refl) $ nothing ! $
    returns ! (look_at ! 0 refl) $ free_all ! refl $ keep ! (3 ∷ 0 ∷ 2 ∷ 1 ∷ []) $ by ! (leaves 𝓛 ended tt clauses y (value_of null_ptr) object tt tt)))
