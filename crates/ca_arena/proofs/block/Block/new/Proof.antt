-- `new` asks the allocator for room for 64 items, and keeps the right to give it
-- back. Assumes `Logic`.
use Rattle.std.proofs.Common.{◌≡◌, ◌+◌, ◌*◌, ◌<◌, ◌^◌, true, false, [], ◌∷◌, refl, sym, ap, subst, arith, lit<, IfOk, Ok, Err, w64}
use native.Mathlib.Nat.{zero-mul}
use base.Fml.{Fml, ftrue, froom, fsep, flft, Incl-trans}
use base.Fraction.{full_share}
use base.Logic.{SProp, emp}
use contract.BorrowLft.{◌⊑◌}
use contract.Monad.{fact, fact_i}
use contract.Running.{tables}
use mir.MapTy.{inst_fn}
use mir.Syntax.{Body, Ty, named, ty_array}
use mir.Val.{Val, vint, vptr, vstruct, vcons, vnil, WT}
use prog.Capped.{capped_fits}
use prog.Memory.{align, capped}
use prog.Wp.{Wp, after_seq, at_return}
use types.ByLocal.{alloc_all, pass_all, free_all, look_at, get, get_in, get_tag, is, sets, sets_last, lands_as, env}
use types.Kit.{Post as After, any_q, ‵, raw, ◌⊛◌, given, later, await, at_ret, ◌$◌, ◌∵◌, !, qed, by, move, keep, drop, use0, use1, use2, split, join, learn, rewrite, fsplit, fjoin}
use types.Match.{live, vrt, in_variant}
use types.Part.{whole, agg}
use types.Run.{stop, fld, lit, size_word, align_word, no_more, and_then, of_opd, bin, first, switches_on, exec, returns, enter}
use denote.Array.{Array}
use denote.Builtin.{RefOf}
use denote.Exit.{yes}
use denote.Laws.{Is}
use denote.Memory.{part_at}
use denote.RattleType.{RattleType, owns}
use denote.RawPtr.{block_ptr}
use denote.Ref.{shr_vals, shr_Tells}
use denote.Signature.{plain, types_at}
use denote.Steps.{nothing, owned}
use denote.Struct.Declared as Declared
use denote.Struct.Struct.{Struct, Struct-Makes}
use denote.Triple.Call.{calls_at}
use denote.Triple.Table.{framed}
use denote.Triple.Walked.{Stays, stay_dropped, walk_of, Goes-dropped}
use Rattle.core.specs.contracts.alloc.AllocError as refusal
use Rattle.core.specs.contracts.result.Result as outcome
use Rattle.core.proofs.alloc.Calls.{Answer-typed, Answered, Takes, Takes-gives, Takes-goes, answers, at_takes}
use Rattle.core.proofs.mem.Param as param
use Rattle.core.proofs.slots.Bodies.{after, head, arm_body}
use Rattle.core.proofs.slots.Leases.{block_align, block_size, block_ty, uncapped}
use Rattle.std.proofs.raw_atomic.Walks.{proved, leaves}
use Rattle.std_alloc.proofs.RawLayout.{as_written}
use Rattle.std_alloc.proofs.ResultValues.{ok_of, err_of}
use Rattle.std_alloc.proofs.VecSteps.El.{El, P, R, args, elτ, sz}
use Rattle.std_alloc.proofs.VecSteps.Rows.{empty}
use Rattle.std_alloc.specs.Vec.Ownership.{FitsInBlock}
use Rattle.ca_arena.specs.Block.{block_slots}
use Rattle.ca_arena.specs.contracts.block.Block.new as promise
use Rattle.ca_arena.proofs.BlockParts.{Held, Row, made, value_of}
use Rattle.ca_arena.proofs.block.Block.new.Statement.{statement}
use Rattle.ca_arena.proofs.block.Block.new.Code as code

pub new_spec : {M : Type 1} → statement M
new_spec 𝓤 𝓛 𝓜 𝓡 wired X U L LU g d dd met _ =
    let E : El = record { row = X; laws = L; al = record { row = U; laws = LU; g = g; d = d; drops = dd } } in let E' : param.El = record { row = X; laws = L } in let Z = E.al in
    let H = 𝓛.H in let 𝓣 = tables 𝓤 H 𝓜 𝓡 𝓡.env in let fn = inst_fn (args E) code.function in
    let ended = promise.ended X U g d dd in let clauses = promise.clauses X U g d dd 𝓛 𝓜.mem 𝓡.returns in let handle = RefOf (0 ∷ []) tt (plain (λ _. P E)) (λ _. tt) in
    let stays : Stays ended.signature.params ended.kept = (stay_dropped handle yes, tt) in let Out : RattleType = outcome.the_row (Row E) refusal.the_row in
    proved 𝓛 ended stays clauses 𝓜 𝓡 (Goes-dropped 𝓛 3 handle yes (λ κs x f. refl), tt) (promise.Key.name (args E)) fn (code.unfolded 𝓤 H 𝓜 𝓡 wired (X, (U, tt)) d dd)
    (λ κs. (shr_vals, tt)) (λ κs. (shr_Tells (named 0) κs.0 (P E), tt)) (λ κs qs bounds a ghost are.
    let κ = κs.0 in let q = qs.0 in let at_handle = a.0.ref_ptr in let alloc = a.0.now in let s = sz E in let τ : Ty = block_ty E' block_slots in let bits = capped (align (elτ E)) in
    let y : (walk_of 𝓛 ended stays clauses).Ghost = ((κs, qs, bounds, a, (shr_vals a.0, tt)), ghost) in let post : Val → SProp 𝓤 = (walk_of 𝓛 ended stays clauses).post y in
    let tokens : Fml = fsep (flft κs.1.0 qs.1.0) (fsep (flft κs.1.1.0 qs.1.1.0) ftrue) in
    let Says : Out.Denot → Type 0 = λ r. IfOk r (λ b. (b.items ≡ []) × (b.alloc ≡ alloc)) in
    qed 𝓛 (((‵ (flft κ q) ⊛ ‵ tokens) ⊛ ‵ (owns (types_at ended.signature.params κs) a y.0.4)) ∷ raw (fact 𝓤 (κs.1.0 ⊑ X.lives)) ∷ given (κs.1.1.0 ⊑ U.lives) (‵ ftrue) ∷ given (FitsInBlock (R E) block_slots) (‵ ftrue) ∷ []) ∵
    keep ! (2 ∷ 3 ∷ 0 ∷ []) $ learn ! (λ lives. drop ! $ learn ! (λ asked. drop ! $ split ! $ split ! $ move ! (2 ∷ []) $ fsplit ! $ fsplit ! $ keep ! (1 ∷ 3 ∷ 4 ∷ []) $
    let fit : block_slots * s < 2 ^ 63 = asked.0 in let bytes : block_slots * s < 2 ^ 64 = omega arith in
    let call = at_takes Z 𝓛 𝓜.mem 𝓡.returns κ q at_handle alloc (block_slots * s) bits τ in
    enter ! 𝓣.C 𝓣.Λ fn (vptr at_handle.0 at_handle.1 ∷ []) post $ alloc_all ! (λ l. pass_all ! refl ((tt, tt), tt) $ let locals = env fn.locals l in
    let match : Body = head (after 2 fn.body) in
    let joined : After 𝓤 H = any_q (after_seq 𝓤 H (Wp 𝓤 H 𝓣.C 𝓣.Λ locals (after 3 fn.body) (at_return 𝓤 H locals post)) (at_return 𝓤 H locals post)) in
    sets ! (is ! (bin ! (lit ! tt) (size_word !) (record { fits = subst (λ k. k < 2 ^ 64) (sym (uncapped block_slots s bytes)) bytes })) (ap (vint w64) (uncapped block_slots s bytes))) refl (tt, record { fits = bytes }) $
    use2 𝓛 (raw ((Takes Z 𝓛 𝓜.mem 𝓡.returns).pre call))
    (Takes-goes Z 𝓛 𝓜.mem 𝓡.returns κ q at_handle alloc (Incl-trans bounds.0 lives) (block_slots * s) bits τ (block_size E' block_slots bytes) (block_align E' block_slots) bytes (capped_fits (align (elτ E)))) $
    calls_at ! (framed 𝓤 H 𝓜 𝓣) (Takes Z 𝓛 𝓜.mem 𝓡.returns) (met.allocate dd) call (and_then ! (get ! refl) (and_then ! (get ! refl) (and_then ! (align_word !) (no_more !)))) (λ v.
    use1 𝓛 (later (raw (Answered Z 𝓛 𝓜.mem 𝓡.returns alloc τ v) ⊛ ‵ (flft κ q))) (Takes-gives Z 𝓛 𝓜.mem 𝓡.returns κ q at_handle alloc (block_slots * s) bits τ v) $ await ! tt $ split ! $
    move ! (1 ∷ 2 ∷ []) $ join ! $ move ! (1 ∷ []) $ answers Z ! 𝓜.mem 𝓡.returns alloc τ v
    (λ b o granted. let first_slot = block_ptr b o in let block : Held E = record { first = first_slot; by = record {}; alloc = alloc; items = [] } in let bits_of = value_of first_slot in let from_first : o ≡ o + 0 * s = omega (arith, zero-mul s) in
    let answer : Val = live 0 (vcons bits_of vnil) in let good : WT answer = (record { fits = lit< tt }, ((tt, (tt, tt)), tt)) in
    lands_as ! granted refl (Answer-typed true b o) $ first ! $ switches_on ! (get_tag ! (vrt ! refl (fld ! refl (stop !))) (whole !)) $ exec ! 𝓣.C 𝓣.Λ locals (arm_body 0 match) joined $
    sets ! (of_opd ! (get_in ! (vrt ! refl (fld ! refl (stop !))) (in_variant ! 0 0 refl refl (whole !)))) refl (tt, tt) $ sets ! (of_opd ! (get ! refl)) refl (tt, tt) $
    sets ! (agg ! (no_more !)) refl (tt, tt) $ sets ! (agg ! (and_then ! (get ! refl) (and_then ! (get ! refl) (no_more !)))) refl (tt, (tt, (tt, tt))) $
    sets_last ! (agg ! (and_then ! (lit ! tt) (and_then ! (get ! refl) (no_more !)))) refl (tt, good) $
    exec ! 𝓣.C 𝓣.Λ locals (after 3 fn.body) (at_ret locals post) $ sets ! (of_opd ! (get ! refl)) refl (tt, good) $
    -- [the memory; the right to give it back; the tokens]
    as_written ! (ty_array (elτ E) block_slots) b o $ rewrite ! 0 (λ k. ‵ (froom (ty_array (elτ E) block_slots) b k)) from_first refl $
    use0 𝓛 (‵ (part_at (Array (R E) 0) full_share [] b o)) (empty E 𝓛 [] b o refl) $ made E ! block b o refl fit $
    use1 𝓛 (‵ (Out.own_val (Ok block) (answer ∷ []))) (ok_of 𝓛 (Row E) refusal.the_row block bits_of) $
    use0 𝓛 (raw (fact 𝓤 (Says (Ok block)))) (fact_i 𝓤 _ (emp 𝓤) (refl, refl)) $ nothing ! $ nothing ! $ fjoin ! $
    returns ! (look_at ! 0 refl) $ free_all ! refl $ keep ! (3 ∷ 0 ∷ 2 ∷ 1 ∷ []) $ by ! (leaves 𝓛 ended stays clauses y answer (Ok block) (tt, tt) (tt, tt)))
    (λ refused. let error = vstruct vnil in let answer : Val = live 1 (vcons error vnil) in let good : WT answer = (record { fits = lit< tt }, (tt, tt)) in let Error : RattleType = Struct (Declared.shape refusal.the_type) in
    lands_as ! refused refl (Answer-typed false 0 0) $ first ! $ switches_on ! (get_tag ! (vrt ! refl (fld ! refl (stop !))) (whole !)) $ exec ! 𝓣.C 𝓣.Λ locals (arm_body 1 match) joined $
    sets ! (of_opd ! (get_in ! (vrt ! refl (fld ! refl (stop !))) (in_variant ! 1 0 refl refl (whole !)))) refl (tt, tt) $
    sets_last ! (agg ! (and_then ! (lit ! tt) (and_then ! (get ! refl) (no_more !)))) refl (tt, good) $
    exec ! 𝓣.C 𝓣.Λ locals (after 3 fn.body) (at_ret locals post) $ sets ! (of_opd ! (get ! refl)) refl (tt, good) $
    owned ! Error (Is Error) (Struct-Makes 𝓛 (Declared.shape refusal.the_type) tt) tt (error ∷ []) (tt, (refl, tt)) $
    use1 𝓛 (‵ (Out.own_val (Err (record {})) (answer ∷ []))) (err_of 𝓛 (Row E) refusal.the_row (record {}) error) $
    use0 𝓛 (raw (fact 𝓤 (Says (Err (record {}))))) (fact_i 𝓤 _ (emp 𝓤) tt) $ nothing ! $ nothing ! $ fjoin ! $
    returns ! (look_at ! 0 refl) $ free_all ! refl $ keep ! (3 ∷ 0 ∷ 2 ∷ 1 ∷ []) $ by ! (leaves 𝓛 ended stays clauses y answer (Err (record {})) (tt, tt) (tt, tt))))))))
