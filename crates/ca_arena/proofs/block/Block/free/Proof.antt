-- `free` gives the memory of an empty block back. Assumes `Logic`.
use Rattle.std.proofs.Common.{◌≡◌, ◌*◌, ◌<◌, ◌≤◌, ◌^◌, T, [], ◌∷◌, refl, sym, ap, subst, arith, length, w64}
use base.Fml.{Fml, ftrue, froom, fsep, flft, Incl-trans}
use base.Logic.{SProp}
use contract.BorrowLft.{◌⊑◌}
use contract.Monad.{fact}
use contract.Running.{tables}
use mir.MapTy.{inst_fn}
use mir.Syntax.{Ty, named, ty_array, ty_unit}
use mir.Val.{Val, vint, vptr, vunit, has_ty, WT}
use prog.Capped.{capped_fits}
use prog.Memory.{align, capped}
use types.ByLocal.{alloc_all, pass_all, free_all, look_at, get, get_in, is, sets, lands_last, env}
use types.Kit.{‵, raw, ◌⊛◌, given, later, await, at_ret, ◌$◌, ◌∵◌, !, qed, by, move, keep, drop, use1, use2, split, join, group, learn, rewrite, fsplit, fjoin3, feq_i}
use types.Part.{whole, sub}
use types.Run.{stop, fld, lit, unit_lit, size_word, align_word, no_more, and_then, of_opd, bin, first, blocks, exec, returns, enter}
use denote.Builtin.{RefOf}
use denote.Exit.{yes, no}
use denote.Param.Laws.{param_laws}
use denote.RattleType.{owns}
use denote.RawPtr.{block_ptr, ptr_val}
use denote.Ref.{shr_vals, shr_Tells}
use denote.Signature.{plain, types_at}
use denote.Steps.{nothing}
use denote.Triple.Call.{calls_at_last}
use denote.Triple.Table.{framed}
use denote.Triple.Walked.{Stays, stay_dropped, walk_of, Goes-dropped}
use Rattle.core.proofs.alloc.Calls.{Gives, Gives-Gives, Gives-goes, at_gives, token}
use Rattle.core.proofs.mem.Param as param
use Rattle.core.proofs.slots.Bodies.{after}
use Rattle.core.proofs.slots.Leases.{block_align, block_size, block_ty, uncapped}
use Rattle.std.proofs.raw_atomic.Walks.{proved, leaves}
use Rattle.std_alloc.proofs.RawLayout.{as_raw}
use Rattle.std_alloc.proofs.VecSteps.El.{El, P, R, args, elτ, sz}
use Rattle.std_alloc.proofs.VecSteps.Rows.{all_room}
use Rattle.ca_arena.specs.Block.{block_slots}
use Rattle.ca_arena.specs.contracts.block.Block.free as promise
use Rattle.ca_arena.proofs.BlockParts.{Row, taken, value_good, value_of}
use Rattle.ca_arena.proofs.block.Block.TheLaws.{lowers}
use Rattle.ca_arena.proofs.block.Block.free.Statement.{statement}
use Rattle.ca_arena.proofs.block.Block.free.Code as code

pub free_spec : {M : Type 1} → statement M
free_spec 𝓤 𝓛 𝓜 𝓡 wired X U L LU g d dd met _ =
    let E : El = record { row = X; laws = L; al = record { row = U; laws = LU; g = g; d = d; drops = dd } } in let E' : param.El = record { row = X; laws = L } in let Z = E.al in
    let H = 𝓛.H in let 𝓣 = tables 𝓤 H 𝓜 𝓡 𝓡.env in let fn = inst_fn (args E) code.function in
    let ended = promise.ended X U g d dd in let clauses = promise.clauses X U g d dd 𝓛 𝓜.mem 𝓡.returns in let self = plain (λ _. Row E) in let handle = RefOf (0 ∷ []) tt (plain (λ _. P E)) (λ _. tt) in
    let stays : Stays ended.signature.params ended.kept = (stay_dropped self no, (stay_dropped handle yes, tt)) in
    proved 𝓛 ended stays clauses 𝓜 𝓡 (Goes-dropped 𝓛 3 self no (λ κs x f. refl), (Goes-dropped 𝓛 3 handle yes (λ κs x f. refl), tt)) (promise.Key.name (args E)) fn (code.unfolded 𝓤 H 𝓜 𝓡 wired (X, (U, tt)) d dd)
    (λ κs. ((λ block. value_of block.first ∷ []), (shr_vals, tt))) (λ κs. ((lowers (R E) (P E) g (param_laws 0 X L) (param_laws 1 U LU)).val_is, (shr_Tells (named 0) κs.0 (P E), tt))) (λ κs qs bounds a ghost are.
    let κ = κs.0 in let q = qs.0 in let block = a.0 in let at_handle = a.1.0.ref_ptr in let alloc = a.1.0.now in let s = sz E in let τ : Ty = block_ty E' block_slots in let bits = capped (align (elτ E)) in
    let y : (walk_of 𝓛 ended stays clauses).Ghost = ((κs, qs, bounds, a, (value_of block.first ∷ [], (shr_vals a.1.0, tt))), ghost) in let post : Val → SProp 𝓤 = (walk_of 𝓛 ended stays clauses).post y in
    let tokens : Fml = fsep (flft κs.1.0 qs.1.0) (fsep (flft κs.1.1.0 qs.1.1.0) ftrue) in
    qed 𝓛 (((‵ (flft κ q) ⊛ ‵ tokens) ⊛ ‵ (owns (types_at ended.signature.params κs) a y.0.4)) ∷ raw (fact 𝓤 (κs.1.0 ⊑ X.lives)) ∷ given (κs.1.1.0 ⊑ U.lives) (‵ ftrue) ∷ given ((block.items ≡ []) × (block.alloc ≡ alloc)) (‵ ftrue) ∷ []) ∵
    keep ! (2 ∷ 3 ∷ 0 ∷ []) $ learn ! (λ lives. drop ! $ learn ! (λ asked. drop ! $ split ! $ split ! $ move ! (2 ∷ []) $ fsplit ! $ taken E ! block (value_of block.first ∷ []) (λ b o at same fit.
    let few : length block.items ≤ block_slots = omega (arith, ap length asked.0) in let bytes : block_slots * s < 2 ^ 64 = omega arith in
    let call = at_gives Z 𝓛 𝓜.mem 𝓡.returns κ q at_handle alloc b o (block_slots * s) bits τ in
    use2 𝓛 (‵ (froom (ty_array (elτ E) block_slots) b o)) (all_room E 𝓛 b o (length block.items) block_slots block.items few) $ as_raw ! (ty_array (elτ E) block_slots) b o $
    rewrite ! 1 (λ handle. ‵ (token Z handle τ (block_ptr b o))) asked.1 refl $ move ! (2 ∷ []) $ fsplit ! $ fsplit ! $ keep ! (3 ∷ 4 ∷ 1 ∷ 5 ∷ 6 ∷ []) $
    enter ! 𝓣.C 𝓣.Λ fn (value_of block.first ∷ vptr at_handle.0 at_handle.1 ∷ []) post $ alloc_all ! (λ l. pass_all ! refl (value_good E block.first b o at, ((tt, tt), tt)) $ let locals = env fn.locals l in
    -- [the memory; the right to give it back; the `&` to the allocator; the
    -- token; the other tokens]
    sets ! (is ! (of_opd ! (get_in ! (fld ! refl (stop !)) (sub ! 0 refl (whole !)))) (ap ptr_val at)) refl (tt, tt) $ first ! $ blocks ! $ sets ! (of_opd ! (get ! refl)) refl (tt, tt) $
    sets ! (is ! (bin ! (lit ! tt) (size_word !) (record { fits = subst (λ k. k < 2 ^ 64) (sym (uncapped block_slots s bytes)) bytes })) (ap (vint w64) (uncapped block_slots s bytes))) refl (tt, record { fits = bytes }) $
    group ! 4 $ use1 𝓛 (raw ((Gives Z 𝓛 𝓜.mem 𝓡.returns).pre call))
    (Gives-goes Z 𝓛 𝓜.mem 𝓡.returns κ q at_handle alloc (Incl-trans bounds.0 lives) b o (block_slots * s) bits τ (block_size E' block_slots bytes) (block_align E' block_slots) bytes (capped_fits (align (elτ E)))) $
    calls_at_last ! (framed 𝓤 H 𝓜 𝓣) (Gives Z 𝓛 𝓜.mem 𝓡.returns) (met.deallocate dd) call (and_then ! (get ! refl) (and_then ! (get ! refl) (and_then ! (get ! refl) (and_then ! (align_word !) (no_more !))))) (λ v.
    use1 𝓛 (later (given (v ≡ vunit) (‵ (flft κ q)))) (Gives-Gives Z 𝓛 𝓜.mem 𝓡.returns κ q at_handle alloc b o (block_slots * s) bits τ v) $ await ! tt $ learn ! (λ given_back.
    lands_last ! refl (subst (λ u. T (has_ty ty_unit u) × WT u) (sym given_back) (tt, tt)) $ exec ! 𝓣.C 𝓣.Λ locals (after 2 fn.body) (at_ret locals post) $
    sets ! (of_opd ! (unit_lit !)) refl (tt, tt) $ returns ! (look_at ! 0 refl) $ free_all ! refl $
    join ! $ nothing ! $ feq_i ! _ (vunit ∷ []) (vunit ∷ []) refl $ nothing ! $ nothing ! $ nothing ! $ fjoin3 ! $
    keep ! (3 ∷ 0 ∷ 1 ∷ 2 ∷ []) $ by ! (leaves 𝓛 ended stays clauses y vunit tt (tt, (tt, tt)) (tt, (tt, tt))))))))))
