-- `write` puts an item into the first slot that has none. Assumes `Logic`.
use Rattle.std.proofs.Common.{◌≡◌, ◌+◌, ◌-◌, ◌*◌, ◌<◌, ◌^◌, [], ◌∷◌, ◌++◌, refl, sym, subst, arith, length, w64}
use Rattle.std.proofs.lemmas.List.{length_push}
use base.Fraction.{full_share}
use base.Fml.{Fml, ftrue, froom, fsep, flft}
use base.Logic.{SProp, ent, emp}
use contract.BorrowLft.{◌⊑◌}
use contract.Monad.{fact, fact_i}
use contract.Running.{tables}
use mir.MapTy.{inst_fn}
use mir.Syntax.{ty_array}
use mir.Val.{Val, vint, vptr, vunit}
use prog.Wp.{WpFn}
use types.ByLocal.{alloc_all, pass_all, free_all, look_at, get, through, sets, env}
use types.Kit.{‵, raw, ◌⊛◌, given, at_ret, ◌$◌, ◌∵◌, !, qed, by, move, keep, drop, use0, use1, use2, split, join, learn, rewrite, fsplit, fsplit3, fjoin, fjoin3, feq_i}
use types.Part.{whole, sub, look_in}
use types.Run.{init, stop, fld, load, unit_lit, size_lit, of_opd, bin, assigns_last, first, blocks, exec, returns, enter}
use denote.Array.{Array}
use denote.Builtin.{usize}
use denote.Exit.{yes, no}
use denote.Memory.{part_at}
use denote.RattleType.{owns}
use denote.Signature.{plain, types_at}
use denote.Steps.{nothing}
use denote.Triple.Entry.{Vals}
use denote.Triple.Walked.{Stays, stay_dropped, stay_ref, walk_of, Goes-dropped, Goes-ref}
use Rattle.core.proofs.mem.Param as param
use Rattle.core.proofs.ptr.Rows.{times_below, one_below}
use Rattle.core.proofs.slots.Bodies.{after}
use Rattle.std.proofs.raw_atomic.Walks.{proved_at, leaves}
use Rattle.std_alloc.proofs.VecSteps.El.{El, Good, R, args, elτ, sz}
use Rattle.std_alloc.proofs.VecSteps.Rows.{el_in, snoc, spare}
use Rattle.ca_arena.specs.Block.{block_slots}
use Rattle.ca_arena.specs.BlockLending.{with_items}
use Rattle.ca_arena.specs.contracts.block.Block.write as promise
use Rattle.ca_arena.proofs.BlockParts.{Held, Row, closed, opened}
use Rattle.ca_arena.proofs.block.Block.write.Statement.{statement}
use Rattle.ca_arena.proofs.block.Block.write.Code as code

pub write_spec : {M : Type 1} → statement M
write_spec 𝓤 𝓛 𝓜 𝓡 wired X U L LU g d dd met _ =
    let E : El = record { row = X; laws = L; al = record { row = U; laws = LU; g = g; d = d; drops = dd } } in let E' : param.El = record { row = X; laws = L } in
    let H = 𝓛.H in let 𝓣 = tables 𝓤 H 𝓜 𝓡 𝓡.env in let fn = inst_fn (args E) code.function in
    let ended = promise.ended X U g d dd in let clauses = promise.clauses X U g d dd 𝓛 𝓜.mem 𝓡.returns in
    let word = plain (λ _. usize) in let value = plain (λ _. R E) in
    let stays : Stays ended.signature.params ended.kept = (stay_ref (0 ∷ []) tt (plain (λ _. Row E)), (stay_dropped word yes, (stay_dropped value no, tt))) in
    let Bound = (walk_of 𝓛 ended stays clauses).Ghost in
    let Goes : Bound → Type 1 = λ y. ent 𝓤 ((walk_of 𝓛 ended stays clauses).pre y) (WpFn 𝓤 H 𝓣.C 𝓣.Λ fn ((walk_of 𝓛 ended stays clauses).args y) ((walk_of 𝓛 ended stays clauses).post y)) in
    let at : (z : Bound) → Vals ended.signature z.0.0 → Bound = λ z vss. ((z.0.0, z.0.1, z.0.2, z.0.3, vss), z.1) in
    let walk : (z : Bound) (v : Val) → z.0.3.1.0 < 2 ^ 64 → Good E v → Goes (at z (vptr z.0.3.0.ref_ptr.0 z.0.3.0.ref_ptr.1 ∷ [], (vint w64 z.0.3.1.0 ∷ [], (v ∷ [], tt)))) = λ z v fits good.
    let κs = z.0.0 in let qs = z.0.1 in let a = z.0.3 in let κ = κs.0 in let rb = a.0.ref_ptr.0 in let ro = a.0.ref_ptr.1 in let block = a.0.now in let i = a.1.0 in let item = a.1.1.0 in
    let s = sz E in let n = length block.items in let items = block.items ++ item ∷ [] in let new : Held E = with_items block items in
    let y = at z (vptr rb ro ∷ [], (vint w64 i ∷ [], (v ∷ [], tt))) in let post : Val → SProp 𝓤 = (walk_of 𝓛 ended stays clauses).post y in
    let tokens : Fml = fsep (flft κs.1.0 qs.1.0) (fsep (flft κs.1.1.0 qs.1.1.0) ftrue) in
    qed 𝓛 (((‵ (flft κ qs.0) ⊛ ‵ tokens) ⊛ ‵ (owns (types_at ended.signature.params κs) a y.0.4)) ∷ raw (fact 𝓤 (κs.1.0 ⊑ X.lives)) ∷ raw (fact 𝓤 (κs.1.1.0 ⊑ U.lives)) ∷ given ((i ≡ n) × (i < block_slots)) (‵ ftrue) ∷ []) ∵
    keep ! (3 ∷ 0 ∷ []) $ learn ! (λ asked. drop ! $ let less : n < block_slots = omega (arith, asked.0, asked.1) in let long : n + 1 ≡ length items = omega (arith, length_push block.items item) in
    split ! $ split ! $ move ! (2 ∷ []) $ fsplit ! $ fsplit3 ! $ move ! (3 ∷ []) $ fsplit ! $ move ! (1 ∷ []) $ fsplit ! $ keep ! (4 ∷ 5 ∷ 6 ∷ 0 ∷ 7 ∷ []) $
    enter ! 𝓣.C 𝓣.Λ fn (vptr rb ro ∷ vint w64 i ∷ v ∷ []) post $ alloc_all ! (λ l. pass_all ! refl ((tt, tt), ((tt, record { fits = fits }), (good, tt))) $
    opened E ! tt block rb ro (λ b o at_first fit.
    let tiny : s < 2 ^ 64 = omega (arith, one_below block_slots s (2 ^ 63) (omega arith) fit) in
    let far : i * s < 2 ^ 64 = omega (arith, times_below i block_slots s (2 ^ 63) (omega arith) fit) in
    move ! (1 ∷ []) $ use1 𝓛 (‵ (froom (elτ E) b (n * s + o)) ⊛ ‵ (froom (ty_array (elτ E) (block_slots - (n + 1))) b (o + (n + 1) * s))) (spare E 𝓛 b o n block_slots less) $ split ! $
    rewrite ! 0 (λ k. ‵ (froom (elτ E) b (k * s + o))) (sym asked.0) refl $
    -- [the slot; the room after it; the items; the right to free; the cell; the open borrow; obs;
    -- auth; what is owned of the item; the other tokens]
    first ! $ blocks ! $ sets ! (of_opd ! (load ! (through ! refl (fld ! refl (stop !))) (look_in ! 4 (sub ! 0 refl (whole !))))) refl (tt, tt) $
    sets ! (bin ! (get ! refl) (size_lit ! (record { fits = tiny })) (record { fits = far })) refl (tt, record { fits = far }) $
    sets ! (bin ! (get ! refl) (get ! refl) tt) refl (tt, tt) $ sets ! (of_opd ! (get ! refl)) refl good $ assigns_last ! (of_opd ! (get ! refl)) (through ! refl (stop !)) (init ! 0 refl good) $
    exec ! 𝓣.C 𝓣.Λ (env fn.locals l) (after 1 fn.body) (at_ret (env fn.locals l) post) $ sets ! (of_opd ! (unit_lit !)) refl (tt, tt) $
    move ! (0 ∷ 8 ∷ []) $ use2 𝓛 (‵ (part_at (R E) full_share item b (i * s + o))) (el_in E 𝓛 full_share item b (i * s + o) v) $
    rewrite ! 0 (λ k. ‵ (part_at (R E) full_share item b (k * s + o))) asked.0 refl $ move ! (2 ∷ 0 ∷ []) $ use2 𝓛 (‵ (part_at (Array (R E) (n + 1)) full_share items b o)) (snoc E 𝓛 b o n block.items item) $
    rewrite ! 0 (λ k. ‵ (part_at (Array (R E) k) full_share items b o)) long refl $ rewrite ! 1 (λ k. ‵ (froom (ty_array (elτ E) (block_slots - k)) b (o + k * s))) long refl $
    closed E ! tt new b o rb ro at_first fit $ returns ! (look_at ! 0 refl) $ free_all ! refl $
    -- [the reference, in two parts; the token; the other tokens]
    feq_i ! _ (vptr rb ro ∷ []) (vptr rb ro ∷ []) refl $ fjoin3 ! $ nothing ! $ nothing ! $ nothing ! $ fjoin3 ! $ move ! (1 ∷ 0 ∷ []) $ fjoin ! $ move ! (1 ∷ 2 ∷ []) $ join ! $
    feq_i ! _ (vunit ∷ []) (vunit ∷ []) refl $ use0 𝓛 (raw (fact 𝓤 (new ≡ with_items block items))) (fact_i 𝓤 _ (emp 𝓤) refl) $
    keep ! (2 ∷ 3 ∷ 1 ∷ 0 ∷ []) $ by ! (leaves 𝓛 ended stays clauses y vunit tt (new, (tt, (tt, tt))) (tt, (tt, (tt, tt))))))) in
    proved_at 𝓛 ended stays clauses 𝓜 𝓡 (Goes-ref 𝓛 3 0 tt (plain (λ _. Row E)), (Goes-dropped 𝓛 3 word yes (λ κs x f. refl), (Goes-dropped 𝓛 3 value no (λ κs x f. refl), tt))) (promise.Key.name (args E)) fn (code.unfolded 𝓤 H 𝓜 𝓡 wired (X, (U, tt)) d dd)
    (λ z are. let one = param.one E' z.0.4.1.1.0 ((param.lawful E' 𝓛).typed z.0.3.1.1.0 z.0.4.1.1.0 are.1.1.0) in
    subst (λ (vss : Vals ended.signature z.0.0). Goes (at z vss)) (sym (λ k. (are.0.0 k, (are.1.0.0 k, (one.1 k, tt))))) (walk z one.0 are.1.0.1 one.2))
