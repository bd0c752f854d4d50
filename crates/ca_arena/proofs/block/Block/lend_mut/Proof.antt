-- `lend_mut` lends one item, and the block follows it. Assumes `Logic`.
use Rattle.std.proofs.Common.{◌≡◌, ℕ, ◌+◌, ◌-◌, ◌*◌, ◌<◌, ◌^◌, List, [], ◌∷◌, Some, refl, sym, arith, length, length-set, get_or, set, slice_get, w64}
use base.Fraction.{full_share}
use base.Fml.{GName, Fml, ftrue, froom, fsep, flft}
use base.Logic.{SProp, ent, sep, emp}
use contract.BorrowLft.{◌⊑◌}
use contract.Monad.{fact, fact_i}
use contract.Running.{tables}
use mir.MapTy.{inst_fn}
use mir.Syntax.{named, ty_array}
use mir.Val.{Val, vint, vptr}
use seplogic.Ra.Ura.{Ura}
use types.ByLocal.{alloc_all, pass_all, free_all, look_at, get, through, sets, sets_last, env}
use types.Kit.{‵, raw, ◌⊛◌, some, given, later, await, at_ret, ◌$◌, ◌∵◌, !, qed, by, move, keep, drop, use0, use1, use2, split, split3, join, group, pick, learn, rewrite, fsplit, fsplit3, fjoin, fjoin3, fpack, done}
use types.Logic.{Logic, sem}
use types.Part.{whole, sub, look_in}
use types.Run.{stop, fld, load, addr, size_lit, of_opd, bin, first, blocks, exec, returns, enter}
use denote.Array.{Array}
use denote.Builtin.{RefMutOf, usize}
use denote.Exit.{yes, no}
use denote.Follow.{follows, lends_Part}
use denote.Index.{others}
use denote.Memory.{cell_at, mem, part_at, part_of, shares}
use denote.Plain.{uint_vals, uint_Tells}
use denote.RattleType.{owns}
use denote.RawPtr.{block_ptr}
use denote.Ref.{MutRef, mut_vals, mut_Tells}
use denote.Signature.{plain, types_at}
use denote.Steps.{nothing}
use denote.Triple.Walked.{Stays, stay_dropped, walk_of, Goes-dropped, Goes-spent_ref}
use Rattle.core.proofs.ptr.Rows.{times_below, one_below}
use Rattle.core.proofs.slots.Bodies.{after}
use Rattle.std.proofs.raw_atomic.Walks.{proved, leaves}
use Rattle.std_alloc.proofs.VecSteps.El.{El, R, args, el_x, elτ, sz}
use Rattle.std_alloc.proofs.VecSteps.Rows.{take_out, put_in}
use Rattle.ca_arena.specs.Block.{block_slots}
use Rattle.ca_arena.specs.BlockLending.{with_items}
use Rattle.ca_arena.specs.contracts.block.Block.lend_mut as promise
use Rattle.ca_arena.proofs.BlockParts.{Held, Row, item_of, made, opened, right_at, room_after, value_of}
use Rattle.ca_arena.proofs.block.Block.lend_mut.Statement.{statement}
use Rattle.ca_arena.proofs.block.Block.lend_mut.Code as code

module _ (E : El) (d : Held E) (i : ℕ) where
  -- the block with another item there
  abbrev changed : el_x E → Held E
  changed item = with_items d (set d.items i item)

  -- the block without the item
  abbrev Rest : (rb ro b o : ℕ) → Fml
  Rest rb ro b o = fsep (others (shares (R E)) full_share d.items i b o) (fsep (room_after E d b o) (fsep (right_at E d b o) (cell_at full_share (Row E).mir (value_of (block_ptr b o) ∷ []) rb ro)))

  back : {M : Type 1} {𝓤 : Ura M} (𝓛 : Logic 𝓤) (rb ro b o : ℕ) → d.first ≡ block_ptr b o → i < length d.items → block_slots * sz E < 2 ^ 63 → (item : el_x E)
      → ent 𝓤 (sep 𝓤 (sem 𝓛 ((mem (R E)).own_at item b (i * sz E + o))) (sem 𝓛 (Rest rb ro b o))) (sem 𝓛 ((mem (Row E)).own_at (changed item) rb ro))
  unfolding part_of
  back 𝓛 rb ro b o at within fit item =
      let n = length d.items in let items = set d.items i item in let long : n ≡ length items = sym (length-set d.items i item) in
      qed 𝓛 (‵ (part_at (R E) full_share item b (i * sz E + o)) ∷ ‵ (Rest rb ro b o) ∷ []) ∵ move ! (1 ∷ []) $ fsplit ! $ move ! (1 ∷ []) $ fsplit3 ! $ move ! (4 ∷ 3 ∷ []) $
      use2 𝓛 (‵ (part_at (Array (R E) n) full_share items b o)) (put_in E 𝓛 n d.items i item b o within refl) $
      rewrite ! 0 (λ k. ‵ (part_at (Array (R E) k) full_share items b o)) long refl $ rewrite ! 1 (λ k. ‵ (froom (ty_array (elτ E) (block_slots - k)) b (o + k * sz E))) long refl $
      made E ! (changed item) b o at fit $ move ! (1 ∷ 0 ∷ []) $ fjoin ! $ fpack ! (List Val) (λ us. fsep (cell_at full_share (Row E).mir us rb ro) ((Row E).own_val (changed item) us)) (value_of (block_ptr b o) ∷ []) $ done !

pub lend_mut_spec : {M : Type 1} → statement M
lend_mut_spec 𝓤 𝓛 𝓜 𝓡 wired X U L LU g d dd met _ =
    let E : El = record { row = X; laws = L; al = record { row = U; laws = LU; g = g; d = d; drops = dd } } in
    let H = 𝓛.H in let 𝓣 = tables 𝓤 H 𝓜 𝓡 𝓡.env in let fn = inst_fn (args E) code.function in
    let ended = promise.ended X U g d dd in let clauses = promise.clauses X U g d dd 𝓛 𝓜.mem 𝓡.returns in
    let self = RefMutOf (0 ∷ []) tt (plain (λ _. Row E)) (λ _. tt) in let word = plain (λ _. usize) in
    let stays : Stays ended.signature.params ended.kept = (stay_dropped self no, (stay_dropped word yes, tt)) in
    proved 𝓛 ended stays clauses 𝓜 𝓡 (Goes-spent_ref 𝓛 3 (0 ∷ []) tt (plain (λ _. Row E)), (Goes-dropped 𝓛 3 word yes (λ κs x f. refl), tt)) (promise.Key.name (args E)) fn (code.unfolded 𝓤 H 𝓜 𝓡 wired (X, (U, tt)) d dd)
    (λ κs. (mut_vals, (uint_vals w64, tt))) (λ κs. (mut_Tells (named 0) κs.0 (Row E), (uint_Tells w64, tt))) (λ κs qs bounds a ghost are.
    let κ = κs.0 in let q = qs.0 in let rb = a.0.ref_ptr.0 in let ro = a.0.ref_ptr.1 in let γ = a.0.ghost_name in let block = a.0.now in let i = a.1.0 in let s = sz E in let n = length block.items in
    let y : (walk_of 𝓛 ended stays clauses).Ghost = ((κs, qs, bounds, a, (mut_vals a.0, (uint_vals w64 i, tt))), ghost) in
    let post : Val → SProp 𝓤 = (walk_of 𝓛 ended stays clauses).post y in
    let tokens : Fml = fsep (flft κs.1.0 qs.1.0) (fsep (flft κs.1.1.0 qs.1.1.0) ftrue) in
    qed 𝓛 (((‵ (flft κ q) ⊛ ‵ tokens) ⊛ ‵ (owns (types_at ended.signature.params κs) a y.0.4)) ∷ raw (fact 𝓤 (κs.1.0 ⊑ X.lives)) ∷ raw (fact 𝓤 (κs.1.1.0 ⊑ U.lives)) ∷ given ((i < n) × (i < block_slots)) (‵ ftrue) ∷ []) ∵
    keep ! (3 ∷ 0 ∷ []) $ learn ! (λ asked. drop ! $
    let found = item_of block.items i asked.0 in let x = found.0 in let within = asked.0 in let below = asked.1 in
    split ! $ split ! $ move ! (2 ∷ []) $ fsplit ! $ fsplit3 ! $ keep ! (1 ∷ 2 ∷ 4 ∷ 5 ∷ []) $
    enter ! 𝓣.C 𝓣.Λ fn (vptr rb ro ∷ vint w64 i ∷ []) post $ alloc_all ! (λ l. pass_all ! refl ((tt, tt), ((tt, record { fits = are.1.0.1 }), tt)) $
    opened E ! tt block rb ro (λ b o at fit.
    let tiny : s < 2 ^ 64 = omega (arith, one_below block_slots s (2 ^ 63) (omega arith) fit) in
    let far : i * s < 2 ^ 64 = omega (arith, times_below i block_slots s (2 ^ 63) (omega arith) fit) in
    let place = i * s + o in let new = changed E block i in let rest = Rest E block i rb ro b o in
    -- [the items; the room after them; the right to free; the cell; the open borrow; obs;
    -- auth; the other tokens]
    first ! $ blocks ! $ sets ! (of_opd ! (load ! (through ! refl (fld ! refl (stop !))) (look_in ! 3 (sub ! 0 refl (whole !))))) refl (tt, tt) $
    sets ! (bin ! (get ! refl) (size_lit ! (record { fits = tiny })) (record { fits = far })) refl (tt, record { fits = far }) $
    sets ! (bin ! (get ! refl) (get ! refl) tt) refl (tt, tt) $ sets_last ! (addr ! (through ! refl (stop !))) refl (tt, tt) $
    exec ! 𝓣.C 𝓣.Λ (env fn.locals l) (after 1 fn.body) (at_ret (env fn.locals l) post) $ sets ! (of_opd ! (get ! refl)) refl (tt, tt) $
    use1 𝓛 (given (n ≡ n) (‵ (part_at (R E) full_share (get_or block.items i x) b place) ⊛ ‵ (others (shares (R E)) full_share block.items i b o))) (take_out E 𝓛 n block.items i x b o within) $ learn ! (λ _. split ! $
    rewrite ! 0 (λ item. ‵ (part_at (R E) full_share item b place)) found.2 refl $
    move ! (2 ∷ 3 ∷ 4 ∷ []) $ fjoin3 ! $ move ! (2 ∷ 0 ∷ []) $ fjoin ! $ move ! (2 ∷ 3 ∷ 4 ∷ 1 ∷ 0 ∷ []) $ group ! 5 $
    use1 𝓛 (later (some (λ (δ : GName). ‵ ((MutRef (named 0) κ (R E)).own_val (record { ref_ptr = (b, place); ghost_name = δ; now = x }) (vptr b place ∷ [])) ⊛ ‵ (flft κ q) ⊛ ‵ (follows (Row E) (R E) γ δ new))))
    (lends_Part 𝓛 (Row E) (R E) new (named 0) κ q rb ro b place γ (sem 𝓛 rest) (back E block i 𝓛 rb ro b o at within fit) ((Row E).coded.code block) ((Row E).coded.code block) x) $
    await ! tt $ pick ! (λ δ. split3 ! $ returns ! (look_at ! 0 refl) $ free_all ! refl $
    -- [the item; the token; how the block follows; the other tokens]
    move ! (1 ∷ 3 ∷ []) $ join ! $ use0 𝓛 (raw (fact 𝓤 (slice_get block.items i ≡ Some x))) (fact_i 𝓤 _ (emp 𝓤) found.1) $ move ! (3 ∷ 0 ∷ []) $ join ! $ nothing ! $ nothing ! $ nothing ! $ fjoin3 ! $
    keep ! (2 ∷ 0 ∷ 3 ∷ 1 ∷ []) $ by ! (leaves 𝓛 ended stays clauses y (vptr b place) (record { ref_ptr = (b, place); ghost_name = δ; now = x }) (tt, (tt, tt)) (tt, (tt, tt)))))))))
