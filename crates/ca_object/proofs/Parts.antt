-- What is owned of an object, taken apart and made, for walks. Assumes `Logic`.
--     taken, made      what is owned of it: its one machine value, and what is at its pointer
--     is_there         a pointer is null where there is no object, and else may
--         be compared with null
use Rattle.std.proofs.Common.{◌≡◌, ℕ, ◌<◌, ◌^◌, Option, None, Some, List, [], ◌∷◌, ◌++◌, refl, sym, ◌∙◌, subst, lit<, T}
use seplogic.Ra.Ura.{Ura}
use base.Fraction.{full_share}
use base.Logic.{SProp, ent, guard_i, via, snd∗, fst∗, never}
use contract.Monad.{fact, fact_mono, fact_use}
use mir.Raw.{raw as header_only}
use mir.Val.{Val, vstruct, vcons, vnil, of_list, has_ty, WT}
use types.Kit.{Goal, Item, Seq, Step, step, given, ‵, ◌$◌, drop, use1, learn, fsplit, fjoin, fpick, feq_l}
use types.Logic.{Logic, sem}
use denote.Memory.{lone}
use denote.Param.{layout}
use denote.RattleType.{RattleType}
use denote.RawPtr.{Ptr, Testable, block_ptr, count_of, in_a_block, lies_at, null_ptr, ptr_val}
use denote.Shadow.{pure_i}
use denote.Struct.Owning.{shape}
use denote.Struct.Struct.{Struct}
use Rattle.libc.specs.Heap.{chunk, chunk_start}
use Rattle.std_alloc.specs.Box.Ownership.{box_owns}
use Rattle.ca_object.specs.Owning.{owns_object}
use Rattle.ca_object.specs.declared.object.Object.{Object}
use Rattle.ca_object.specs.contracts.object.Object as object

abbrev pub value_of : Ptr → Val
value_of at = vstruct (vcons (ptr_val at) vnil)

module _ (R : RattleType) where
  abbrev pub Row : RattleType
  Row = object.the_row R

  -- the field that the machine sees
  abbrev pub Word : RattleType
  Word = Struct (shape (object.the_type R))

  pub value_good : (p : Ptr) → T (has_ty (layout Row) (value_of p)) × WT (value_of p)
  value_good (block_ptr b o) = (tt, (tt, tt))
  value_good null_ptr = (tt, (record { fits = lit< tt }, tt))

  module _ {M : Type 1} {𝓤 : Ura M} {𝓛 : Logic 𝓤} {K : Type 0} {Γ : List (Item 𝓤)} {G : Goal 𝓤 𝓛.H} where
    pub taken : K → (o : Object R.Denot) (vs : List Val) → (vs ≡ value_of o.at ∷ [] → Seq K 𝓛 (‵ (owns_object R o.at o.value) ∷ Γ) G) → Seq K 𝓛 (‵ (Row.own_val o vs) ∷ Γ) G
    taken t o vs k = fsplit t $ fpick t (λ fields. fsplit t $ feq_l t (λ whole. fsplit t $ feq_l t (λ pointer. drop t $ k (whole ∙ (λ i. vstruct (of_list (pointer i ++ [])) ∷ [])))))

    pub made : K → (o : Object R.Denot) → Step K 𝓛 (‵ (Row.own_val o (value_of o.at ∷ [])) ∷ Γ) G (‵ (owns_object R o.at o.value) ∷ Γ) G
    made t o = step (λ s.
        pure_i t (Word.own_val (o.at, tt) (value_of o.at ∷ [])) (λ fields. (tt, (tt, tt))) ((ptr_val o.at ∷ [], tt), (refl, (refl, tt))) $ fjoin t $ s)

    -- [what the box at the pointer owns], where there is one
    pub is_there : K → (p : Ptr) (v : Option R.Denot) → (p ≡ null_ptr → v ≡ None → Seq K 𝓛 Γ G)
        → ((b o : ℕ) (x : R.Denot) → p ≡ block_ptr b o → v ≡ Some x → Testable (block_ptr b o) → Seq K 𝓛 (‵ (box_owns chunk R (block_ptr b o) x) ∷ Γ) G)
        → Seq K 𝓛 (‵ (owns_object R p v) ∷ Γ) G
    is_there t p None none one = feq_l t (λ at. none at refl)
    is_there t p (Some x) none one = let ty = header_only (lone R.mir) in
        in_a_block t p (λ q. box_owns chunk R q x) (fst∗ 𝓤 (never 𝓤) (sem 𝓛 (chunk ty null_ptr))) (λ b o at. let q = block_ptr b o in let owned : SProp 𝓤 = sem 𝓛 (box_owns chunk R q x) in
        let start : ent 𝓤 owned (fact 𝓤 (count_of q ≡ 0)) = via 𝓤 _ (snd∗ 𝓤 (sem 𝓛 (lies_at R full_share q x)) (sem 𝓛 (chunk ty q))) (chunk_start 𝓛 ty q) in
        let tested : ent 𝓤 owned (fact 𝓤 (Testable q)) = via 𝓤 _ start (fact_mono 𝓤 (count_of q ≡ 0) (Testable q) (λ none. subst (λ (n : ℕ). n < 2 ^ 63) (sym none) (lit< tt))) in
        use1 𝓛 (given (Testable q) (‵ (box_owns chunk R q x))) (fact_use 𝓤 (Testable q) tested (guard_i 𝓤 (Testable q) owned)) $ learn t (λ test. one b o x at refl test))
