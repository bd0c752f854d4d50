-- What is owned of a block and what a `&` to one shows, taken apart and made, for
-- walks. Assumes `Logic`.
--     items_at, room_after, right_at      the parts of what a block owns, at the place
--         where its first slot is
--     taken, made      what is owned of a block: its one machine value, and the parts
--     opened, closed      the same of a `&mut`
--     item_of      the item at an index that there is
--     shown, none_at_null, item_shown      what a `&` holds: the pointer and the items, which do
--         not lie at null; one of them
use Rattle.std.proofs.Common.{◌≡◌, ℕ, ◌+◌, ◌-◌, ◌*◌, ◌<◌, ◌^◌, zero, suc, List, [], ◌∷◌, ◌++◌, length, get_or, slice_get, Some, refl, sym, ap, ◌∙◌, subst, arith, T}
use base.Fraction.{full_share}
use base.Fml.{Lft, GName, Share, Fml, fsep, flt, flft, froom, fobs, fauth, fbor, fobor, fhide}
use base.Logic.{ent, sep, id⊢, never}
use base.Stored.{Gv}
use mir.Raw.{raw as header_only}
use mir.Syntax.{ty_array}
use mir.Val.{Val, vptr, vstruct, vcons, vnil, of_list, has_ty, WT}
use seplogic.Ra.Ura.{Ura}
use types.Kit.{Goal, Item, Seq, Soaks, Step, step, ‵, ◌⊛◌, ◌$◌, ◌∵◌, !, qed, move, keep, drop, use1, split, rewrite, fsplit, fjoin, fpick, feq_l, flt_l, flt_i, done}
use types.Logic.{Logic, sem}
use types.SemTy.{Body}
use denote.Array.{Array}
use borrow.Table.Elements.{at, at_mul}
use borrow.Table.SharedPart.{each-one}
use denote.Memory.{cell_at, hidden_shr, mem, part_at, shared_of}
use denote.Opens.{unhide}
use denote.Param.{layout}
use denote.RattleType.{RattleType}
use denote.RawPtr.{Ptr, RawPtr, block_ptr, in_a_block, in_block, null_ptr, ptr_val}
use denote.Shadow.{pure_i}
use denote.Steps.{closes, opens}
use denote.Struct.Lending.{lent_at}
use denote.Struct.Owning.{Owning, shape}
use denote.Struct.Struct.{Struct}
use Rattle.core.specs.Allocator.{block_with_items}
use Rattle.core.proofs.alloc.Calls.{token}
use Rattle.std_alloc.proofs.RawLayout.{as_raw, as_written}
use Rattle.std_alloc.proofs.VecSteps.El.{El, el_x, elτ, sz, Hd, R, P}
use Rattle.ca_arena.specs.Block.{block_slots, lends_slots, owns_slots}
use Rattle.ca_arena.specs.declared.block.Block.{Block}
use Rattle.ca_arena.specs.contracts.block.Block as block

abbrev pub value_of : Ptr → Val
value_of first = vstruct (vcons (ptr_val first) (vcons (vstruct vnil) vnil))

module _ (E : El) where
  abbrev type : Owning
  type = block.the_type (R E) (P E) E.al.g

  abbrev pub Row : RattleType
  Row = block.the_row (R E) (P E) E.al.g

  abbrev pub Held : Type 0
  Held = Block (el_x E) (Hd E)

  -- the two fields that the machine sees
  abbrev pub Words : RattleType
  Words = Struct (shape type)

  abbrev pub items_at : Held → ℕ → ℕ → Fml
  items_at d b o = part_at (Array (R E) (length d.items)) full_share d.items b o

  abbrev pub room_after : Held → ℕ → ℕ → Fml
  room_after d b o = froom (ty_array (elτ E) (block_slots - length d.items)) b (o + length d.items * sz E)

  abbrev pub right_at : Held → ℕ → ℕ → Fml
  right_at d b o = token E.al d.alloc (header_only (ty_array (elτ E) block_slots)) (block_ptr b o)

pub value_good : (E : El) (p : Ptr) (b o : ℕ) → p ≡ block_ptr b o → T (has_ty (layout (Row E)) (value_of p)) × WT (value_of p)
value_good E p b o at = subst (λ r. T (has_ty (layout (Row E)) (value_of r)) × WT (value_of r)) (sym at) (tt, (tt, (tt, tt)))

module _ (E : El) {M : Type 1} {𝓤 : Ura M} {𝓛 : Logic 𝓤} {K : Type 0} {Γ : List (Item 𝓤)} {G : Goal 𝓤 𝓛.H} where
  -- [the items; the room after them; the right to free]
  pub taken : K → (d : Held E) (vs : List Val)
      → ((b o : ℕ) → d.first ≡ block_ptr b o → vs ≡ value_of (block_ptr b o) ∷ [] → block_slots * sz E < 2 ^ 63 → Seq K 𝓛 (‵ (items_at E d b o) ∷ ‵ (room_after E d b o) ∷ ‵ (right_at E d b o) ∷ Γ) G)
      → Seq K 𝓛 (‵ ((Row E).own_val d vs) ∷ Γ) G
  taken t d vs k =
      fsplit t $ fpick t (λ fields. fsplit t $ feq_l t (λ whole. fsplit t $ feq_l t (λ pointer. fsplit t $ fpick t (λ none. fsplit t $ feq_l t (λ mark. drop t $ drop t $
      fsplit t $ flt_l t (λ fit. in_a_block t d.first (λ p. in_block p (block_with_items (token E.al d.alloc) (R E) p (length d.items) block_slots d.items)) (id⊢ 𝓤 (never 𝓤)) (λ b o at.
      fsplit t $ move t (1 ∷ []) $ fsplit t $ as_written t (ty_array (elτ E) (block_slots - length d.items)) b (o + length d.items * sz E) $ move t (2 ∷ 0 ∷ 1 ∷ []) $
      k b o at (whole ∙ ((λ i. vstruct (of_list (pointer i ++ (mark i ++ []))) ∷ []) ∙ ap (λ p. value_of p ∷ []) at)) fit)))))))

  pub made : K → (d : Held E) (b o : ℕ) → d.first ≡ block_ptr b o → block_slots * sz E < 2 ^ 63
      → Step K 𝓛 (‵ ((Row E).own_val d (value_of (block_ptr b o) ∷ [])) ∷ Γ) G (‵ (items_at E d b o) ∷ ‵ (room_after E d b o) ∷ ‵ (right_at E d b o) ∷ Γ) G
  made t d b o at fit = step (λ s.
      move t (1 ∷ 2 ∷ []) $ as_raw t (ty_array (elτ E) (block_slots - length d.items)) b (o + length d.items * sz E) $ fjoin t $ move t (1 ∷ 0 ∷ []) $ fjoin t $
      flt_i t (block_slots * sz E) (2 ^ 63) fit $ fjoin t $
      pure_i t ((Words E).own_val (block_ptr b o, (tt, tt)) (value_of (block_ptr b o) ∷ [])) (λ fields. (tt, (tt, ((λ none. (tt, tt)), tt)))) ((vptr b o ∷ [], (vstruct vnil ∷ [], tt)), (refl, (refl, ((tt, (refl, tt)), tt)))) $
      fjoin t $ rewrite t 0 (λ p. ‵ (fsep ((Words E).own_val (p, (tt, tt)) (value_of (block_ptr b o) ∷ [])) (owns_slots (R E) (token E.al d.alloc) p d.items))) (sym at) refl $ s)

module _ (E : El) {M : Type 1} {𝓤 : Ura M} {𝓛 : Logic 𝓤} {K : Type 0} {Γ : List (Item 𝓤)} {G : Goal 𝓤 𝓛.H} where
  -- [the items; the room after them; the right to free; the block's cell; the
  -- open borrow; obs; auth]
  pub opened : K → Soaks G → {κ : Lft} {q : Share} {γ : GName} (d : Held E) (rb ro : ℕ)
      → ((b o : ℕ) → d.first ≡ block_ptr b o → block_slots * sz E < 2 ^ 63
      → Seq K 𝓛 (‵ (items_at E d b o) ∷ ‵ (room_after E d b o) ∷ ‵ (right_at E d b o) ∷ ‵ (cell_at full_share (Row E).mir (value_of (block_ptr b o) ∷ []) rb ro) ∷ ‵ (fobor κ q (Body (mem (Row E)) rb ro γ)) ∷ ‵ (fobs γ ((Row E).coded.code d)) ∷ ‵ (fauth γ ((Row E).coded.code d)) ∷ Γ) G)
      → Seq K 𝓛 (‵ (fobs γ ((Row E).coded.code d)) ∷ ‵ (fbor κ (Body (mem (Row E)) rb ro γ)) ∷ ‵ (flft κ q) ∷ Γ) G
  opened t z d rb ro k =
      opens t z (Row E) {h = d} rb ro (λ vs. move t (1 ∷ []) $ taken E t d vs (λ b o at is fit. rewrite t 3 (λ us. ‵ (cell_at full_share (Row E).mir us rb ro)) is refl $ k b o at fit))

  pub closed : K → Soaks G → {κ : Lft} {q : Share} {u v : Gv} {γ : GName} (d : Held E) (b o rb ro : ℕ) → d.first ≡ block_ptr b o → block_slots * sz E < 2 ^ 63
      → Step K 𝓛 (‵ (fobs γ ((Row E).coded.code d)) ∷ ‵ (fbor κ (Body (mem (Row E)) rb ro γ)) ∷ ‵ (flft κ q) ∷ Γ) G
      (‵ (items_at E d b o) ∷ ‵ (room_after E d b o) ∷ ‵ (right_at E d b o) ∷ ‵ (cell_at full_share (Row E).mir (value_of (block_ptr b o) ∷ []) rb ro) ∷ ‵ (fobor κ q (Body (mem (Row E)) rb ro γ)) ∷ ‵ (fobs γ u) ∷ ‵ (fauth γ v) ∷ Γ) G
  closed t z d b o rb ro at fit = step (λ s. made E t d b o at fit $ move t (1 ∷ 0 ∷ []) $ closes t z (Row E) d (value_of (block_ptr b o) ∷ []) rb ro $ s)

-- the item at an index that there is
pub item_of : {X : Type 0} (items : List X) (index : ℕ) → index < length items → (item : X) × (slice_get items index ≡ Some item) × (get_or items index item ≡ item)
item_of [] index within = absurd (omega arith)
item_of (item ∷ items) zero within = (item, refl, refl)
item_of (_ ∷ items) (suc index) within = item_of items index (omega arith)

module _ (E : El) {M : Type 1} {𝓤 : Ura M} (𝓛 : Logic 𝓤) (κ : Lft) where
  -- [the pointer; the bound on the size; the items]
  pub shown : (d : Held E) (rb ro : ℕ) → ent 𝓤 (sem 𝓛 (hidden_shr (Row E) κ d rb ro))
      (sep 𝓤 (sem 𝓛 (hidden_shr RawPtr κ d.first rb (ro + 0))) (sep 𝓤 (sem 𝓛 (flt (block_slots * sz E) (2 ^ 63))) (sem 𝓛 (lent_at (Array (R E) (length d.items)) d.first d.items κ))))
  shown d rb ro = qed 𝓛 (‵ (hidden_shr (Row E) κ d rb ro) ∷ []) ∵
      use1 𝓛 (‵ (hidden_shr (Words E) κ (d.first, (tt, tt)) rb ro) ⊛ ‵ (fhide (lends_slots (R E) d.first d.items κ))) (id⊢ 𝓤 _) $ split ! $ unhide ! $ fsplit ! $ fsplit ! $ keep ! (0 ∷ 3 ∷ []) $ done !

  pub none_at_null : (items : List (el_x E)) → ent 𝓤 (sem 𝓛 (lent_at (Array (R E) (length items)) null_ptr items κ)) (never 𝓤)
  none_at_null items = qed 𝓛 (‵ (lent_at (Array (R E) (length items)) null_ptr items κ) ∷ []) ∵ fsplit ! $ keep ! (0 ∷ []) $ done !

  pub item_shown : (items : List (el_x E)) (i : ℕ) (d : el_x E) (b o : ℕ) → i < length items
      → ent 𝓤 (sem 𝓛 (lent_at (Array (R E) (length items)) (block_ptr b o) items κ)) (sem 𝓛 (hidden_shr (R E) κ (get_or items i d) b (i * sz E + o)))
  item_shown items i d b o within = qed 𝓛 (‵ (lent_at (Array (R E) (length items)) (block_ptr b o) items κ) ∷ []) ∵ fsplit ! $ drop ! $ fsplit ! $ drop ! $
      use1 𝓛 (‵ (hidden_shr (R E) κ (get_or items i d) b (at o (sz E) i))) (each-one 𝓛 (shared_of (R E)) (sz E) κ b items i d o within) $
      rewrite ! 0 (λ place. ‵ (hidden_shr (R E) κ (get_or items i d) b place)) (at_mul o (sz E) i) refl $ done !
