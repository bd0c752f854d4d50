-- A `&` to a block reaches each of its items. Assumes `Logic`.
use Rattle.std.proofs.Common.{List, [], ◌++◌, length, sym, subst}
use base.Fraction.{full_share}
use base.Fml.{Fml, Lft, Incl, Incl-trans}
use contract.BorrowLft.{meet_⊑_left}
use mir.Syntax.{Ty}
use seplogic.Ra.Ura.{Ura}
use types.Logic.{Logic}
use denote.Array.{Array, Array-row_laws}
use denote.ArrayMemory.{Single}
use denote.Param.Laws.{Laws}
use denote.Param.Shared.{copy_shared}
use denote.RattleType.{RattleType}
use denote.RawPtr.{Ptr, block_ptr, null_ptr, lies_at, in_block}
use denote.Shares.{Shares-Array, Shares-less}
use denote.Sharing.{ShrLaws, said}
use denote.SharingLaws.{beside_shr_laws, said_shr_laws}
use denote.Struct.Field.{RawPtr-field}
use denote.Struct.Laws.{RawPtr-copy, field_copy}
use denote.Struct.Lending.{lent_at, lent_at_shr_laws, Lends, Lends-both, Lends-false, Lends-first, Lends-lies, Lends-said, of_Lends}
use Rattle.core.specs.Allocator.{block_with_items}
use Rattle.core.specs.declared.alloc.Allocator.{Ghosts}
use Rattle.core.specs.contracts.marker.PhantomData as mark
use Rattle.ca_arena.specs.Block.{block_slots, slots_fit, owns_slots, lends_slots}
use Rattle.ca_arena.specs.contracts.block.Block as block
use Rattle.ca_arena.proofs.block.Block.TheLaw.Statement.{statement}

module _ (R : RattleType) (L : Laws R) (items : List R.Denot) where
  abbrev Row : RattleType
  Row = Array R (length items)

  lends-laws : (first : Ptr) → ShrLaws (lends_slots R first items)
  lends-laws first = beside_shr_laws _ _ (said_shr_laws (slots_fit R) tt) (lent_at_shr_laws Row (Array-row_laws R L.shr_laws (length items)) first items)

  module _ {M : Type 1} {𝓤 : Ura M} (𝓛 : Logic 𝓤) (within : Lft) (inc : Incl within R.lives) (right : Ty → Ptr → Fml) where
    -- the room and the right to free are kept back
    items_lent : (first : Ptr) → Lends 𝓛 (in_block first (block_with_items right R first (length items) block_slots items)) (lent_at Row first items) within
    items_lent null_ptr = Lends-false 𝓛 (lent_at Row null_ptr items) within
    items_lent (block_ptr b o) =
        Lends-first 𝓛 (lies_at Row full_share (block_ptr b o) items) _ (lent_at Row (block_ptr b o) items) within
        (Lends-lies 𝓛 Row within (block_ptr b o) items (Shares-Array 𝓛 R (subst Single (sym L.one) tt) (length items) within (Shares-less 𝓛 R R.lives within inc (L.shares 𝓛)) items))

    slots_lent : (first : Ptr) → Lends 𝓛 (owns_slots R right first items) (lends_slots R first items) within
    slots_lent first = Lends-both 𝓛 (slots_fit R) _ (said (slots_fit R)) (lent_at Row first items) within (Lends-said 𝓛 (slots_fit R) tt within) (items_lent first)

pub shares : (R A : RattleType) (g : Ghosts A.Denot) (L : Laws R) (K : Laws A) → statement R A g L K
shares R A g L K =
    of_Lends (block.struct R A g) (block.the_codes R.Denot A.Denot R.coded A.coded (mark.the_row A).coded) (block.the_heap R A g) (block.the_lent R A g) (λ d p. lends-laws R L d.items d.first) (copy_shared RawPtr-field RawPtr-copy, (copy_shared (mark.the_field A) (field_copy (mark.the_type A) tt), tt))
    (λ M 𝓤 𝓛 d p. slots_lent R L d.items 𝓛 (block.the_row R A g).lives (Incl-trans (meet_⊑_left (R.lives ++ (A.lives ++ [])) _) (meet_⊑_left R.lives (A.lives ++ []))) (g.dealloc_token d.alloc) d.first)
