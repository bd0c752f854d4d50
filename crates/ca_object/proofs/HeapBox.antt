-- A box on the C library's heap, as what std's calls take. Assumes nothing.
--     A, A-laws      the allocator as a type argument
--     drops          how an allocator is dropped: nothing is done
--     box_at         the box
use Rattle.std.proofs.Common.{[], ◌∷◌, refl}
use mir.Raw.{raw as header_only}
use mir.Syntax.{Dict, dnil, impl, tcons, tnil}
use denote.Exit.{no}
use denote.Param.{arg, layout}
use denote.Param.Laws.{Laws, arg_laws}
use denote.RattleType.{RattleType}
use Rattle.std_alloc.proofs.BoxSteps.Form.{Bx}
use Rattle.std_heap.specs.contracts.Global as heap
use Rattle.std_heap.proofs.Global.TheLaws as heap_laws
use Rattle.std_heap.specs.contracts.GlobalAllocator.TheImpl.{dict, ghosts}

abbrev pub A : RattleType
A = arg (header_only (layout heap.the_row)) no heap.the_row

abbrev pub A-laws : Laws A
A-laws = arg_laws (header_only (layout heap.the_row)) no heap.the_row heap_laws.the_row_laws refl

abbrev pub drops : Dict
drops = impl ("ca_object::Destruct++none::drop" ∷ []) (tcons (layout A) tnil) dnil

abbrev pub box_at : (X : RattleType) → Laws X → Bx
box_at X L = record { row = X; laws = L; al = record { row = A; laws = A-laws; g = ghosts; d = dict; drops = drops } }
