-- A block may cross threads as its items and its allocator may.
use Rattle.std.specs.Prelude.{List, length}
use base.Fml.{Fml}
use base.Shift.{Keyless}
use mir.Syntax.{Ty}
use denote.Array.{Array}
use denote.RattleType.{RattleType}
use denote.RawPtr.{Ptr, block_ptr, null_ptr}
use denote.Struct.Struct.{exits_of}
use denote.Struct.Owning.{shape, fields, to}
use denote.Param.Send.{IsSend, IsSync, AllSend, array_send, array_sync, owning_send, struct_send, struct_sync, sendable}
use Rattle.core.specs.declared.alloc.Allocator.{Ghosts}
use Rattle.std_alloc.proofs.SendSync.{FreesAnywhere, lies, quiet, seen}
use Rattle.ca_arena.specs.Block.{owns_slots}
use Rattle.ca_arena.specs.contracts.block.Block as block

module _ (R A : RattleType) (g : Ghosts A.Denot) where
  owns-keyless : IsSend R → (right : Ty → Ptr → Fml) → ((ty : Ty) (p : Ptr) → Keyless (right ty p)) → (first : Ptr) (items : List R.Denot) → Keyless (owns_slots R right first items)
  owns-keyless sent right free (block_ptr b o) items = (tt, (lies (Array R (length items)) (array_send R (length items) sent) (block_ptr b o) items, (tt, free _ _)))
  owns-keyless sent right free null_ptr items = (tt, tt)

  pub block-send : IsSend R → FreesAnywhere A.Denot g → IsSend (block.the_row R A g)
  block-send sent frees =
      let type = block.the_type R A g in
      let all : AllSend (fields type) = (search sendable, (search sendable, tt)) in
      owning_send type all (λ d. owns-keyless sent (g.dealloc_token d.alloc) (λ ty p. frees.frees d.alloc ty p) d.first d.items) (λ k. quiet (to type) (exits_of k (fields type)) ((struct_send (shape type) all).leaving k))

  pub block-sync : IsSync R → IsSync (block.the_row R A g)
  block-sync shared =
      let type = block.the_type R A g in
      record {
        shared = λ d b o κ. ((struct_sync (shape type) (search sendable, (search sendable, tt))).shared (to type d) b o κ, (tt, seen (Array R (length d.items)) (array_sync R (length d.items) shared) d.first d.items κ));
      }
