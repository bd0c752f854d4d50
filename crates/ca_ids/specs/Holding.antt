-- Vocabulary: what the calls of a table of wire ids answer and leave, whose values hold their ids
-- until they are free.
use Rattle.std.specs.Prelude.{◌≡◌, ◌≢◌, false, List, [], Option, Some, None, Result, Ok, Err, Vec}
use Rattle.std.specs.declared.alloc.Global.{Global}
use Rattle.ca_text.specs.declared.refusal.Refusal.{Refusal}
use Rattle.ca_text.specs.declared.refusal.Refusal.TheVariants as refusal
use Rattle.ca_arena.specs.declared.handle.Handle.{Handle}
use Rattle.ca_ids.specs.Table.{IsFull, MayGive, MayGiveAll, Table, has_free, is_full, with_all_held}
use Rattle.ca_ids.specs.Table.{with_held}

module _ {T : Type 0} where
  -- From old, this value was given an id, with this answer, and left new. Memory is asked for only
  -- if no index may have another id.
  abbrev pub Gives : Table T → T → Result Handle (T × Refusal) → Table T → Type 0
  Gives old value (Ok handle) new = MayGive old handle × (new ≡ with_held handle value old)
  Gives old value (Err (back, refusal.ArenaFull)) new = IsFull old × (back ≡ value) × (new ≡ old)
  Gives old value (Err (back, refusal.OutOfMemory)) new =
      (is_full old ≡ false) × (has_free old ≡ false) × (back ≡ value) × (new ≡ old)
  Gives old value (Err _) new = ⊥

  -- what is told of the id that is given next
  abbrev pub IsVacant : Table T → Option Handle → Type 0
  IsVacant t (Some handle) = MayGive t handle
  IsVacant t None = IsFull t

  -- From old, this value was given the id that was told, with this answer, and left new.
  abbrev pub Fills : Table T → Handle → T → Result (Unit {0}) T → Table T → Type 0
  Fills old handle value (Ok _) new = MayGive old handle × (new ≡ with_held handle value old)
  Fills old handle value (Err back) new = (back ≡ value) × (new ≡ old)

  -- what is told of the id that is given after these
  abbrev pub IsVacantAfter : Table T → List (Handle × T) → Result (Option Handle) Refusal → Type 0
  IsVacantAfter t es (Ok o) = MayGiveAll t es × IsVacant (with_all_held es t) o
  IsVacantAfter t es (Err _) = es ≢ []

  -- From old, these values were given the ids that were told, with this answer, and
  -- left new: all, or none.
  abbrev pub FillsAll : Table T → Vec (Handle × T) Global
      → Result (Unit {0}) (Vec (Handle × T) Global) → Table T → Type 0
  FillsAll old values (Ok _) new =
      MayGiveAll old values.items × (new ≡ with_all_held values.items old)
  FillsAll old values (Err back) new = (values.items ≢ []) × (back ≡ values) × (new ≡ old)
