-- What a table of wire ids is: an arena whose values are open or drain.
use Rattle.std.specs.Prelude.{ℕ, ◌≡◌, ◌<◌, ◌≤◌, [], Option, Some, None, Result, Ok, Err}
use Rattle.ca_text.specs.declared.refusal.Refusal.{Refusal}
use Rattle.ca_text.specs.declared.refusal.Refusal.TheVariants as refusal
use Rattle.ca_arena.specs.declared.handle.Handle.{Handle}
use Rattle.ca_arena.specs.Arena.{Contents, find, IsLive, free_slots, next_handle, inserted, written}
use Rattle.ca_arena.specs.Arena.{removed}
use Rattle.ca_ids.specs.declared.table.TableEntry.{TableEntry}
use Rattle.ca_ids.specs.declared.table.TableEntry.TheVariants.{Open, Draining}
use Rattle.ca_ids.specs.Wire.{wire_of}

-- what has an id, under its handle: each is open with its value, or drains
abbrev pub Ids : Type 0 → Type 0
Ids T = Contents (TableEntry T)

module _ {T : Type 0} where
  -- the value of what is open
  abbrev pub value_of : Option (TableEntry T) → Option T
  value_of None = None
  value_of (Some (Open value)) = Some value
  value_of (Some Draining) = None

  -- the value that is open under a handle
  abbrev pub open_at : Ids T → Handle → Option T
  open_at ids handle = value_of (find ids handle)

  -- this value is open under the handle
  abbrev pub IsOpen : Ids T → Handle → T → Type 0
  IsOpen ids handle value = find ids handle ≡ Some (Open value)

  -- the handle's wire id drains
  abbrev pub IsDraining : Ids T → Handle → Type 0
  IsDraining ids handle = find ids handle ≡ Some Draining

  -- no handle that is open or drains has this wire id
  abbrev pub IsUnused : Ids T → ℕ → Type 0
  IsUnused ids wire = (other : Handle) → wire_of other ≡ wire → find ids other ≡ None

  -- this is the one handle, open or draining, that has this wire id
  pub record IsOnly (ids : Ids T) (wire : ℕ) (handle : Handle) : Type 0 where
    pub has : wire_of handle ≡ wire
    pub only : (other : Handle) → IsLive ids other → wire_of other ≡ wire → other ≡ handle

  -- From old, this value was opened, with this answer, and left new.
  abbrev pub Opens : Ids T → T → Result (Handle × ℕ) (T × Refusal) → Ids T → Type 0
  Opens old value (Ok (handle, wire)) new =
      (0 < free_slots old) × (handle ≡ next_handle old) × (wire ≡ wire_of handle)
      × (new ≡ inserted old (Open value))
  Opens old value (Err (back, refusal.ArenaFull)) new =
      (free_slots old ≡ 0) × (back ≡ value) × (new ≡ old)
  Opens old value (Err (back, refusal.OutOfMemory)) new =
      (old.freed ≡ []) × (0 < free_slots old) × (back ≡ value) × (new ≡ old)
  Opens old value (Err _) new = ⊥

  -- From old, this handle was retired, with this answer, and left new.
  abbrev pub Retires : Ids T → Handle → Result T Refusal → Ids T → Type 0
  Retires old handle (Ok value) new = IsOpen old handle value × (new ≡ written old handle Draining)
  Retires old handle (Err refusal.StaleHandle) new = (open_at old handle ≡ None) × (new ≡ old)
  Retires old handle (Err _) new = ⊥

  -- From old, this wire id ended draining, with this answer, and left new.
  abbrev pub Drains : Ids T → ℕ → Result (Unit {0}) Refusal → Ids T → Type 0
  Drains old wire (Ok _) new =
      (handle : Handle) × IsOnly old wire handle × IsDraining old handle
      × (new ≡ removed old handle)
  Drains old wire (Err refusal.StaleHandle) new =
      ((handle : Handle) → wire_of handle ≡ wire → IsDraining old handle → ⊥) × (new ≡ old)
  Drains old wire (Err _) new = ⊥

  -- what has this wire id: a handle that is open, one that drains, or nothing
  abbrev pub IsNamed : Ids T → ℕ → Result Handle Refusal → Type 0
  IsNamed ids wire (Ok handle) = IsOnly ids wire handle × ((value : T) × IsOpen ids handle value)
  IsNamed ids wire (Err refusal.Draining) =
      (handle : Handle) × IsOnly ids wire handle × IsDraining ids handle
  IsNamed ids wire (Err refusal.StaleHandle) = IsUnused ids wire
  IsNamed ids wire (Err _) = ⊥

  -- a walk over the open handles from this index on: the one with the least index,
  -- with none open between
  abbrev pub IsFirstOpen : Ids T → ℕ → Option Handle → Type 0
  IsFirstOpen ids start None = (other : Handle) → start ≤ other.index → open_at ids other ≡ None
  IsFirstOpen ids start (Some handle) =
      (start ≤ handle.index) × ((value : T) × IsOpen ids handle value)
      × ((other : Handle) → start ≤ other.index → other.index < handle.index
      → open_at ids other ≡ None)
