-- A walk over the handles of a table.
use Rattle.std.proofs.Common.{◌≡◌, ℕ, suc, ◌-◌, ◌<◌, ◌≤◌, Option, Some, None}
use Rattle.ca_arena.specs.declared.handle.Handle.{Handle}
use Rattle.ca_arena.specs.Arena.{IsLive}
use Rattle.ca_ids.specs.Ids.{Ids, open_at}

-- how far a walk may still go
abbrev pub left_of : ℕ → Option Handle → ℕ
left_of count None = 0
left_of count (Some handle) = suc (count - handle.index)

module _ {T : Type 0} where
  -- the walk from this index on came to a live handle, or to the end, and passed none that is open
  abbrev pub NoneOpenUpTo : Ids T → ℕ → Option Handle → Type 0
  NoneOpenUpTo ids start None = (other : Handle) → start ≤ other.index → open_at ids other ≡ None
  NoneOpenUpTo ids start (Some handle) =
      (start ≤ handle.index) × IsLive ids handle
      × ((other : Handle) → start ≤ other.index → other.index < handle.index → open_at ids other ≡ None)
