-- Whole runs of an arena. Refused calls are left out, since they change nothing.
use Rattle.std.specs.Prelude.{◌≡◌, ◌≢◌, List, [], ◌∷◌, Ok}
use Rattle.std.specs.List.{AllByRecursion}
use Rattle.ca_arena.specs.declared.handle.Handle.{Handle}
use Rattle.ca_arena.specs.Arena.{Contents, IsLive, Inserts, Removes, written}

-- a value was inserted and had this handle, was taken out under its handle, or was
-- written over another one
pub data Call (T : Type 0) : Type 0 where
  Inserted : T → Handle → Call T
  Removed : Handle → T → Call T
  Wrote : Handle → T → Call T

module _ {T : Type 0} where
  -- these calls in a row lead from old to new
  abbrev pub Leads : Contents T → List (Call T) → Contents T → Type 0
  Leads old [] new = new ≡ old
  Leads old (Inserted value handle ∷ calls) new =
      (mid : Contents T) × Inserts old value (Ok handle) mid × Leads mid calls new
  Leads old (Removed handle value ∷ calls) new =
      (mid : Contents T) × Removes old handle (Ok value) mid × Leads mid calls new
  Leads old (Wrote handle value ∷ calls) new =
      (mid : Contents T) × (IsLive old handle × (mid ≡ written old handle value))
      × Leads mid calls new

  -- the handles that were given, in order
  abbrev pub given_by : List (Call T) → List Handle
  given_by [] = []
  given_by (Inserted value handle ∷ calls) = handle ∷ given_by calls
  given_by (Removed handle value ∷ calls) = given_by calls
  given_by (Wrote handle value ∷ calls) = given_by calls

-- no two of these handles are one
abbrev pub AreApart : List Handle → Type 0
AreApart [] = Unit {0}
AreApart (handle ∷ rest) = AllByRecursion (λ other. other ≢ handle) rest × AreApart rest
