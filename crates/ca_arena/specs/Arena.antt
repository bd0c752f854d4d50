-- What an arena is: a finite map from handles to values, which remembers for each index the
-- generation given last.
use Rattle.std.specs.Prelude.{ℕ, ◌≡◌, ◌≢◌, ◌+◌, ◌-◌, ◌<◌, ◌≤◌, ◌==◌, if◌then◌else◌, List, [], ◌∷◌}
use Rattle.std.specs.Prelude.{◌++◌, length, Option, Some, None, IsSome, is_some, count_by}
use Rattle.std.specs.Prelude.{slice_index_or, slice_set, drop, Result, Ok, Err, Vec, refl}
use Rattle.std.specs.Coded.{Coded, code_by, coded×, coded_ℕ, coded_list, coded_option}
use Rattle.std.specs.declared.alloc.Global.{Global}
use Rattle.ca_text.specs.declared.refusal.Refusal.{Refusal}
use Rattle.ca_text.specs.declared.refusal.Refusal.TheVariants.{OutOfMemory, ArenaFull, StaleHandle}
use Rattle.ca_text.specs.Limits.{arena_slots}
use Rattle.ca_arena.specs.declared.handle.Handle.{Handle}
use Rattle.ca_text.specs.Limits.{last_generation}

-- what is at an index: the generation given last, and the value, until it is removed
pub record Place (T : Type 0) : Type 0 where
  pub generation : ℕ
  pub value : Option T

-- the places of the indices given so far, from index 0 on, and those of these indices that are free
-- again, the one freed last first; after them come the indices that were never given, in order
pub record Contents (T : Type 0) : Type 0 where
  pub given : List (Place T)
  pub freed : List ℕ

-- both are stored as the pairs of their fields
abbrev pub place_code : {T : Type 0} → Coded T → Coded (Place T)
place_code {T} code =
    code_by
    (ℕ × Option T)
    (coded× coded_ℕ (coded_option code))
    (λ p. (p.generation, p.value))
    (λ q. record { generation = q.0; value = q.1 })
    (λ _. refl)

abbrev pub contents_code : {T : Type 0} → Coded T → Coded (Contents T)
contents_code {T} code =
    code_by
    (List (Place T) × List ℕ)
    (coded× (coded_list (place_code code)) (coded_list coded_ℕ))
    (λ a. (a.given, a.freed))
    (λ q. record { given = q.0; freed = q.1 })
    (λ _. refl)

-- the index freed last, or else the first that was never given
abbrev pub next_from : List ℕ → ℕ → ℕ
next_from [] unused = unused
next_from (index ∷ _) _ = index

-- where a walk over the handles goes on: at index 0, or after this handle
abbrev pub walk_start : Option Handle → ℕ
walk_start None = 0
walk_start (Some handle) = handle.index + 1

module _ {T : Type 0} where
  -- no index was given
  abbrev pub empty : Contents T
  empty = record { given = []; freed = [] }

  -- what is at an index that was never given: generation 0, and no value
  abbrev pub blank : Place T
  blank = record { generation = 0; value = None }

  -- what is at an index
  abbrev pub place_at : List (Place T) → ℕ → Place T
  place_at given index = slice_index_or given index blank

  -- the generation given last at an index
  abbrev pub last_at : Contents T → ℕ → ℕ
  last_at a index = (place_at a.given index).generation

  -- the value of a place, for a handle of this generation
  abbrev pub value_for : ℕ → Place T → Option T
  value_for generation place = if place.generation == generation then place.value else None

  -- the value of a handle: there is one only while its generation is the one
  -- given last at its index
  abbrev pub find : Contents T → Handle → Option T
  find a handle = value_for handle.generation (place_at a.given handle.index)

  -- the handle names a value
  abbrev pub IsLive : Contents T → Handle → Type 0
  IsLive a handle = IsSome (find a handle)

  -- how many values there are
  abbrev pub live_count : List (Place T) → ℕ
  live_count given = count_by (λ place. is_some place.value) given

  -- how many indices can still be given: those that are free again, and those never given
  abbrev pub free_slots : Contents T → ℕ
  free_slots a = length a.freed + (arena_slots - length a.given)

  -- the handle that comes next
  abbrev pub next_handle : Contents T → Handle
  next_handle a =
      let index = next_from a.freed (length a.given) in
      record { index = index; generation = last_at a index + 1 }

  -- the contents with this value under the handle that comes next
  abbrev pub inserted_from : List (Place T) → List ℕ → T → Contents T
  inserted_from given [] value =
      record { given = given ++ record { generation = 1; value = Some value } ∷ []; freed = [] }
  inserted_from given (index ∷ freed) value =
      record {
        given = slice_set given index
            (record { generation = (place_at given index).generation + 1; value = Some value });
        freed = freed;
      }

  abbrev pub inserted : Contents T → T → Contents T
  inserted a value = inserted_from a.given a.freed value

  -- the handle that comes after n others
  abbrev pub handle_after : Contents T → ℕ → Handle
  handle_after a n =
      let index = next_from (drop n a.freed) (length a.given + (n - length a.freed)) in
      record { index = index; generation = last_at a index + 1 }

  -- the contents with another value under a handle that has one
  abbrev pub written : Contents T → Handle → T → Contents T
  written a handle value =
      record {
        given = slice_set a.given handle.index
            (record { generation = handle.generation; value = Some value });
        freed = a.freed;
      }

  -- the contents without the value of a handle that has one: its index goes before the others that
  -- are free, and at its last generation it is given up for good
  abbrev pub removed : Contents T → Handle → Contents T
  removed a handle = record {
    given = slice_set a.given handle.index
        (record { generation = handle.generation; value = None });
    freed = if handle.generation == last_generation then a.freed else handle.index ∷ a.freed;
  }

  -- the handle was never given: its index has no value, and had a lesser generation last
  pub record IsFresh (a : Contents T) (handle : Handle) : Type 0 where
    pub unused : (other : Handle) → other.index ≡ handle.index → find a other ≡ None
    pub later : last_at a handle.index < handle.generation

  -- From old, this value was inserted, with this answer, and left new. Memory is asked for only if
  -- no index is free again.
  abbrev pub Inserts : Contents T → T → Result Handle (T × Refusal) → Contents T → Type 0
  Inserts old value (Ok handle) new =
      (0 < free_slots old) × (handle ≡ next_handle old) × (new ≡ inserted old value)
  Inserts old value (Err (back, ArenaFull)) new =
      (free_slots old ≡ 0) × (back ≡ value) × (new ≡ old)
  Inserts old value (Err (back, OutOfMemory)) new =
      (old.freed ≡ []) × (0 < free_slots old) × (back ≡ value) × (new ≡ old)
  Inserts old value (Err _) new = ⊥

  -- From old, this value was inserted under a handle that was asked for, with this
  -- answer, and left new.
  abbrev pub InsertsAt : Contents T → Handle → T → Result (Unit {0}) T → Contents T → Type 0
  InsertsAt old handle value (Ok _) new = Inserts old value (Ok handle) new
  InsertsAt old handle value (Err back) new = (back ≡ value) × (new ≡ old)

  -- From old, these values were inserted one after another, each under its
  -- handle, and that left new.
  abbrev pub InsertsEach : Contents T → List (Handle × T) → Contents T → Type 0
  InsertsEach old [] new = new ≡ old
  InsertsEach old (e ∷ es) new =
      (0 < free_slots old) × (e.0 ≡ next_handle old) × InsertsEach (inserted old e.1) es new

  -- what is told of the handle that comes after these
  abbrev pub TellsAfter : Contents T → List (Handle × T) → Result (Option Handle) Refusal → Type 0
  TellsAfter a es (Ok o) =
      (b : Contents T) × InsertsEach a es b
      × (o ≡ (if free_slots b == 0 then None else Some (next_handle b)))
  TellsAfter a es (Err _) = es ≢ []

  -- From old, these values were inserted, each under its handle, with this answer, and
  -- left new: all, or none.
  abbrev pub InsertsAll : Contents T → Vec (Handle × T) Global
      → Result (Unit {0}) (Vec (Handle × T) Global) → Contents T → Type 0
  InsertsAll old values (Ok _) new = InsertsEach old values.items new
  InsertsAll old values (Err back) new = (values.items ≢ []) × (back ≡ values) × (new ≡ old)

  -- From old, the value of this handle was removed, with this answer, and left new.
  abbrev pub Removes : Contents T → Handle → Result T Refusal → Contents T → Type 0
  Removes old handle (Ok value) new = (find old handle ≡ Some value) × (new ≡ removed old handle)
  Removes old handle (Err StaleHandle) new = (find old handle ≡ None) × (new ≡ old)
  Removes old handle (Err _) new = ⊥

  -- the live handle with the least index from this one on, if there is one
  abbrev pub IsFirstFrom : Contents T → ℕ → Option Handle → Type 0
  IsFirstFrom a start None = (other : Handle) → start ≤ other.index → find a other ≡ None
  IsFirstFrom a start (Some handle) =
      (start ≤ handle.index) × IsLive a handle
      × ((other : Handle) → start ≤ other.index → other.index < handle.index → find a other ≡ None)

  -- the live handle with this index, if there is one
  abbrev pub IsHandleAt : Contents T → ℕ → Option Handle → Type 0
  IsHandleAt a index None = (other : Handle) → other.index ≡ index → find a other ≡ None
  IsHandleAt a index (Some handle) = (handle.index ≡ index) × IsLive a handle
