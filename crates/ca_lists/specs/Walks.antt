-- Working: a walk over the indices of a list in place of one over all of a table.
use Rattle.std.specs.Prelude.{ℕ, ◌≡◌, ◌⊎◌, ◌++◌, List, [], ◌∷◌, Option, Some, map, option_to_list}
use Rattle.ca_arena.specs.declared.handle.Handle.{Handle}
use Rattle.ca_arena.specs.Arena.{Place, place_at}
use Rattle.ca_ids.specs.Table.{Table, held_at}
use Rattle.ca_lists.specs.Lists.{Has, list_of}

module _ {T : Type 0} where
  -- a change to the value of a place
  abbrev pub by_value : (Option T → Option T) → Place T → Place T
  by_value g p = record p { value = g p.value }

  -- what is at no index of the list stays as it is
  abbrev pub Covers : (Option T → Option T) → Table T → List ℕ → Type 0
  Covers g t xs = (i : ℕ) → Has xs i ⊎ (g (place_at t i).value ≡ (place_at t i).value)

  -- The change is made but for what is at the indices that are left.
  pub record IsLeft (g : Option T → Option T) (t now : Table T) (left : List ℕ) : Type 0 where
    pub same : map (by_value g) now ≡ map (by_value g) t
    pub covers : Covers g now left

  -- what holds an id at this index
  abbrev pub one_at : Table T → ℕ → List (Handle × T)
  one_at t i = option_to_list (held_at i (place_at t i))

  -- what is told of what is at each index of the list
  abbrev pub each_at : {X : Type 0} → (List (Handle × T) → List X) → Table T → List ℕ → List X
  each_at f t [] = []
  each_at f t (i ∷ is) = f (one_at t i) ++ each_at f t is

  -- nothing is told of what is at no index of the list
  abbrev pub Tells : {X : Type 0} → (List (Handle × T) → List X) → Table T → List ℕ → Type 0
  Tells f t xs = (i : ℕ) → Has xs i ⊎ (f (one_at t i) ≡ [])

  -- what is told of several is told of each in order
  pub record IsInOrder {X : Type 0} (f : List (Handle × T) → List X) : Type 0 where
    pub none : f [] ≡ []
    pub more : (xs ys : List (Handle × T)) → f (xs ++ ys) ≡ f xs ++ f ys

  -- Each value that has an owner is listed as that owner's.
  abbrev pub AreListed : (T → Option ℕ) → Table T → List (List ℕ) → Type 0
  AreListed owner t lists =
      (i : ℕ) (v : T) (o : ℕ) → (place_at t i).value ≡ Some v → owner v ≡ Some o
      → Has (list_of lists o) i

  -- All that is this owner's is at these indices.
  abbrev pub AreAllIn : (T → Option ℕ) → ℕ → Table T → List ℕ → Type 0
  AreAllIn owner o t xs =
      (i : ℕ) (v : T) → (place_at t i).value ≡ Some v → owner v ≡ Some o → Has xs i
