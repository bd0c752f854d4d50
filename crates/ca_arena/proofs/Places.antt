-- What is at an index of an arena, before and after each change.
use Rattle.std.proofs.Common.{◌≡◌, ◌≢◌, ℕ, ◌+◌, ◌<◌, ◌≤◌, Bool, true, false, List, [], ◌∷◌, ◌++◌, length, set, Option, Some, None, is_some, IsSome, cond, eqb, refl, sym, ap, ◌∙◌, inl, inr, arith, reverse, length-append, length-set, lit≤}
use Rattle.std.specs.List.{AllByRecursion}
use Rattle.std.proofs.lemmas.Bool.{eqb-true, eqb-false, cases_eq, cases_lt}
use Rattle.std.proofs.lemmas.List.{get_or-set_same, get_or-set_other, get_or_past, get_or_push, get_or_append_left, reverse-append, length_push}
use Rattle.std.proofs.lemmas.Grind.{elements}
use Rattle.std.proofs.lemmas.List.Sums.{sum_by-set, sum_by_push}
use Rattle.ca_text.specs.Limits.{arena_slots}
use Rattle.ca_arena.specs.declared.handle.Handle.{Handle}
use Rattle.ca_text.specs.Limits.{last_generation}
use Rattle.ca_arena.specs.Arena.{Place, Contents, place_at, value_for, find, IsLive, blank, live_count, inserted_from, removed, written}
use Rattle.ca_arena.specs.Sound.{IsFree, AreFree, IsListed, IsSound}

-- the last of a list comes first
pub reverse_push : {X : Type 0} (xs : List X) (x : X) → reverse (xs ++ x ∷ []) ≡ x ∷ reverse xs
reverse_push xs x = reverse-append xs (x ∷ [])

-- a test that finds no value
pub none_from_test : {X : Type 0} (o : Option X) → is_some o ≡ false → o ≡ None
none_from_test None test = refl
none_from_test (Some x) test = absurd (cc)

-- one value, or none
abbrev pub one_if : {T : Type 0} → Place T → ℕ
one_if place = cond (is_some place.value) 1 0

-- of what is listed, all but the first is listed after it
pub listed_behind : (k index : ℕ) (rest : List ℕ) → k ≢ index → IsListed k (index ∷ rest) → IsListed k rest
listed_behind k index rest other (inl same) = absurd (other (sym same))
listed_behind k index rest other (inr listed) = listed

module _ {T : Type 0} where
  -- a place with no value has none for any generation
  pub value_for-vacant : (generation : ℕ) (place : Place T) → place.value ≡ None → value_for generation place ≡ None
  value_for-vacant generation place vacant = rw vacant (both (eqb place.generation generation))
    where
      both : (b : Bool) → ◌≡◌ {A = Option T} (cond b None None) None
      both true = refl
      both false = refl

  -- a handle has a value where its generation is the last, and the place has that value
  pub value_for-some : (generation : ℕ) (place : Place T) (value : T) → value_for generation place ≡ Some value → (place.generation ≡ generation) × (place.value ≡ Some value)
  value_for-some generation place value found = by_test (eqb place.generation generation) (eqb-true _ _) found
    where
      by_test : (b : Bool) → (b ≡ true → place.generation ≡ generation) → cond b place.value None ≡ Some value → (place.generation ≡ generation) × (place.value ≡ Some value)
      by_test true same found = (same refl, found)
      by_test false same found = absurd (cc)

  -- the value of a live handle
  pub live_value : (a : Contents T) (handle : Handle) → IsLive a handle → (value : T) × (find a handle ≡ Some value)
  live_value a handle live = by_case (find a handle) live
    where
      by_case : (o : Option T) → IsSome o → (value : T) × (o ≡ Some value)
      by_case (Some value) some = (value, refl)
      by_case None some = absurd (cc)

  -- where there is a value, the index was given
  pub within_from_value : (given : List (Place T)) (index : ℕ) (value : T) → (place_at given index).value ≡ Some value → index < length given
  within_from_value given index value found = grind (arith, get_or_past)

  -- an index with a value is none of the free ones
  pub apart_from_value : (given : List (Place T)) (index : ℕ) (value : T) (freed : List ℕ) → (place_at given index).value ≡ Some value → AreFree given freed → AllByRecursion (λ other. other ≢ index) freed
  apart_from_value given index value [] found free = tt
  apart_from_value given index value (first ∷ rest) found free =
      let vacant = free.0.vacant in
      (λ same. let there = ap (λ i. (place_at given i).value) same in cc, apart_from_value given index value rest found free.2)

  -- a change at another index leaves them free
  pub AreFree-set : (given : List (Place T)) (index : ℕ) (place : Place T) (freed : List ℕ) → AllByRecursion (λ other. other ≢ index) freed → AreFree given freed → AreFree (set given index place) freed
  AreFree-set given index place [] apart free = tt
  AreFree-set given index place (first ∷ rest) apart free =
      let same : place_at (set given index place) first ≡ place_at given first = get_or-set_other given index first place blank apart.0 in (
        record {
          within = omega (arith, free.0.within, length-set given index place);
          vacant = rw same free.0.vacant;
          lasting = rw same free.0.lasting;
        },
        free.1,
        AreFree-set given index place rest apart.1 free.2,
      )

  -- a further index leaves them free
  pub AreFree-append : (given more : List (Place T)) (freed : List ℕ) → AreFree given freed → AreFree (given ++ more) freed
  AreFree-append given more [] free = tt
  AreFree-append given more (first ∷ rest) free =
      let same : place_at (given ++ more) first ≡ place_at given first = get_or_append_left given more blank first free.0.within in (
        record {
          within = omega (arith, free.0.within, length-append given more);
          vacant = rw same free.0.vacant;
          lasting = rw same free.0.lasting;
        },
        free.1,
        AreFree-append given more rest free.2,
      )

  -- no generation beyond the last, after a change
  pub fits-set : (given : List (Place T)) (index : ℕ) (place : Place T) → index < length given → place.generation ≤ last_generation → ((k : ℕ) → (place_at given k).generation ≤ last_generation) → (k : ℕ) → (place_at (set given index place) k).generation ≤ last_generation
  fits-set given index place within new all k =
      elim (cases_eq k index) [
        | inl same ↦ rw (same, get_or-set_same given index place blank within) new
        | inr other ↦ rw (get_or-set_other given index k place blank other) (all k)
      ]

  pub fits-push : (given : List (Place T)) (place : Place T) → place.generation ≤ last_generation → ((k : ℕ) → (place_at given k).generation ≤ last_generation) → (k : ℕ) → (place_at (given ++ place ∷ []) k).generation ≤ last_generation
  fits-push given place new all k = grind (arith, elements, all k)

  -- the values counted after a change
  pub live_count-set : (given : List (Place T)) (index : ℕ) (place : Place T) → index < length given → live_count (set given index place) + one_if (place_at given index) ≡ live_count given + one_if place
  live_count-set given index place within = sum_by-set one_if given index place blank within

  -- a free index beside the one that was changed was free before
  pub IsFree-unset : (given : List (Place T)) (index k : ℕ) (place : Place T) → k ≢ index → IsFree (set given index place) k → IsFree given k
  IsFree-unset given index k place other free =
      let same : place_at (set given index place) k ≡ place_at given k = get_or-set_other given index k place blank other in
      record {
        within = omega (arith, free.within, length-set given index place);
        vacant = rw same at free.vacant;
        lasting = rw same at free.lasting;
      }

  -- an index that has a value now is not free, and the others stay listed
  pub listed-set : (given : List (Place T)) (index : ℕ) (place : Place T) (value : T) (freed : List ℕ) → index < length given → place.value ≡ Some value → ((k : ℕ) → IsFree given k → k ≢ index → IsListed k freed) → (k : ℕ) → IsFree (set given index place) k → IsListed k freed
  listed-set given index place value freed within filled listed k free =
      elim (cases_eq k index) [
        | inl same ↦
            let there : (place_at (set given index place) k).value ≡ place.value =
            ap (λ (i : ℕ). (place_at (set given index place) i).value) same ∙ ap (λ (p : Place T). p.value) (get_or-set_same given index place blank within) in
            let vacant = free.vacant in
            absurd (cc)
        | inr other ↦ listed k (IsFree-unset given index k place other free) other
      ]

  -- a value after the others leaves those that are free as they are
  pub listed-push : (given : List (Place T)) (place : Place T) (value : T) (freed : List ℕ) → place.value ≡ Some value → ((k : ℕ) → IsFree given k → IsListed k freed) → (k : ℕ) → IsFree (given ++ place ∷ []) k → IsListed k freed
  listed-push given place value freed filled listed k free =
      elim (cases_lt k (length given)) [
        | inl within ↦
            let same : place_at (given ++ place ∷ []) k ≡ place_at given k = get_or_append_left given (place ∷ []) blank k within in
            listed k (record { within = within; vacant = rw same at free.vacant; lasting = rw same at free.lasting })
        | inr beyond ↦
            let last : length given ≡ k = omega (arith, free.within, length_push given place) in
            let there : (place_at (given ++ place ∷ []) k).value ≡ place.value = ap (λ (p : Place T). p.value) (get_or_push given place blank k last) in
            let vacant = free.vacant in
            absurd (cc)
      ]

  -- a value at an index that was free
  pub IsSound-filled : (given : List (Place T)) (index : ℕ) (rest : List ℕ) (value : T) → IsSound (record { given = given; freed = index ∷ rest }) → IsSound (inserted_from given (index ∷ rest) value)
  IsSound-filled given index rest value sound =
      let free = sound.free in
      let within = free.0.within in
      let place : Place T = record { generation = (place_at given index).generation + 1; value = Some value } in
      let before : one_if (place_at given index) ≡ 0 = ap (λ o. cond (is_some o) 1 0) free.0.vacant in
      let counted = live_count-set given index place within in
      let longer = length-set given index place in
      record {
        limit = omega (arith, sound.limit);
        fits = fits-set given index place within (omega (arith, free.0.lasting)) sound.fits;
        free = AreFree-set given index place rest free.1 free.2;
        listed = listed-set given index place value rest within refl (λ k at_k other. listed_behind k index rest other (sound.listed k at_k));
        counted = omega (arith, sound.counted);
      }

  -- a value at an index that was never given
  pub IsSound-appended : (given : List (Place T)) (value : T) → length given < arena_slots → IsSound (record { given = given; freed = [] }) → IsSound (inserted_from given [] value)
  IsSound-appended given value below sound =
      let place : Place T = record { generation = 1; value = Some value } in
      let counted = sum_by_push one_if given place in
      let longer = length_push given place in
      record {
        limit = omega arith;
        fits = fits-push given place (lit≤ tt) sound.fits;
        free = tt;
        listed = listed-push given place value [] refl sound.listed;
        counted = omega (arith, sound.counted);
      }

  -- another value under a live handle
  pub IsSound-written : (a : Contents T) (handle : Handle) (value : T) → IsLive a handle → IsSound a → IsSound (written a handle value)
  IsSound-written a handle value live sound =
      let found = live_value a handle live in
      let there = value_for-some handle.generation (place_at a.given handle.index) found.0 found.1 in
      let within = within_from_value a.given handle.index found.0 there.1 in
      let place : Place T = record { generation = handle.generation; value = Some value } in
      let before : one_if (place_at a.given handle.index) ≡ 1 = ap (λ o. cond (is_some o) 1 0) there.1 in
      let counted = live_count-set a.given handle.index place within in
      let longer = length-set a.given handle.index place in
      record {
        limit = omega (arith, sound.limit);
        fits = fits-set a.given handle.index place within (omega (arith, there.0, sound.fits handle.index)) sound.fits;
        free = AreFree-set a.given handle.index place a.freed (apart_from_value a.given handle.index found.0 a.freed there.1 sound.free) sound.free;
        listed = listed-set a.given handle.index place value a.freed within refl (λ k free other. sound.listed k free);
        counted = omega (arith, sound.counted);
      }

  -- no value at an index that had one: the index is free, or retired
  pub IsSound-vacated : (given : List (Place T)) (freed : List ℕ) (index generation : ℕ) (value : T) (last : Bool) → generation ≤ last_generation → (last ≡ false → generation < last_generation) → (last ≡ true → last_generation ≤ generation) → (place_at given index).value ≡ Some value → IsSound (record { given = given; freed = freed }) → IsSound (record { given = set given index (record { generation = generation; value = None }); freed = cond last freed (index ∷ freed) })
  IsSound-vacated given freed index generation value last below lasting ending found sound =
      let place : Place T = record { generation = generation; value = None } in
      let within = within_from_value given index value found in
      let before : one_if (place_at given index) ≡ 1 = ap (λ o. cond (is_some o) 1 0) found in
      let counted = live_count-set given index place within in
      let longer = length-set given index place in
      let apart = apart_from_value given index value freed found sound.free in
      let kept = AreFree-set given index place freed apart sound.free in
      let now : place_at (set given index place) index ≡ place = get_or-set_same given index place blank within in
      let here : (last ≡ false) → IsFree (set given index place) index =
      λ still. record { within = omega arith; vacant = rw now refl; lasting = rw now (lasting still) } in
      let fits = fits-set given index place within below sound.fits in
      let limit = sound.limit in
      let fewer = sound.counted in
      let others : (k : ℕ) → IsFree (set given index place) k → k ≢ index → IsListed k freed =
      λ k free other. sound.listed k (IsFree-unset given index k place other free) in
      let retired : last_generation ≤ generation → (k : ℕ) → IsFree (set given index place) k → IsListed k freed =
      λ ended k free.
      elim (cases_eq k index) [
        | inl same ↦
            let there : (place_at (set given index place) k).generation ≡ generation =
            ap (λ (i : ℕ). (place_at (set given index place) i).generation) same ∙ ap (λ (p : Place T). p.generation) now in
            absurd (omega (arith, free.lasting, there, ended))
        | inr other ↦ others k free other
      ] in
      let behind : (k : ℕ) → IsFree (set given index place) k → IsListed k (index ∷ freed) =
      λ k free. elim (cases_eq k index) [ inl same ↦ inl (sym same) | inr other ↦ inr (others k free other) ] in
      elim last as (λ b. (b ≡ false → IsFree (set given index place) index) → (b ≡ true → last_generation ≤ generation) → IsSound (record { given = set given index place; freed = cond b freed (index ∷ freed) })) [
        | true ↦ λ _ ended. record { limit = omega arith; fits = fits; free = kept; listed = retired (ended refl); counted = omega arith }
        | false ↦ λ free _. record { limit = omega arith; fits = fits; free = (free refl, apart, kept); listed = behind; counted = omega arith }
      ] here ending

  -- no value under a handle that was live
  pub IsSound-removed : (a : Contents T) (handle : Handle) → IsLive a handle → IsSound a → IsSound (removed a handle)
  IsSound-removed a handle live sound =
      let found = live_value a handle live in
      let there = value_for-some handle.generation (place_at a.given handle.index) found.0 found.1 in
      let below : handle.generation ≤ last_generation = omega (arith, there.0, sound.fits handle.index) in
      IsSound-vacated a.given a.freed handle.index handle.generation found.0 (eqb handle.generation last_generation) below (λ differs. not_last handle.generation below differs) (λ same. is_last handle.generation same) there.1 sound
    where
      not_last : (generation : ℕ) → generation ≤ last_generation → eqb generation last_generation ≡ false → generation < last_generation
      not_last generation below differs = let other = eqb-false generation last_generation differs in omega arith

      is_last : (generation : ℕ) → eqb generation last_generation ≡ true → last_generation ≤ generation
      is_last generation same = let equal = eqb-true generation last_generation same in omega arith
