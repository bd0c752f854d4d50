-- What the fields of an arena stand for, before and after each change.
use Rattle.std.proofs.Common.{◌≡◌, ◌≢◌, ℕ, zero, suc, ◌+◌, ◌<◌, Bool, true, false, List, [], ◌∷◌, ◌++◌, length, map, set, slice_get, slice_index_or, Option, Some, None, IsSome, is_some, cond, eqb, refl, sym, ap, ◌∙◌, subst, arith, length-set}
use Rattle.std.specs.List.{AllByRecursion}
use Rattle.std.proofs.lemmas.List.{length_push, length-map, map-set, map_push, get_or_past}
use Rattle.std.proofs.lemmas.List.Sums.{sum_by_push}
use Rattle.std.proofs.lemmas.Option.{slice_get_within}
use Rattle.ca_arena.specs.declared.handle.Handle.{Handle}
use Rattle.ca_arena.specs.declared.slot.Slot.{Slot}
use Rattle.ca_arena.specs.declared.slot.Slot.TheVariants.{Filled, Vacant}
use Rattle.ca_text.specs.Limits.{arena_slots, last_generation}
use Rattle.ca_arena.specs.Arena.{Place, place_at, find, value_for, IsFresh, IsLive, blank, free_slots, next_handle, inserted, inserted_from, live_count, removed, written}
use Rattle.ca_arena.specs.Slot.{link_of, place_of}
use Rattle.ca_arena.specs.Sound.{IsSound, IsFree}
use Rattle.ca_arena.specs.Layout.{contents_of, freed_end, freed_from, link_read, IsLaidOut}
use Rattle.ca_arena.proofs.Places.{one_if, value_for-some, within_from_value, live_count-set, live_value, apart_from_value, IsSound-appended, IsSound-filled, IsSound-removed, IsSound-written}

-- what is at an index of a list that was changed at one index
module _ {X : Type 0} where
  get-set_same : (xs : List X) (index : ℕ) (x : X) → index < length xs → slice_get (set xs index x) index ≡ Some x
  get-set_same [] index x within = absurd (omega arith)
  get-set_same (y ∷ xs) zero x within = refl
  get-set_same (y ∷ xs) (suc index) x within = get-set_same xs index x (omega arith)

  get-set_other : (xs : List X) (index k : ℕ) (x : X) → k ≢ index → slice_get (set xs index x) k ≡ slice_get xs k
  get-set_other [] index k x other = refl
  get-set_other (y ∷ xs) zero zero x other = absurd (other refl)
  get-set_other (y ∷ xs) zero (suc k) x other = refl
  get-set_other (y ∷ xs) (suc index) zero x other = refl
  get-set_other (y ∷ xs) (suc index) (suc k) x other = get-set_other xs index k x (λ same. other (ap suc same))

module _ {T : Type 0} where
  -- a place with this generation and this value
  abbrev pub full : ℕ → T → Place T
  full generation value = record { generation = generation; value = Some value }

  abbrev pub empty_at : ℕ → Place T
  empty_at generation = record { generation = generation; value = None }

  abbrev pub places : List (Slot T) → List (Place T)
  places slots = map place_of slots

  -- what is at an index, by what its slot has
  abbrev pub place_read : Option (Slot T) → Place T
  place_read None = blank
  place_read (Some slot) = place_of slot

  pub stands_at : (slots : List (Slot T)) (index : ℕ) → place_at (places slots) index ≡ place_read (slice_get slots index)
  stands_at [] index = refl
  stands_at (slot ∷ slots) zero = refl
  stands_at (slot ∷ slots) (suc index) = stands_at slots index

  pub place_there : (slots : List (Slot T)) (index : ℕ) (slot : Slot T) → slice_get slots index ≡ Some slot → place_at (places slots) index ≡ place_of slot
  place_there slots index slot read = stands_at slots index ∙ ap place_read read

  -- no handle finds a value where there is none
  pub none_for : (generation : ℕ) (place : Place T) → place.value ≡ None → value_for generation place ≡ None
  none_for generation place vacant = by_test (eqb place.generation generation)
    where
      by_test : (b : Bool) → cond b place.value None ≡ None
      by_test true = vacant
      by_test false = refl

  pub none_at : (slots : List (Slot T)) (index generation : ℕ) → slice_get slots index ≡ None → value_for generation (place_at (places slots) index) ≡ None
  none_at slots index generation none = none_for generation (place_at (places slots) index) (ap (λ (p : Place T). p.value) (stands_at slots index ∙ ap place_read none))

  -- ---- the list of the free indices

  pub length-freed_from : (slots : List (Slot T)) (count index : ℕ) → length (freed_from slots count index) ≡ count
  length-freed_from slots zero index = refl
  length-freed_from slots (suc count) index = ap suc (length-freed_from slots count (link_read (slice_get slots index)))

  -- the first of them
  pub first-named : (slots : List (Slot T)) (count first : ℕ) → 0 < length (freed_from slots count first) → first ≡ slice_index_or (freed_from slots count first) 0 0
  first-named slots zero first some = absurd (omega (arith, some))
  first-named slots (suc count) first some = refl

  -- the slot of each names the next one
  pub chained : (slots : List (Slot T)) (count first place : ℕ) → suc place < count → slice_index_or (freed_from slots count first) (suc place) 0 ≡ link_read (slice_get slots (slice_index_or (freed_from slots count first) place 0))
  chained slots zero first place within = absurd (omega (arith, within))
  chained slots (suc zero) first place within = absurd (omega (arith, within))
  chained slots (suc (suc count)) first zero within = refl
  chained slots (suc (suc count)) first (suc place) within = chained slots (suc count) (link_read (slice_get slots first)) place (omega (arith, within))

  -- a change of a slot that is none of theirs
  freed_from-set : (slots : List (Slot T)) (count first index : ℕ) (slot : Slot T) → AllByRecursion (λ other. other ≢ index) (freed_from slots count first) → freed_from (set slots index slot) count first ≡ freed_from slots count first
  freed_from-set slots zero first index slot apart = refl
  freed_from-set slots (suc count) first index slot apart =
      let same : slice_get (set slots index slot) first ≡ slice_get slots first = get-set_other slots index first slot apart.0 in
      ap (λ (o : Option (Slot T)). first ∷ freed_from (set slots index slot) count (link_read o)) same
      ∙ ap (λ (rest : List ℕ). first ∷ rest) (freed_from-set slots count (link_read (slice_get slots first)) index slot apart.1)

  -- the same of what comes after the last of them
  freed_end-set : (slots : List (Slot T)) (count first index : ℕ) (slot : Slot T) → AllByRecursion (λ other. other ≢ index) (freed_from slots count first) → freed_end (set slots index slot) count first ≡ freed_end slots count first
  freed_end-set slots zero first index slot apart = refl
  freed_end-set slots (suc count) first index slot apart =
      let same : slice_get (set slots index slot) first ≡ slice_get slots first = get-set_other slots index first slot apart.0 in
      ap (λ (o : Option (Slot T)). freed_end (set slots index slot) count (link_read o)) same
      ∙ freed_end-set slots count (link_read (slice_get slots first)) index slot apart.1

  freed_end-more : (slots : List (Slot T)) (count more first index generation : ℕ) → index < length slots → more ≡ suc count → AllByRecursion (λ other. other ≢ index) (freed_from slots count first) → freed_end (set slots index (Vacant generation first)) more index ≡ freed_end slots count first
  freed_end-more slots count more first index generation within one_more apart =
      let after = set slots index (Vacant generation first) in
      let link : link_read (slice_get after index) ≡ first = ap link_read (get-set_same slots index (Vacant generation first) within) in
      ap (λ (n : ℕ). freed_end after n index) one_more
      ∙ (ap (freed_end after count) link
      ∙ freed_end-set slots count first index (Vacant generation first) apart)

  -- there is one to be named, unless none is free
  pub none_named : (slots : List (Slot T)) (freed first retired : ℕ) → IsLaidOut slots freed first retired → first ≡ arena_slots → freed_from slots freed first ≡ []
  none_named slots zero first retired laid_out past = refl
  none_named slots (suc fewer) first retired laid_out past = absurd (omega (arith, past, laid_out.sound.free.0.within, laid_out.sound.limit))

  pub some_named : (slots : List (Slot T)) (freed first retired : ℕ) → IsLaidOut slots freed first retired → first ≢ arena_slots → freed ≢ 0
  some_named slots zero first retired laid_out named = absurd (named laid_out.ended)
  some_named slots (suc fewer) first retired laid_out named = λ none. absurd (omega (arith, none))

  -- no index is listed
  pub none_freed : (slots : List (Slot T)) (count first : ℕ) → freed_from slots count first ≡ [] → count ≡ 0
  none_freed slots zero first none = refl
  none_freed slots (suc count) first none = absurd cc

  -- one index more at the front
  freed_from-more : (slots : List (Slot T)) (count more first index generation : ℕ) → index < length slots → more ≡ suc count → AllByRecursion (λ other. other ≢ index) (freed_from slots count first) → freed_from (set slots index (Vacant generation first)) more index ≡ index ∷ freed_from slots count first
  freed_from-more slots count more first index generation within one_more apart =
      let after = set slots index (Vacant generation first) in
      let link : link_read (slice_get after index) ≡ first = ap link_read (get-set_same slots index (Vacant generation first) within) in
      ap (λ (n : ℕ). freed_from after n index) one_more
      ∙ (ap (λ (n : ℕ). index ∷ freed_from after count n) link
      ∙ ap (λ (rest : List ℕ). index ∷ rest) (freed_from-set slots count first index (Vacant generation first) apart))

  -- ---- an index that is free again

  -- what is known of the one freed last
  pub freed_last : (slots : List (Slot T)) (freed first retired : ℕ) → IsLaidOut slots freed first retired → freed ≢ 0 → IsFree (places slots) first
  freed_last slots zero first retired laid_out some = absurd (some refl)
  freed_last slots (suc fewer) first retired laid_out some = laid_out.sound.free.0

  -- the handle that comes next
  pub next_is_first : (slots : List (Slot T)) (freed first generation : ℕ) → freed ≢ 0 → generation ≡ (place_at (places slots) first).generation + 1 → ◌≡◌ {A = Handle} (record { index = first; generation = generation }) (next_handle (contents_of slots freed first))
  next_is_first slots zero first generation some made = absurd (some refl)
  next_is_first slots (suc fewer) first generation some made = ap (λ (n : ℕ). let h : Handle = record { index = first; generation = n } in h) made

  pub next_is_new : (slots : List (Slot T)) (freed first index : ℕ) → freed ≡ 0 → index ≡ length slots → ◌≡◌ {A = Handle} (record { index = index; generation = 1 }) (next_handle (contents_of slots freed first))
  next_is_new slots zero first index none end =
      let past : place_at (places slots) (length (places slots)) ≡ blank = get_or_past (places slots) (length (places slots)) blank (omega arith) in
      let long : index ≡ length (places slots) = end ∙ sym (length-map slots place_of) in
      let one : 1 ≡ (place_at (places slots) (length (places slots))).generation + 1 = ap (λ (p : Place T). p.generation + 1) (sym past) in
      λ i. let h : Handle = record { index = long i; generation = one i } in h
  next_is_new slots (suc fewer) first index none end = absurd cc

  -- that handle was never given
  pub is_fresh : (slots : List (Slot T)) (freed first generation retired : ℕ) → IsLaidOut slots freed first retired → freed ≢ 0 → generation ≡ (place_at (places slots) first).generation + 1 → IsFresh (contents_of slots freed first) (record { index = first; generation = generation })
  is_fresh slots freed first generation retired laid_out some made =
      let free = freed_last slots freed first retired laid_out some in
      record {
        unused = λ other at. subst (λ (n : ℕ). value_for other.generation (place_at (places slots) n) ≡ None) (sym at) (none_for other.generation (place_at (places slots) first) free.vacant);
        later = omega (arith, made);
      }

  -- what filling the slot that was freed last leaves
  pub record Refilled (slots : List (Slot T)) (freed fewer first next generation retired : ℕ) (value : T) : Type 0 where
    pub laid_out : IsLaidOut (set slots first (Filled generation value)) fewer next retired
    pub contents : contents_of (set slots first (Filled generation value)) fewer next ≡ inserted (contents_of slots freed first) value
    pub free : 0 < free_slots (contents_of slots freed first)

  refills : (slots : List (Slot T)) (fewer first next generation retired : ℕ) (slot : Slot T) (value : T) → IsLaidOut slots (suc fewer) first retired → slice_get slots first ≡ Some slot → generation ≡ (place_of slot).generation + 1 → next ≡ link_of slot → Refilled slots (suc fewer) fewer first next generation retired value
  refills slots fewer first next generation retired slot value laid_out read made linked =
      let given = places slots in
      let rest = freed_from slots fewer (link_read (slice_get slots first)) in
      let sound : IsSound (record { given = given; freed = first ∷ rest }) = laid_out.sound in
      let new : Slot T = Filled generation value in
      let link : link_read (slice_get slots first) ≡ next = ap link_read read ∙ sym linked in
      let apart : AllByRecursion (λ other. other ≢ first) (freed_from slots fewer next) =
      subst (λ (n : ℕ). AllByRecursion (λ other. other ≢ first) (freed_from slots fewer n)) link sound.free.1 in
      let chain : freed_from (set slots first new) fewer next ≡ rest =
      freed_from-set slots fewer next first new apart ∙ ap (freed_from slots fewer) (sym link) in
      let mapped : places (set slots first new) ≡ set given first (full generation value) = map-set place_of slots first new in
      let later : generation ≡ (place_at given first).generation + 1 = made ∙ ap (λ (p : Place T). p.generation + 1) (sym (place_there slots first slot read)) in
      let filled : places (set slots first new) ≡ set given first (full ((place_at given first).generation + 1) value) = mapped ∙ ap (λ (n : ℕ). set given first (full n value)) later in
      let contents : contents_of (set slots first new) fewer next ≡ inserted_from given (first ∷ rest) value = λ i. record { given = filled i; freed = chain i } in
      let within : first < length given = sound.free.0.within in
      let vacant : one_if (place_at given first) ≡ 0 = ap (λ o. cond (is_some o) 1 0) sound.free.0.vacant in
      let counted = live_count-set given first (full generation value) within in
      let same : live_count (places (set slots first new)) ≡ live_count (set given first (full generation value)) = ap live_count mapped in
      let before = laid_out.counted in
      record {
        laid_out = record {
          sound = subst IsSound (sym contents) (IsSound-filled given first rest value sound);
          counted = omega (arith, length-set slots first new);
          ended = freed_end-set slots fewer next first new apart ∙ (ap (freed_end slots fewer) (sym link) ∙ laid_out.ended);
        };
        contents = contents;
        free = omega arith;
      }

  pub fills : (slots : List (Slot T)) (freed fewer first next generation retired : ℕ) (slot : Slot T) (value : T) → IsLaidOut slots freed first retired → freed ≡ suc fewer → slice_get slots first ≡ Some slot → generation ≡ (place_of slot).generation + 1 → next ≡ link_of slot → Refilled slots freed fewer first next generation retired value
  fills slots freed fewer first next generation retired slot value laid_out one_fewer read made linked =
      subst (λ (n : ℕ). IsLaidOut slots n first retired → Refilled slots n fewer first next generation retired value) (sym one_fewer)
      (λ laid. refills slots fewer first next generation retired slot value laid read made linked) laid_out

  -- ---- an index that was never given

  -- what one more slot leaves, where no index is free again
  pub record Appended (slots : List (Slot T)) (freed first retired : ℕ) (value : T) : Type 0 where
    pub laid_out : IsLaidOut (slots ++ Filled 1 value ∷ []) freed first retired
    pub contents : contents_of (slots ++ Filled 1 value ∷ []) freed first ≡ inserted (contents_of slots freed first) value
    pub free : 0 < free_slots (contents_of slots freed first)

  appends_to : (slots : List (Slot T)) (first retired : ℕ) (value : T) → IsLaidOut slots 0 first retired → length slots ≢ arena_slots → Appended slots 0 first retired value
  appends_to slots first retired value laid_out more =
      let given = places slots in
      let new : Slot T = Filled 1 value in
      let long = length-map slots place_of in
      let mapped : places (slots ++ new ∷ []) ≡ given ++ full 1 value ∷ [] = map_push place_of slots new in
      let contents : contents_of (slots ++ new ∷ []) 0 first ≡ inserted_from given [] value = λ i. record { given = mapped i; freed = [] } in
      let counted = sum_by_push one_if given (full 1 value) in
      let same : live_count (places (slots ++ new ∷ [])) ≡ live_count (given ++ full 1 value ∷ []) = ap live_count mapped in
      let before = laid_out.counted in
      let below : length given < arena_slots = omega (arith, laid_out.sound.limit, more) in
      record {
        laid_out = record {
          sound = subst IsSound (sym contents) (IsSound-appended given value below laid_out.sound);
          counted = omega (arith, length_push slots new);
          ended = laid_out.ended;
        };
        contents = contents;
        free = omega arith;
      }

  pub appends : (slots : List (Slot T)) (freed first retired : ℕ) (value : T) → IsLaidOut slots freed first retired → freed_from slots freed first ≡ [] → length slots ≢ arena_slots → Appended slots freed first retired value
  appends slots freed first retired value laid_out none more =
      let no_more : freed ≡ 0 = none_freed slots freed first none in
      subst (λ (n : ℕ). IsLaidOut slots n first retired → Appended slots n first retired value) (sym no_more) (λ laid. appends_to slots first retired value laid more) laid_out

  -- ---- an index with a value

  -- what is known of the slot of a live handle
  pub record ReadLive (slots : List (Slot T)) (freed first : ℕ) (handle : Handle) (value : T) : Type 0 where
    pub within : handle.index < length slots
    pub generation : (place_at (places slots) handle.index).generation ≡ handle.generation
    pub there : (place_at (places slots) handle.index).value ≡ Some value
    pub found : find (contents_of slots freed first) handle ≡ Some value

  pub live_within : (slots : List (Slot T)) (freed first : ℕ) (handle : Handle) → IsLive (contents_of slots freed first) handle → handle.index < length slots
  live_within slots freed first handle alive =
      let found = live_value (contents_of slots freed first) handle alive in
      let there = value_for-some handle.generation (place_at (places slots) handle.index) found.0 found.1 in
      omega (arith, within_from_value (places slots) handle.index found.0 there.1, length-map slots place_of)

  -- the slot of a live handle has a value
  pub live_some : (slots : List (Slot T)) (freed first : ℕ) (handle : Handle) (slot : Slot T) → IsLive (contents_of slots freed first) handle → slice_get slots handle.index ≡ Some slot → IsSome (place_of slot).value
  live_some slots freed first handle slot alive read =
      let found = live_value (contents_of slots freed first) handle alive in
      let there = value_for-some handle.generation (place_at (places slots) handle.index) found.0 found.1 in
      let some : IsSome (Some found.0) = refl in
      let has : (place_of slot).value ≡ Some found.0 = ap (λ (p : Place T). p.value) (sym (place_there slots handle.index slot read)) ∙ there.1 in
      subst IsSome (sym has) some

  pub read_live : (slots : List (Slot T)) (freed first : ℕ) (handle : Handle) (slot : Slot T) (value : T) → IsLive (contents_of slots freed first) handle → slice_get slots handle.index ≡ Some slot → (place_of slot).value ≡ Some value → ReadLive slots freed first handle value
  read_live slots freed first handle slot value alive read had =
      let found = live_value (contents_of slots freed first) handle alive in
      let there = value_for-some handle.generation (place_at (places slots) handle.index) found.0 found.1 in
      let has : (place_at (places slots) handle.index).value ≡ Some value = ap (λ (p : Place T). p.value) (place_there slots handle.index slot read) ∙ had in
      record {
        within = slice_get_within slots handle.index slot read;
        generation = there.0;
        there = has;
        found = found.1 ∙ (sym there.1 ∙ has);
      }

  -- it is none of the free ones
  live_apart : (slots : List (Slot T)) (freed first retired index : ℕ) (value : T) → IsLaidOut slots freed first retired → (place_at (places slots) index).value ≡ Some value → AllByRecursion (λ other. other ≢ index) (freed_from slots freed first)
  live_apart slots freed first retired index value laid_out there = apart_from_value (places slots) index value (freed_from slots freed first) there laid_out.sound.free

  -- how many values are left
  fewer_values : (slots : List (Slot T)) (index generation first : ℕ) (value : T) → index < length slots → (place_at (places slots) index).value ≡ Some value → live_count (places (set slots index (Vacant generation first))) + 1 ≡ live_count (places slots)
  fewer_values slots index generation first value within there =
      let new : Slot T = Vacant generation first in
      let mapped : places (set slots index new) ≡ set (places slots) index (empty_at generation) = map-set place_of slots index new in
      let same = ap live_count mapped in
      let one : one_if (place_at (places slots) index) ≡ 1 = ap (λ o. cond (is_some o) 1 0) there in
      omega (arith, live_count-set (places slots) index (empty_at generation) (omega (arith, length-map slots place_of)))

  -- what emptying the slot of a live handle for good leaves
  pub record Vacated (slots : List (Slot T)) (freed first : ℕ) (handle : Handle) (after now then : ℕ) : Type 0 where
    pub laid_out : IsLaidOut (set slots handle.index (Vacant handle.generation first)) after now then
    pub contents : contents_of (set slots handle.index (Vacant handle.generation first)) after now ≡ removed (contents_of slots freed first) handle

  pub retires : (slots : List (Slot T)) (freed first retired then : ℕ) (handle : Handle) (slot : Slot T) (value : T) → IsLaidOut slots freed first retired → IsLive (contents_of slots freed first) handle → slice_get slots handle.index ≡ Some slot → (place_of slot).value ≡ Some value → eqb handle.generation last_generation ≡ true → then ≡ retired + 1 → Vacated slots freed first handle freed first then
  retires slots freed first retired then handle slot value laid_out alive read had last one_more =
      let known = read_live slots freed first handle slot value alive read had in
      let new : Slot T = Vacant handle.generation first in
      let chain = freed_from-set slots freed first handle.index new (live_apart slots freed first retired handle.index value laid_out known.there) in
      let mapped : places (set slots handle.index new) ≡ set (places slots) handle.index (empty_at handle.generation) = map-set place_of slots handle.index new in
      let listed : freed_from (set slots handle.index new) freed first ≡ cond (eqb handle.generation last_generation) (freed_from slots freed first) (handle.index ∷ freed_from slots freed first) =
      chain ∙ ap (λ (b : Bool). cond b (freed_from slots freed first) (handle.index ∷ freed_from slots freed first)) (sym last) in
      let contents : contents_of (set slots handle.index new) freed first ≡ removed (contents_of slots freed first) handle = λ i. record { given = mapped i; freed = listed i } in
      let fewer = fewer_values slots handle.index handle.generation first value known.within known.there in
      let before = laid_out.counted in
      record {
        laid_out = record {
          sound = subst IsSound (sym contents) (IsSound-removed (contents_of slots freed first) handle alive laid_out.sound);
          counted = omega (arith, length-set slots handle.index new);
          ended = freed_end-set slots freed first handle.index new (live_apart slots freed first retired handle.index value laid_out known.there) ∙ laid_out.ended;
        };
        contents = contents;
      }

  -- what emptying it leaves, where its index is free again
  pub frees : (slots : List (Slot T)) (freed first retired more : ℕ) (handle : Handle) (slot : Slot T) (value : T) → IsLaidOut slots freed first retired → IsLive (contents_of slots freed first) handle → slice_get slots handle.index ≡ Some slot → (place_of slot).value ≡ Some value → eqb handle.generation last_generation ≡ false → more ≡ suc freed → Vacated slots freed first handle more handle.index retired
  frees slots freed first retired more handle slot value laid_out alive read had lasting one_more =
      let known = read_live slots freed first handle slot value alive read had in
      let new : Slot T = Vacant handle.generation first in
      let chain = freed_from-more slots freed more first handle.index handle.generation known.within one_more (live_apart slots freed first retired handle.index value laid_out known.there) in
      let mapped : places (set slots handle.index new) ≡ set (places slots) handle.index (empty_at handle.generation) = map-set place_of slots handle.index new in
      let listed : freed_from (set slots handle.index new) more handle.index ≡ cond (eqb handle.generation last_generation) (freed_from slots freed first) (handle.index ∷ freed_from slots freed first) =
      chain ∙ ap (λ (b : Bool). cond b (freed_from slots freed first) (handle.index ∷ freed_from slots freed first)) (sym lasting) in
      let contents : contents_of (set slots handle.index new) more handle.index ≡ removed (contents_of slots freed first) handle = λ i. record { given = mapped i; freed = listed i } in
      let fewer = fewer_values slots handle.index handle.generation first value known.within known.there in
      let before = laid_out.counted in
      record {
        laid_out = record {
          sound = subst IsSound (sym contents) (IsSound-removed (contents_of slots freed first) handle alive laid_out.sound);
          counted = omega (arith, length-set slots handle.index new);
          ended = freed_end-more slots freed more first handle.index handle.generation known.within one_more (live_apart slots freed first retired handle.index value laid_out known.there) ∙ laid_out.ended;
        };
        contents = contents;
      }

  -- what a write over the value of a live handle leaves
  pub record Rewritten (slots : List (Slot T)) (freed first retired : ℕ) (handle : Handle) (generation : ℕ) (new : T) : Type 0 where
    pub laid_out : IsLaidOut (set slots handle.index (Filled generation new)) freed first retired
    pub contents : contents_of (set slots handle.index (Filled generation new)) freed first ≡ written (contents_of slots freed first) handle new

  pub rewrites : (slots : List (Slot T)) (freed first retired : ℕ) (handle : Handle) (slot : Slot T) (value new : T) → IsLaidOut slots freed first retired → IsLive (contents_of slots freed first) handle → slice_get slots handle.index ≡ Some slot → (place_of slot).value ≡ Some value → Rewritten slots freed first retired handle (place_of slot).generation new
  rewrites slots freed first retired handle slot value new laid_out alive read had =
      let known = read_live slots freed first handle slot value alive read had in
      let generation = (place_of slot).generation in
      let over : Slot T = Filled generation new in
      let same : generation ≡ handle.generation = ap (λ (p : Place T). p.generation) (sym (place_there slots handle.index slot read)) ∙ known.generation in
      let chain = freed_from-set slots freed first handle.index over (live_apart slots freed first retired handle.index value laid_out known.there) in
      let mapped : places (set slots handle.index over) ≡ set (places slots) handle.index (full generation new) = map-set place_of slots handle.index over in
      let filled : places (set slots handle.index over) ≡ set (places slots) handle.index (full handle.generation new) = mapped ∙ ap (λ (n : ℕ). set (places slots) handle.index (full n new)) same in
      let contents : contents_of (set slots handle.index over) freed first ≡ written (contents_of slots freed first) handle new = λ i. record { given = filled i; freed = chain i } in
      let one : one_if (place_at (places slots) handle.index) ≡ 1 = ap (λ o. cond (is_some o) 1 0) known.there in
      let counted = live_count-set (places slots) handle.index (full generation new) (omega (arith, known.within, length-map slots place_of)) in
      let values = ap live_count mapped in
      let before = laid_out.counted in
      record {
        laid_out = record {
          sound = subst IsSound (sym contents) (IsSound-written (contents_of slots freed first) handle new alive laid_out.sound);
          counted = omega (arith, length-set slots handle.index over);
          ended = freed_end-set slots freed first handle.index over (live_apart slots freed first retired handle.index value laid_out known.there) ∙ laid_out.ended;
        };
        contents = contents;
      }
