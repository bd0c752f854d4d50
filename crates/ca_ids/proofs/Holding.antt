-- A table of wire ids by index, as the contents of an arena.
use Rattle.std.proofs.Common.{◌≡◌, ◌≢◌, ℕ, ◌+◌, ◌-◌, ◌%◌, ◌<◌, ◌≤◌, ◌==◌, ◌&&◌, Bool, true, false, not, leb, List, [], ◌∷◌, ◌++◌, length, Option, Some, None, is_some, find, if◌then◌else◌, option_map, option_to_list, Result, Ok, Err, refl, sym, ap, ◌∙◌, subst, inl, inr, arith, zero, suc, lit≤}
use Rattle.std.proofs.lemmas.Bool.{cases_lt, eq-eqb, eqb-false, ne_eqb, le-leb, lt-leb, le-ltb, lt-ltb}
use Rattle.std.proofs.lemmas.List.{get_or_past}
use Rattle.std.proofs.lemmas.List.Elements.{All-from_get_or}
use Rattle.std.proofs.lemmas.List.Folds.{list_any_at, list_any_none}
use Rattle.std.specs.Prelude.{Vec, nat_lt}
use Rattle.std.specs.declared.alloc.Global.{Global}
use Rattle.ca_text.specs.declared.refusal.Refusal.{Refusal}
use Rattle.ca_text.specs.declared.refusal.Refusal.TheVariants as refusal
use Rattle.ca_text.specs.Limits.{arena_slots, last_generation}
use Rattle.ca_arena.specs.declared.handle.Handle.{Handle}
use Rattle.ca_arena.specs.Arena.{Contents, Inserts, InsertsAll, InsertsAt, InsertsEach, IsHandleAt, Place, Removes, TellsAfter, blank, free_slots, inserted, inserted_from, next_handle, place_at, removed, written}
use Rattle.ca_arena.specs.Arena as arena
use Rattle.ca_arena.specs.Sound.{IsFree, IsListed, IsSound}
use Rattle.ca_arena.proofs.Places.{IsSound-removed, live_value, value_for-some}
use Rattle.ca_arena.proofs.Runs.{IsSound-inserted}
use Rattle.ca_ids.specs.Wire.{wire_of}
use Rattle.ca_ids.specs.Table.{MayGive, MayGiveAll, Table, by_wire, has_free, held_at, held_from, is_full, with_all_held, with_changed, with_held}
use Rattle.ca_ids.specs.Holding.{Fills, FillsAll, Gives, IsVacant, IsVacantAfter}
use Rattle.ca_ids.proofs.Wires.{wire_of-index}

-- ---- full or not

and_false : (b : Bool) → (b && false) ≡ false
and_false true = refl
and_false false = refl

module _ {T : Type 0} where
  -- the test of an index that may have another id
  abbrev pub is_free : Place T → Bool
  is_free p = not (is_some p.value) && nat_lt p.generation last_generation

  not_free : (value : Option T) (generation : ℕ) → (value ≡ None → generation < last_generation → ⊥) → (not (is_some value) && nat_lt generation last_generation) ≡ false
  not_free (Some v) generation none = refl
  not_free None generation none =
      elim (cases_lt generation last_generation) [
        | inl less ↦ absurd (none refl less)
        | inr more ↦ le-ltb generation last_generation more
      ]

  pub no_free : (t : Table T) → ((i : ℕ) → IsFree t i → ⊥) → has_free t ≡ false
  no_free t none =
      list_any_none is_free t
      (All-from_get_or (λ (p : Place T). is_free p ≡ false) t blank (λ i within. not_free (place_at t i).value (place_at t i).generation (λ vacant lasting. none i (record { within = within; vacant = vacant; lasting = lasting }))))

  pub some_free : (t : Table T) (i : ℕ) → IsFree t i → has_free t ≡ true
  some_free t i free = list_any_at is_free t i blank free.within (tested (place_at t i).value free.vacant)
    where
      tested : (value : Option T) → value ≡ None → (not (is_some value) && nat_lt (place_at t i).generation last_generation) ≡ true
      tested None vacant = lt-ltb (place_at t i).generation last_generation free.lasting
      tested (Some v) vacant = absurd (cc)

  -- no index can be given where none is free
  pub is_full-slots : (a : Contents T) → IsSound a → (free_slots a == 0) ≡ is_full a.given
  is_full-slots a sound = by_list a.given a.freed sound
    where
      by_list : (given : List (Place T)) (freed : List ℕ) → IsSound (record { given = given; freed = freed }) → (length freed + (arena_slots - length given) == 0) ≡ is_full given
      by_list given [] sound =
          elim (cases_lt (length given) arena_slots) [
            | inl below ↦
                let slots : (0 + (arena_slots - length given) == 0) ≡ false = ne_eqb (0 + (arena_slots - length given)) 0 (λ none. absurd (omega arith)) in
                slots ∙ sym (ap (λ (b : Bool). b && not (has_free given)) (lt-leb arena_slots (length given) below))
            | inr above ↦
                let slots : (0 + (arena_slots - length given) == 0) ≡ true = eq-eqb (0 + (arena_slots - length given)) 0 (omega arith) in
                slots ∙ sym (ap (λ (b : Bool). b && not (has_free given)) (le-leb arena_slots (length given) above) ∙ ap not (no_free given sound.listed))
          ]
      by_list given (i ∷ rest) sound =
          let slots : (length (i ∷ rest) + (arena_slots - length given) == 0) ≡ false = ne_eqb (length (i ∷ rest) + (arena_slots - length given)) 0 (λ none. absurd (omega arith)) in
          slots ∙ sym (ap (λ (b : Bool). leb arena_slots (length given) && not b) (some_free given i sound.free.0) ∙ and_false (leb arena_slots (length given)))

  -- an id may be given: not each index is held
  pub may-not-full : (t : Table T) (h : Handle) → MayGive t h → is_full t ≡ false
  may-not-full t h may =
      elim (cases_lt h.index (length t)) [
        | inl within ↦
            let free : IsFree t h.index = record { within = within; vacant = may.free; lasting = omega (arith, may.next, may.last) } in
            ap (λ (b : Bool). leb arena_slots (length t) && not b) (some_free t h.index free) ∙ and_false (leb arena_slots (length t))
        | inr past ↦ ap (λ (b : Bool). b && not (has_free t)) (lt-leb arena_slots (length t) (omega (arith, may.slot)))
      ]

  -- ---- an id is given

  may_next : (given : List (Place T)) (freed : List ℕ) → IsSound (record { given = given; freed = freed }) → 0 < free_slots (record { given = given; freed = freed }) → MayGive given (next_handle (record { given = given; freed = freed }))
  may_next given [] sound free =
      let none : place_at given (length given) ≡ blank = get_or_past given (length given) blank (omega arith) in
      let first : (place_at given (length given)).generation ≡ 0 = ap (λ (p : Place T). p.generation) none in
      record {
        index = omega arith;
        slot = omega arith;
        free = ap (λ (p : Place T). p.value) none;
        next = refl;
        last = rw first (lit≤ tt);
      }
  may_next given (i ∷ rest) sound free =
      let here = sound.free.0 in
      let within = here.within in
      record {
        index = omega arith;
        slot = omega (arith, sound.limit);
        free = here.vacant;
        next = refl;
        last = omega (arith, here.lasting);
      }

  given_next : (given : List (Place T)) (freed : List ℕ) (value : T) → IsSound (record { given = given; freed = freed }) → 0 < free_slots (record { given = given; freed = freed }) → MayGive given (next_handle (record { given = given; freed = freed })) × ((inserted_from given freed value).given ≡ with_held (next_handle (record { given = given; freed = freed })) value given)
  given_next given [] value sound free =
      let none : place_at given (length given) ≡ blank = get_or_past given (length given) blank (omega arith) in
      let first : (place_at given (length given)).generation ≡ 0 = ap (λ (p : Place T). p.generation) none in
      (may_next given [] sound free, rw (eq-eqb (length given) (length given) refl, first) refl)
  given_next given (i ∷ rest) value sound free =
      let within = sound.free.0.within in
      (may_next given (i ∷ rest) sound free, rw (ne_eqb i (length given) (λ same. absurd (omega arith))) refl)

  -- what is told of the handle that comes next
  pub vacant-next : (a : Contents T) (o : Option Handle) → IsSound a → o ≡ (if free_slots a == 0 then None else Some (next_handle a)) → IsVacant a.given o
  vacant-next a o sound is = by_test (free_slots a == 0) refl
    where
      by_test : (b : Bool) → (free_slots a == 0) ≡ b → IsVacant a.given o
      by_test true none =
          let nothing : o ≡ None = is ∙ ap (λ (b : Bool). if b then None else Some (next_handle a)) none in
          subst (IsVacant a.given) (sym nothing) (sym (is_full-slots a sound) ∙ none)
      by_test false some =
          let next : o ≡ Some (next_handle a) = is ∙ ap (λ (b : Bool). if b then None else Some (next_handle a)) some in
          let differs = eqb-false (free_slots a) 0 some in
          subst (IsVacant a.given) (sym next) (may_next a.given a.freed sound (omega arith))

  pub gives : (a b : Contents T) (value : T) (r : Result Handle (T × Refusal)) → IsSound a → Inserts a value r b → Gives a.given value r b.given
  gives a b value (Ok handle) sound h =
      let next = given_next a.given a.freed value sound h.0 in (
        subst (MayGive a.given) (sym h.1) next.0,
        ap (λ (c : Contents T). c.given) h.2 ∙ next.1 ∙ ap (λ (k : Handle). with_held k value a.given) (sym h.1),
      )
  gives a b value (Err (back, refusal.ArenaFull)) sound h =
      (sym (is_full-slots a sound) ∙ eq-eqb (free_slots a) 0 h.0, h.1, ap (λ (c : Contents T). c.given) h.2)
  gives a b value (Err (back, refusal.OutOfMemory)) sound h = (
    sym (is_full-slots a sound) ∙ ne_eqb (free_slots a) 0 (λ none. absurd (omega (arith, h.1))),
    no_free a.given (λ i free. subst (IsListed i) h.0 (sound.listed i free)),
    h.2,
    ap (λ (c : Contents T). c.given) h.3,
  )
  gives a b value (Err _) sound h = absurd h

  pub fills : (a b : Contents T) (h : Handle) (value : T) (r : Result (Unit {0}) T) → IsSound a → InsertsAt a h value r b → Fills a.given h value r b.given
  fills a b h value (Ok e) sound did = gives a b value (Ok h) sound did
  fills a b h value (Err back) sound did = (did.0, ap (λ (c : Contents T). c.given) did.1)

  pub sound-at : (a b : Contents T) (h : Handle) (value : T) (r : Result (Unit {0}) T) → IsSound a → InsertsAt a h value r b → IsSound b
  sound-at a b h value (Ok e) sound did = subst IsSound (sym did.2) (IsSound-inserted a value did.0 sound)
  sound-at a b h value (Err back) sound did = subst IsSound (sym did.1) sound

  -- ---- several are given

  each : (a : Contents T) (es : List (Handle × T)) (b : Contents T) → IsSound a → InsertsEach a es b → MayGiveAll a.given es × (b.given ≡ with_all_held es a.given) × IsSound b
  each a [] b sound did = (tt, ap (λ (c : Contents T). c.given) did, subst IsSound (sym did) sound)
  each a (e ∷ es) b sound did =
      let next = given_next a.given a.freed e.1 sound did.0 in
      let held : (inserted a e.1).given ≡ with_held e.0 e.1 a.given = next.1 ∙ ap (λ (k : Handle). with_held k e.1 a.given) (sym did.1) in
      let rest = each (inserted a e.1) es b (IsSound-inserted a e.1 did.0 sound) did.2 in
      ((subst (MayGive a.given) (sym did.1) next.0, subst (λ (t : Table T). MayGiveAll t es) held rest.0), rest.1 ∙ ap (with_all_held es) held, rest.2)

  -- what is told of the handle that comes after these
  pub told-after : (a : Contents T) (es : List (Handle × T)) (r : Result (Option Handle) Refusal) → IsSound a → TellsAfter a es r → IsVacantAfter a.given es r
  told-after a es (Ok o) sound tells =
      let all = each a es tells.0 sound tells.1 in
      (all.0, subst (λ (t : Table T). IsVacant t o) all.1 (vacant-next tells.0 o all.2 tells.2))
  told-after a es (Err e) sound tells = tells

  pub fills-all : (a b : Contents T) (values : Vec (Handle × T) Global) (r : Result (Unit {0}) (Vec (Handle × T) Global)) → IsSound a → InsertsAll a values r b → FillsAll a.given values r b.given
  fills-all a b values (Ok e) sound did = let all = each a values.items b sound did in (all.0, all.1)
  fills-all a b values (Err back) sound did = (did.0, did.1, ap (λ (c : Contents T). c.given) did.2)

  pub sound-all : (a b : Contents T) (values : Vec (Handle × T) Global) (r : Result (Unit {0}) (Vec (Handle × T) Global)) → IsSound a → InsertsAll a values r b → IsSound b
  sound-all a b values (Ok e) sound did = (each a values.items b sound did).2
  sound-all a b values (Err back) sound did = subst IsSound (sym did.2) sound

  -- ---- what has a wire id

  -- the value of a place under its handle, if that has this wire id
  abbrev wired : (id index generation : ℕ) → Option T → Option (Handle × T)
  wired id index generation None = None
  wired id index generation (Some v) =
      let h : Handle = record { index = index; generation = generation } in if wire_of h == id then Some (h, v) else None

  abbrev has_wire : ℕ → Handle × T → Bool
  has_wire id x = wire_of x.0 == id

  abbrev at_index : (index generation : ℕ) → Option T → List (Handle × T)
  at_index index generation value =
      option_to_list (option_map (λ (v : T). (record { index = index; generation = generation }, v)) value)

  skip : (value : Option T) (index generation id : ℕ) (rest : List (Handle × T)) → index < 65536 → index ≢ id % 65536 → find (has_wire id) (at_index index generation value ++ rest) ≡ find (has_wire id) rest
  skip None index generation id rest below differs = refl
  skip (Some v) index generation id rest below differs =
      let h : Handle = record { index = index; generation = generation } in
      rw (ne_eqb (wire_of h) id (λ same. absurd (differs (sym (wire_of-index h below) ∙ ap (λ (n : ℕ). n % 65536) same)))) refl

  hit : (value : Option T) (index generation id : ℕ) (rest : List (Handle × T)) → find (has_wire id) rest ≡ None → find (has_wire id) (at_index index generation value ++ rest) ≡ wired id index generation value
  hit None index generation id rest none = none
  hit (Some v) index generation id rest none = rw none refl

  beyond : (t : Table T) (i id : ℕ) → id % 65536 < i → i + length t ≤ 65536 → find (has_wire id) (held_from i t) ≡ None
  beyond [] i id below fits = refl
  beyond (p ∷ t) i id below fits =
      skip p.value i p.generation id (held_from (i + 1) t) (omega arith) (λ same. absurd (omega arith))
      ∙ beyond t (i + 1) id (omega arith) (omega arith)

  there : (t : Table T) (i k j id : ℕ) → i + k ≡ j → j ≡ id % 65536 → i + length t ≤ 65536 → find (has_wire id) (held_from i t) ≡ wired id j (place_at t k).generation (place_at t k).value
  there [] i k j id sum is fits =
      let none : place_at {T = T} [] k ≡ blank = get_or_past [] k blank (omega arith) in
      sym (ap (λ (p : Place T). wired id j p.generation p.value) none)
  there (p ∷ t) i zero j id sum is fits =
      let same : i ≡ j = omega arith in
      hit p.value i p.generation id (held_from (i + 1) t) (beyond t (i + 1) id (omega arith) (omega arith))
      ∙ ap (λ (n : ℕ). wired id n p.generation p.value) same
  there (p ∷ t) i (suc k) j id sum is fits =
      skip p.value i p.generation id (held_from (i + 1) t) (omega arith) (λ same. absurd (omega arith))
      ∙ there t (i + 1) k j id (omega arith) is (omega arith)

  -- what has a wire id is at its index
  pub by_wire-index : (a : Contents T) (id : ℕ) → IsSound a → by_wire a.given id ≡ wired id (id % 65536) (place_at a.given (id % 65536)).generation (place_at a.given (id % 65536)).value
  by_wire-index a id sound = there a.given 0 (id % 65536) (id % 65536) id (omega arith) refl (omega (arith, sound.limit))

  -- no handle is at its index
  pub by_wire-none : (a : Contents T) (id : ℕ) → IsSound a → IsHandleAt a (id % 65536) None → by_wire a.given id ≡ None
  by_wire-none a id sound none =
      let index = id % 65536 in
      let place = place_at a.given index in
      let vacant : arena.value_for place.generation place ≡ None = none (record { index = index; generation = place.generation }) refl in
      let empty : place.value ≡ None = rw (eq-eqb place.generation place.generation refl) at vacant in
      by_wire-index a id sound ∙ ap (wired id index place.generation) empty

  -- this handle is at its index
  pub by_wire-live : (a : Contents T) (id : ℕ) (h : Handle) (v : T) → IsSound a → h.index ≡ id % 65536 → arena.find a h ≡ Some v → by_wire a.given id ≡ (if wire_of h == id then Some (h, v) else None)
  by_wire-live a id h v sound at found =
      let place = place_at a.given h.index in
      let known = value_for-some h.generation place v found in
      by_wire-index a id sound
      ∙ sym (ap (λ (i : ℕ). wired id i (place_at a.given i).generation (place_at a.given i).value) at)
      ∙ ap (λ (g : ℕ). wired id h.index g place.value) known.0
      ∙ ap (wired id h.index h.generation) known.1

  -- it has another wire id
  pub by_wire-other : (a : Contents T) (id : ℕ) (h : Handle) → IsSound a → IsHandleAt a (id % 65536) (Some h) → wire_of h ≢ id → by_wire a.given id ≡ None
  by_wire-other a id h sound at differs =
      let found = live_value a h at.1 in
      by_wire-live a id h found.0 sound at.0 found.1 ∙ ap (λ (b : Bool). if b then Some (h, found.0) else None) (ne_eqb (wire_of h) id differs)

  -- it has this wire id
  pub by_wire-this : (a : Contents T) (id : ℕ) (h : Handle) (v : T) → IsSound a → IsHandleAt a (id % 65536) (Some h) → wire_of h ≡ id → arena.find a h ≡ Some v → by_wire a.given id ≡ Some (h, v)
  by_wire-this a id h v sound at same found =
      by_wire-live a id h v sound at.0 found ∙ ap (λ (b : Bool). if b then Some (h, v) else None) (eq-eqb (wire_of h) id same)

  -- ---- an id is free

  pub sound-freed : (a b : Contents T) (h : Handle) (r : Result T Refusal) → IsSound a → Removes a h r b → IsSound b
  sound-freed a b h (Ok value) sound did =
      subst IsSound (sym did.1) (IsSound-removed a h (rw did.0 refl) sound)
  sound-freed a b h (Err refusal.StaleHandle) sound did = subst IsSound (sym did.1) sound
  sound-freed a b h (Err _) sound did = absurd did

  -- ---- a value is changed

  pub changed-written : (a : Contents T) (h : Handle) (old new : T) → arena.find a h ≡ Some old → (written a h new).given ≡ with_changed (λ (v : T). new) h a.given
  changed-written a h old new found = rw found refl

  -- ---- what holds an id at an index

  pub at-none : (a : Contents T) (index : ℕ) → IsHandleAt a index None → held_at index (place_at a.given index) ≡ None
  at-none a index none =
      let place = place_at a.given index in
      let vacant : arena.value_for place.generation place ≡ None = none (record { index = index; generation = place.generation }) refl in
      let empty : place.value ≡ None = rw (eq-eqb place.generation place.generation refl) at vacant in
      ap (λ (o : Option T). option_map (λ (v : T). let h : Handle = record { index = index; generation = place.generation } in (h, v)) o) empty

  pub at-some : (a : Contents T) (index : ℕ) (h : Handle) (v : T) → IsHandleAt a index (Some h) → arena.find a h ≡ Some v → held_at index (place_at a.given index) ≡ Some (h, v)
  at-some a index h v at found =
      let known = value_for-some h.generation (place_at a.given h.index) v found in
      sym (ap (λ (i : ℕ). held_at i (place_at a.given i)) at.0)
      ∙ ap (λ (g : ℕ). option_map (λ (w : T). let k : Handle = record { index = h.index; generation = g } in (k, w)) (place_at a.given h.index).value) known.0
      ∙ ap (λ (o : Option T). option_map (λ (w : T). (h, w)) o) known.1
