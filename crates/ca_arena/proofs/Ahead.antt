-- The handles that come after others, told before those are given.
use Rattle.std.proofs.Common.{◌≡◌, ◌≢◌, ◌∙◌, ℕ, zero, suc, ◌+◌, ◌-◌, ◌<◌, ◌≤◌, ◌==◌, inl, inr, List, [], ◌∷◌, ◌++◌, Option, Some, None, Ok, ap, arith, drop, if◌then◌else◌, length, length-set, refl, set, slice_get, slice_index_or, subst, sym}
use Rattle.std.specs.Prelude.{nat_lt}
use Rattle.std.specs.List.{AllByRecursion}
use Rattle.std.proofs.lemmas.Bool.{cases_lt, eq-eqb, le-ltb, lt-ltb, ne_eqb}
use Rattle.std.proofs.lemmas.List.{get_or-set_other, drop_all, get_or_past, length_push}
use Rattle.ca_arena.specs.declared.handle.Handle.{Handle}
use Rattle.ca_arena.specs.Arena.{Contents, InsertsEach, Place, TellsAfter, blank, free_slots, handle_after, inserted, inserted_from, last_at, next_from, next_handle, place_at}
use Rattle.ca_text.proofs.Places.{some_is}
use Rattle.ca_arena.specs.Sound.{AreFree, IsFree, IsSound}
use Rattle.ca_arena.proofs.Runs.{IsSound-inserted}

-- one that none of the freed ones is
apart : (i : ℕ) (freed : List ℕ) (n unused : ℕ) → AllByRecursion (λ (other : ℕ). other ≢ i) freed → unused ≢ i → next_from (drop n freed) unused ≢ i
apart i [] zero unused all other = other
apart i [] (suc n) unused all other = other
apart i (x ∷ freed) zero unused all other = all.0
apart i (x ∷ freed) (suc n) unused all other = apart i freed n unused all.1 other

none_left : (n unused : ℕ) → next_from (drop n []) unused ≡ unused
none_left zero unused = refl
none_left (suc n) unused = refl

from_freed : (freed : List ℕ) (n unused : ℕ) → n < length freed → next_from (drop n freed) unused ≡ slice_index_or freed n 0
from_freed [] n unused within = absurd (omega (arith, within))
from_freed (i ∷ freed) zero unused within = refl
from_freed (i ∷ freed) (suc n) unused within = from_freed freed n unused (omega (arith, within))

module _ {T : Type 0} where
  -- none is free again
  unused : (given : List (Place T)) (n : ℕ) → handle_after (record { given = given; freed = [] }) n ≡ record { index = length given + n; generation = 1 }
  unused given n =
      let u = length given + (n - 0) in
      let at : next_from (drop n []) u ≡ length given + n = none_left n u ∙ (omega arith) in
      let past : place_at given (length given + n) ≡ blank = get_or_past given (length given + n) blank (omega arith) in
      ap (λ (k : ℕ). let h : Handle = record { index = k; generation = (place_at given k).generation + 1 } in h) at
      ∙ ap (λ (p : Place T). let h : Handle = record { index = length given + n; generation = p.generation + 1 } in h) past

  -- an insertion takes the first of them
  later : (a : Contents T) (value : T) (n : ℕ) → IsSound a → handle_after (inserted a value) n ≡ handle_after a (suc n)
  later a value n sound = by_list a.given a.freed sound
    where
      by_list : (given : List (Place T)) (freed : List ℕ) → IsSound (record { given = given; freed = freed }) → handle_after (inserted_from given freed value) n ≡ handle_after (record { given = given; freed = freed }) (suc n)
      by_list given [] sound =
          let place : Place T = record { generation = 1; value = Some value } in
          let one : length (given ++ place ∷ []) + n ≡ length given + suc n = omega (arith, length_push given place) in
          unused (given ++ place ∷ []) n ∙ ap (λ (k : ℕ). let h : Handle = record { index = k; generation = 1 } in h) one ∙ sym (unused given (suc n))
      by_list given (i ∷ rest) sound =
          let place : Place T = record { generation = (place_at given i).generation + 1; value = Some value } in
          let index : ℕ → ℕ = λ (u : ℕ). next_from (drop n rest) u in
          let old = length given + (suc n - suc (length rest)) in
          let new = length (set given i place) + (n - length rest) in
          let same : new ≡ old = omega (arith, length-set given i place) in
          let other : index old ≢ i = apart i rest n old sound.free.1 (λ is. absurd (omega (arith, is, sound.free.0.within))) in
          ap (λ (u : ℕ). let h : Handle = record { index = index u; generation = (place_at (set given i place) (index u)).generation + 1 } in h) same
          ∙ ap (λ (p : Place T). let h : Handle = record { index = index old; generation = p.generation + 1 } in h) (get_or-set_other given i (index old) place blank other)

  one_less : (a : Contents T) (value : T) → IsSound a → 0 < free_slots a → free_slots (inserted a value) + 1 ≡ free_slots a
  one_less a value sound free = by_list a.given a.freed free
    where
      by_list : (given : List (Place T)) (freed : List ℕ) → 0 < free_slots (record { given = given; freed = freed }) → free_slots (inserted_from given freed value) + 1 ≡ free_slots (record { given = given; freed = freed })
      by_list given [] free = omega (arith, free, length_push given (record { generation = 1; value = Some value }))
      by_list given (i ∷ rest) free = omega (arith, length-set given i (record { generation = (place_at given i).generation + 1; value = Some value }))

  first : (a : Contents T) → handle_after a 0 ≡ next_handle a
  first a =
      let none : length a.given + (0 - length a.freed) ≡ length a.given = omega arith in
      ap (λ (u : ℕ). let h : Handle = record { index = next_from a.freed u; generation = last_at a (next_from a.freed u) + 1 } in h) none

  pub vacant-is : (a : Contents T) (o : Option Handle) → o ≡ (if nat_lt 0 (free_slots a) then Some (handle_after a 0) else None) → o ≡ (if free_slots a == 0 then None else Some (next_handle a))
  vacant-is a o is =
      is ∙ elim (cases_lt 0 (free_slots a)) [
        | inl some ↦ rw (lt-ltb 0 (free_slots a) some, ne_eqb (free_slots a) 0 (λ none. absurd (omega (arith, none, some)))) (ap (λ (h : Handle). Some h) (first a))
        | inr none ↦ rw (le-ltb 0 (free_slots a) none, eq-eqb (free_slots a) 0 (omega (arith, none))) refl
      ]

  -- these were inserted, each under its handle, and that left b
  record Follows (a : Contents T) (es : List (Handle × T)) (b : Contents T) : Type 0 where
    pub inserts : InsertsEach a es b
    pub free : free_slots b + length es ≡ free_slots a
    pub after : (n : ℕ) → handle_after b n ≡ handle_after a (length es + n)

  -- n of these handles are those that come next
  abbrev pub AreNext : Contents T → List (Handle × T) → ℕ → Type 0
  AreNext a es n = (k : ℕ) (e : Handle × T) → k < n → slice_get es k ≡ Some e → (k < free_slots a) × (e.0 ≡ handle_after a k)

  follows : (a : Contents T) (es : List (Handle × T)) → IsSound a → AreNext a es (length es) → (b : Contents T) × Follows a es b
  follows a [] sound next = (a, record { inserts = refl; free = omega arith; after = λ n. let same : n ≡ 0 + n = omega arith in ap (handle_after a) same })
  follows a (e ∷ es) sound next =
      let here = next 0 e (omega arith) refl in
      let less = one_less a e.1 sound here.0 in
      let rest = follows (inserted a e.1) es (IsSound-inserted a e.1 here.0 sound) (λ k f within at. let one = next (suc k) f (omega (arith, within)) at in (omega (arith, one.0, less), one.1 ∙ sym (later a e.1 k sound))) in (
        rest.0,
        record {
          inserts = (here.0, here.1 ∙ first a, rest.1.inserts);
          free = omega (arith, rest.1.free, less);
          after = λ n. let same : suc (length es + n) ≡ suc (length es) + n = omega arith in rest.1.after n ∙ later a e.1 (length es + n) sound ∙ ap (handle_after a) same;
        },
      )

  -- what is told of the handle after them
  pub tells : (a : Contents T) (es : List (Handle × T)) (o : Option Handle) → IsSound a → AreNext a es (length es) → o ≡ (if nat_lt (length es) (free_slots a) then Some (handle_after a (length es)) else None) → TellsAfter a es (Ok o)
  tells a es o sound next is =
      let all = follows a es sound next in
      let b = all.0 in
      let none : length es + 0 ≡ length es = omega arith in
      let same : next_handle b ≡ handle_after a (length es) =
      sym (first b) ∙ all.1.after 0 ∙ ap (handle_after a) none in (
        b,
        all.1.inserts,
        is ∙ elim (cases_lt (length es) (free_slots a)) [
          | inl within ↦
              rw (lt-ltb (length es) (free_slots a) within, ne_eqb (free_slots b) 0 (λ none. absurd (omega (arith, none, within, all.1.free)))) (ap (λ (h : Handle). Some h) (sym same))
          | inr past ↦
              rw (le-ltb (length es) (free_slots a) past, eq-eqb (free_slots b) 0 (omega (arith, past, all.1.free))) refl
        ],
      )

  pub next-more : (a : Contents T) (es : List (Handle × T)) (n : ℕ) (e : Handle × T) (told : Handle) → AreNext a es n → slice_get es n ≡ Some e → Some told ≡ (if nat_lt n (free_slots a) then Some (handle_after a n) else None) → told ≡ e.0 → AreNext a es (n + 1)
  next-more a es n e told next at is said k f within got =
      elim (cases_lt k n) [
        | inl less ↦ next k f less got
        | inr more ↦
            let same : k ≡ n = omega (arith, within, more) in
            let this : f ≡ e = some_is f e (sym got ∙ ap (slice_get es) same ∙ at) in
            elim (cases_lt n (free_slots a)) [
              | inl less ↦
                  let one : Some told ≡ Some (handle_after a n) = is ∙ rw (lt-ltb n (free_slots a) less) refl in
                  (omega (arith, same, less), ap (λ (x : Handle × T). x.0) this ∙ sym said ∙ some_is told (handle_after a n) one ∙ ap (handle_after a) (sym same))
              | inr past ↦
                  let one : Some told ≡ None = is ∙ rw (le-ltb n (free_slots a) past) refl in
                  absurd cc
            ]
      ]

  -- ---- the handle that comes after n others, by its index

  -- an index that is free again
  pub free-at : (given : List (Place T)) (freed : List ℕ) (n : ℕ) → n < length freed → AreFree given freed → IsFree given (slice_index_or freed n 0)
  free-at given [] n within free = absurd (omega (arith, within))
  free-at given (i ∷ freed) zero within free = free.0
  free-at given (i ∷ freed) (suc n) within free = free-at given freed n (omega (arith, within)) free.2

  pub after-freed : (a : Contents T) (n index : ℕ) → n < length a.freed → index ≡ slice_index_or a.freed n 0 → Some (record { index = index; generation = last_at a index + 1 }) ≡ (if nat_lt n (free_slots a) then Some (handle_after a n) else None)
  after-freed a n index within at =
      let same : next_from (drop n a.freed) (length a.given + (n - length a.freed)) ≡ index = from_freed a.freed n (length a.given + (n - length a.freed)) within ∙ sym at in
      rw (lt-ltb n (free_slots a) (omega (arith, within))) (ap (λ (k : ℕ). let h : Handle = record { index = k; generation = last_at a k + 1 } in Some h) (sym same))

  -- one that was never given
  pub after-unused : (a : Contents T) (n index : ℕ) → length a.freed ≤ n → n < free_slots a → index ≡ length a.given + (n - length a.freed) → Some (record { index = index; generation = 1 }) ≡ (if nat_lt n (free_slots a) then Some (handle_after a n) else None)
  after-unused a n index past within at =
      let u = length a.given + (n - length a.freed) in
      let same : next_from (drop n a.freed) u ≡ index = ap (λ (is : List ℕ). next_from is u) (drop_all n a.freed past) ∙ sym at in
      let none : place_at a.given index ≡ blank = get_or_past a.given index blank (omega (arith, at)) in
      rw (lt-ltb n (free_slots a) within)
      (ap (λ (p : Place T). let h : Handle = record { index = index; generation = p.generation + 1 } in Some h) (sym none)
      ∙ ap (λ (k : ℕ). let h : Handle = record { index = k; generation = last_at a k + 1 } in Some h) (sym same))

  -- no more were inserted than could be
  pub few : (a : Contents T) (es : List (Handle × T)) (b : Contents T) → IsSound a → InsertsEach a es b → length es ≤ free_slots a
  few a [] b sound did = omega arith
  few a (e ∷ es) b sound did =
      omega (arith, one_less a e.1 sound did.0, few (inserted a e.1) es b (IsSound-inserted a e.1 did.0 sound) did.2)

  -- what is left is sound
  pub each-sound : (a : Contents T) (es : List (Handle × T)) (b : Contents T) → IsSound a → InsertsEach a es b → IsSound b
  each-sound a [] b sound did = subst IsSound (sym did) sound
  each-sound a (e ∷ es) b sound did = each-sound (inserted a e.1) es b (IsSound-inserted a e.1 did.0 sound) did.2
