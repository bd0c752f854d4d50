-- A walk over the indices of a list does what one over all of the table does.
use Rattle.std.proofs.Common.{◌≡◌, ◌≢◌, ◌⊎◌, ◌<◌, ◌≤◌, ◌+◌, ◌++◌, ◌==◌, ℕ, zero, suc, inl, inr, Bool, true, false, List, [], ◌∷◌, Option, Some, None, if◌then◌else◌, length, map, nat_lt, option_to_list, refl, sym, ap, ◌∙◌, subst, arith, slice_index_or, slice_set, take, append_assoc}
use Rattle.std.proofs.lemmas.Bool.{cases_Bool, cases_eq, cases_lt, le-ltb, lt-ltb}
use Rattle.std.proofs.lemmas.List.{append-nil, get_or-set_other, get_or-set_same, get_or_past, take_all}
use Rattle.std.proofs.Math.Numerals.{add-one}
use Rattle.ca_arena.specs.declared.handle.Handle.{Handle}
use Rattle.ca_arena.specs.Arena.{Place, blank, place_at}
use Rattle.ca_ids.specs.Table.{Table, held, held_at}
use Rattle.ca_ids.specs.Walks.{with_place}
use Rattle.ca_ids.proofs.Changes.{held-more}
use Rattle.ca_lists.specs.Lists.{AreAbove, Ascends, Has}
use Rattle.ca_lists.specs.Walks.{Covers, IsInOrder, IsLeft, Tells, by_value, each_at, one_at}
use Rattle.ca_lists.proofs.Members.{none-above}

-- those of the list below n
abbrev below : ℕ → List ℕ → List ℕ
below n [] = []
below n (x ∷ xs) = if nat_lt x n then x ∷ below n xs else []

below-none : (n : ℕ) (xs : List ℕ) → AreAbove n xs → below (suc n) xs ≡ []
below-none n [] above = refl
below-none n (x ∷ xs) above = rw (le-ltb x (suc n) (omega (arith, above.0))) refl

module _ {T : Type 0} where
  -- ---- a change to each place

  -- a change that was made at one place makes no difference to the rest
  map-again : (g : Option T → Option T) (t : Table T) (i : ℕ) → ((o : Option T) → g (g o) ≡ g o) → map (by_value g) (with_place i (by_value g) t) ≡ map (by_value g) t
  map-again g [] i twice = refl
  map-again g (p ∷ t) zero twice =
      ap (λ (o : Option T). let q : Place T = record p { value = o } in q ∷ map (by_value g) t) (twice p.value)
  map-again g (p ∷ t) (suc i) twice = ap (λ (ps : Table T). by_value g p ∷ ps) (map-again g t i twice)

  map-stays : (g : Option T → Option T) (t : Table T) → ((i : ℕ) → g (place_at t i).value ≡ (place_at t i).value) → map (by_value g) t ≡ t
  map-stays g [] stays = refl
  map-stays g (p ∷ t) stays =
      ap (λ (o : Option T). let q : Place T = record p { value = o } in q ∷ map (by_value g) t) (stays 0)
      ∙ ap (λ (ps : Table T). p ∷ ps) (map-stays g t (λ i. stays (suc i)))

  stays-at : (g : Option T → Option T) (t : Table T) (i : ℕ) → ((o : Option T) → g (g o) ≡ g o) → g None ≡ None → g (place_at (with_place i (by_value g) t) i).value ≡ (place_at (with_place i (by_value g) t) i).value
  stays-at g [] i twice none = none
  stays-at g (p ∷ t) zero twice none = twice p.value
  stays-at g (p ∷ t) (suc i) twice none = stays-at g t i twice none

  place-other : (f : Place T → Place T) (t : Table T) (i k : ℕ) → k ≢ i → place_at (with_place i f t) k ≡ place_at t k
  place-other f t i k other = get_or-set_other t i k (f (place_at t i)) blank other

  pub left-first : (g : Option T → Option T) (t : Table T) (xs : List ℕ) → Covers g t xs → IsLeft g t t xs
  left-first g t xs covers = record { same = refl; covers = covers }

  pub left-more : (g : Option T → Option T) (t now next : Table T) (i : ℕ) (rest : List ℕ) → ((o : Option T) → g (g o) ≡ g o) → g None ≡ None → next ≡ with_place i (by_value g) now → IsLeft g t now (i ∷ rest) → IsLeft g t next rest
  left-more g t now next i rest twice none step left = record {
    same = ap (map (by_value g)) step ∙ map-again g now i twice ∙ left.same;
    covers = λ k. subst (λ (u : Table T). Has rest k ⊎ (g (place_at u k).value ≡ (place_at u k).value)) (sym step) (covered k);
  }
    where
      covered : (k : ℕ) → Has rest k ⊎ (g (place_at (with_place i (by_value g) now) k).value ≡ (place_at (with_place i (by_value g) now) k).value)
      covered k = elim (cases_eq k i) [
        | inl same ↦ inr (subst (λ (n : ℕ). g (place_at (with_place i (by_value g) now) n).value ≡ (place_at (with_place i (by_value g) now) n).value) (sym same) (stays-at g now i twice none))
        | inr other ↦ elim (left.covers k) [
          | inl has ↦ elim has [ inl here ↦ absurd (other (sym here)) | inr there ↦ inl there ]
          | inr stays ↦ inr (subst (λ (p : Place T). g p.value ≡ p.value) (sym (place-other (by_value g) now i k other)) stays)
        ]
      ]

  pub left-done : (g : Option T → Option T) (t now : Table T) → IsLeft g t now [] → now ≡ map (by_value g) t
  left-done g t now left =
      sym (map-stays g now (λ i. elim (left.covers i) [ inl has ↦ absurd has | inr stays ↦ stays ])) ∙ left.same

  -- ---- what is told of each place

  nothing-past : (t : Table T) (i : ℕ) → length t ≤ i → one_at t i ≡ []
  nothing-past t i past = ap (λ (p : Place T). option_to_list (held_at i p)) (get_or_past t i blank past)

  module _ {X : Type 0} (f : List (Handle × T) → List X) (in_order : IsInOrder f) (t : Table T) where
    below-more : (n : ℕ) (xs : List ℕ) → Ascends xs → Has xs n ⊎ (f (one_at t n) ≡ []) → each_at f t (below (suc n) xs) ≡ each_at f t (below n xs) ++ f (one_at t n)
    below-more n [] up told = elim told [ inl has ↦ absurd has | inr none ↦ sym none ]
    below-more n (x ∷ xs) up told = elim (cases_lt x n) [
      | inl less ↦
          let rest = below-more n xs up.1 elim told [
            | inl has ↦ elim has [ inl here ↦ absurd (omega (arith, less, here)) | inr there ↦ inl there ]
            | inr none ↦ inr none
          ] in
          rw (lt-ltb x n less, lt-ltb x (suc n) (omega (arith, less)))
          (ap (λ (ys : List X). f (one_at t x) ++ ys) rest
          ∙ sym (append_assoc (f (one_at t x)) (each_at f t (below n xs)) (f (one_at t n))))
      | inr not_less ↦ elim (cases_eq x n) [
        | inl same ↦
            let none : below (suc n) xs ≡ [] = below-none n xs (subst (λ (m : ℕ). AreAbove m xs) same up.0) in
            rw (le-ltb x n not_less, lt-ltb x (suc n) (omega (arith, same)), none)
            (append-nil (f (one_at t x)) ∙ ap (λ (m : ℕ). f (one_at t m)) same)
        | inr other ↦
            let more : n < x = omega (arith, not_less, other) in
            rw (le-ltb x n not_less, le-ltb x (suc n) (omega (arith, more)))
            elim told [
              | inl has ↦ elim has [ inl here ↦ absurd (other here) | inr there ↦ absurd (not-there more there) ]
              | inr none ↦ sym none
            ]
      ]
    ]
      where
        lower : (m : ℕ) (ys : List ℕ) → m ≤ x → AreAbove x ys → AreAbove m ys
        lower m [] less above = tt
        lower m (y ∷ ys) less above = (omega (arith, less, above.0), lower m ys less above.1)

        not-there : n < x → Has xs n → ⊥
        not-there more has = none-above n xs (lower n xs (omega (arith, more)) up.0) has

    none-below : (xs : List ℕ) → below 0 xs ≡ []
    none-below [] = refl
    none-below (x ∷ xs) = rw (le-ltb x 0 (omega arith)) refl

    told-below : (xs : List ℕ) → Ascends xs → Tells f t xs → (n : ℕ) → n ≤ length t → f (held (take n t)) ≡ each_at f t (below n xs)
    told-below xs up tells zero within = in_order.none ∙ ap (each_at f t) (sym (none-below xs))
    told-below xs up tells (suc n) within =
        ap (λ (m : ℕ). f (held (take m t))) (sym (add-one n))
        ∙ ap f (held-more t n (omega (arith, within)))
        ∙ in_order.more (held (take n t)) (one_at t n)
        ∙ ap (λ (ys : List X). ys ++ f (one_at t n)) (told-below xs up tells n (omega (arith, within)))
        ∙ sym (below-more n xs up (tells n))

    all-past : (xs : List ℕ) → AreAbove (length t) xs → each_at f t xs ≡ []
    all-past [] above = refl
    all-past (x ∷ xs) above =
        rw (nothing-past t x (omega (arith, above.0)), in_order.none, all-past xs above.1) refl

    all-below : (n : ℕ) (xs : List ℕ) → Ascends xs → n ≡ length t → each_at f t (below n xs) ≡ each_at f t xs
    all-below n [] up is = refl
    all-below n (x ∷ xs) up is = elim (cases_lt x n) [
      | inl less ↦ rw (lt-ltb x n less) (ap (λ (ys : List X). f (one_at t x) ++ ys) (all-below n xs up.1 is))
      | inr past ↦
          let above : AreAbove (length t) xs = lower xs (omega (arith, past, is)) up.0 in
          rw (le-ltb x n past) (sym (ap (λ (ys : List (Handle × T)). f ys ++ each_at f t xs) (nothing-past t x (omega (arith, past, is))) ∙ ap (λ (ys : List X). ys ++ each_at f t xs) in_order.none ∙ all-past xs above))
    ]
      where
        lower : (ys : List ℕ) → length t ≤ x → AreAbove x ys → AreAbove (length t) ys
        lower [] less above = tt
        lower (y ∷ ys) less above = (omega (arith, less, above.0), lower ys less above.1)

    -- what is told of all that holds an id is what is told of what is listed
    pub told-listed : (xs : List ℕ) → Ascends xs → Tells f t xs → each_at f t xs ≡ f (held t)
    told-listed xs up tells =
        sym (all-below (length t) xs up refl)
        ∙ sym (told-below xs up tells (length t) (omega arith))
        ∙ ap (λ (u : Table T). f (held u)) (take_all (length t) t (omega arith))
