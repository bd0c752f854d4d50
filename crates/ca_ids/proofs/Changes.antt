-- A change to each place of a table, one place after another, and what one change leaves.
use Rattle.std.proofs.Common.{◌≡◌, ℕ, zero, suc, ◌+◌, ◌<◌, ◌≤◌, [], ◌∷◌, ◌++◌, length, map, drop, take, List, Bool, Option, Some, None, refl, sym, ap, ◌∙◌, subst, arith, slice_set, filter, option_to_list, append_assoc}
use Rattle.std.proofs.Math.Numerals.{add-one}
use Rattle.std.proofs.lemmas.Bool.{eq-eqb}
use Rattle.std.proofs.lemmas.List.Elements.{filter-append}
use Rattle.std.proofs.lemmas.List.{append-nil, drop_all, set-get_or, take_all}
use Rattle.ca_text.proofs.Places.{some_is}
use Rattle.ca_arena.specs.declared.handle.Handle.{Handle}
use Rattle.ca_arena.specs.Arena.{Place, blank, place_at}
use Rattle.ca_ids.specs.Table.{Table, held, held_at, held_from, with_changed, with_freed}
use Rattle.ca_ids.specs.Walks.{walked, with_place}

-- two lists are empty that are together
no-first : {X : Type 0} (xs ys : List X) → xs ++ ys ≡ [] → xs ≡ []
no-first [] ys none = refl
no-first (x ∷ xs) ys none = absurd cc

no-second : {X : Type 0} (xs ys : List X) → xs ++ ys ≡ [] → ys ≡ []
no-second [] ys none = none
no-second (x ∷ xs) ys none = absurd cc

module _ {T : Type 0} where
  -- ---- each place in turn

  one-more : (f : Place T → Place T) (t : Table T) (i : ℕ) → i < length t → with_place i f (walked f i t) ≡ walked f (suc i) t
  one-more f [] i within = absurd (omega arith)
  one-more f (p ∷ t) zero within = refl
  one-more f (p ∷ t) (suc i) within = ap (λ (ps : Table T). f p ∷ ps) (one-more f t i (omega arith))

  pub walk-more : (f : Place T → Place T) (t now next : Table T) (i : ℕ) → i < length t → now ≡ walked f i t → next ≡ with_place i f now → next ≡ walked f (i + 1) t
  walk-more f t now next i within is step =
      step ∙ ap (with_place i f) is ∙ one-more f t i within ∙ ap (λ (n : ℕ). walked f n t) (sym (add-one i))

  pub walk-all : (f : Place T → Place T) (t now : Table T) (i : ℕ) → length t ≤ i → now ≡ walked f i t → now ≡ map f t
  walk-all f t now i past is =
      is ∙ ap (λ (ps : Table T). map f ps ++ drop i t) (take_all i t past)
      ∙ ap (λ (ps : Table T). map f t ++ ps) (drop_all i t past)
      ∙ append-nil (map f t)

  pub length-walked : (f : Place T → Place T) (t : Table T) (i : ℕ) → length (walked f i t) ≡ length t
  length-walked f [] zero = refl
  length-walked f [] (suc i) = refl
  length-walked f (p ∷ t) zero = refl
  length-walked f (p ∷ t) (suc i) = ap suc (length-walked f t i)

  -- ---- one place

  -- the handle and the value of what holds an id at a place
  pub held-parts : (i generation : ℕ) (value : Option T) (h : Handle) (v : T) → held_at i (record { generation = generation; value = value }) ≡ Some (h, v) → (h ≡ record { index = i; generation = generation }) × (value ≡ Some v)
  held-parts i generation None h v at = absurd cc
  held-parts i generation (Some w) h v at =
      let here : Handle = record { index = i; generation = generation } in
      let same : (here, w) ≡ (h, v) = some_is (here, w) (h, v) at in
      (sym (ap (λ (e : Handle × T). e.0) same), ap (λ (e : Handle × T). Some e.1) same)

  pub held-none : (i generation : ℕ) (value : Option T) → held_at i (record { generation = generation; value = value }) ≡ None → value ≡ None
  held-none i generation None at = refl
  held-none i generation (Some w) at = absurd cc

  -- nothing changes where the change leaves the value
  pub still-at : (t : Table T) (i : ℕ) (g : Option T → Option T) → g (place_at t i).value ≡ (place_at t i).value → t ≡ with_place i (λ (p : Place T). record p { value = g p.value }) t
  still-at t i g same =
      let place = place_at t i in
      sym (ap (λ (o : Option T). slice_set t i (record { generation = place.generation; value = o })) same ∙ set-get_or t i blank)

  pub vacant-at : (t : Table T) (i : ℕ) (g : Option T → Option T) → g None ≡ None → held_at i (place_at t i) ≡ None → t ≡ with_place i (λ (p : Place T). record p { value = g p.value }) t
  vacant-at t i g none at =
      let empty : (place_at t i).value ≡ None = held-none i (place_at t i).generation (place_at t i).value at in
      still-at t i g (ap g empty ∙ none ∙ sym empty)

  pub left-at : (t : Table T) (i : ℕ) (g : Option T → Option T) (h : Handle) (v : T) → g (Some v) ≡ Some v → held_at i (place_at t i) ≡ Some (h, v) → t ≡ with_place i (λ (p : Place T). record p { value = g p.value }) t
  left-at t i g h v same at =
      let parts = held-parts i (place_at t i).generation (place_at t i).value h v at in
      still-at t i g (ap g parts.1 ∙ same ∙ sym parts.1)

  pub freed-at : (t : Table T) (i : ℕ) (g : Option T → Option T) (h : Handle) (v : T) → g (Some v) ≡ None → held_at i (place_at t i) ≡ Some (h, v) → with_freed h t ≡ with_place i (λ (p : Place T). record p { value = g p.value }) t
  freed-at t i g h v gone at =
      let place = place_at t i in
      let parts = held-parts i place.generation place.value h v at in
      let gone_here : g place.value ≡ None = ap g parts.1 ∙ gone in
      subst (λ (k : Handle). with_freed k t ≡ with_place i (λ (p : Place T). record p { value = g p.value }) t) (sym parts.0)
      (rw (eq-eqb place.generation place.generation refl, gone_here, parts.1) refl)

  pub changed-at : (t : Table T) (i : ℕ) (f : T → T) (g : Option T → Option T) (h : Handle) (v : T) → g (Some v) ≡ Some (f v) → held_at i (place_at t i) ≡ Some (h, v) → with_changed f h t ≡ with_place i (λ (p : Place T). record p { value = g p.value }) t
  changed-at t i f g h v same at =
      let place = place_at t i in
      let parts = held-parts i place.generation place.value h v at in
      let here : g place.value ≡ Some (f v) = ap g parts.1 ∙ same in
      subst (λ (k : Handle). with_changed f k t ≡ with_place i (λ (p : Place T). record p { value = g p.value }) t) (sym parts.0)
      (rw (eq-eqb place.generation place.generation refl, here, parts.1) refl)

  -- ---- what holds an id, place by place

  held-longer : (t : Table T) (i k : ℕ) → k < length t → held_from i (take (suc k) t) ≡ held_from i (take k t) ++ option_to_list (held_at (i + k) (place_at t k))
  held-longer [] i k within = absurd (omega arith)
  held-longer (p ∷ t) i zero within =
      let here : i ≡ i + 0 = omega arith in
      append-nil (option_to_list (held_at i p)) ∙ ap (λ (n : ℕ). option_to_list (held_at n p)) here
  held-longer (p ∷ t) i (suc k) within =
      let there : (i + 1) + k ≡ i + suc k = omega arith in
      ap (λ (xs : List (Handle × T)). option_to_list (held_at i p) ++ xs) (held-longer t (i + 1) k (omega arith))
      ∙ sym (append_assoc (option_to_list (held_at i p)) (held_from (i + 1) (take k t)) (option_to_list (held_at ((i + 1) + k) (place_at t k))))
      ∙ ap (λ (n : ℕ). (option_to_list (held_at i p) ++ held_from (i + 1) (take k t)) ++ option_to_list (held_at n (place_at t k))) there

  -- the list of what holds an id, with one more place
  pub held-more : (t : Table T) (k : ℕ) → k < length t → held (take (k + 1) t) ≡ held (take k t) ++ option_to_list (held_at k (place_at t k))
  held-more t k within =
      let none : 0 + k ≡ k = omega arith in
      ap (λ (n : ℕ). held (take n t)) (add-one k) ∙ held-longer t 0 k within
      ∙ ap (λ (n : ℕ). held (take k t) ++ option_to_list (held_at n (place_at t k))) none

  -- if nothing that holds an id passes a test, nothing at a place does
  none-from : (test : Handle × T → Bool) (t : Table T) (i k : ℕ) → k < length t → filter test (held_from i t) ≡ [] → filter test (option_to_list (held_at (i + k) (place_at t k))) ≡ []
  none-from test [] i k within none = absurd (omega arith)
  none-from test (p ∷ t) i zero within none =
      let here : i ≡ i + 0 = omega arith in
      let parts = sym (filter-append test (option_to_list (held_at i p)) (held_from (i + 1) t)) ∙ none in
      ap (λ (n : ℕ). filter test (option_to_list (held_at n p))) (sym here)
      ∙ no-first (filter test (option_to_list (held_at i p))) (filter test (held_from (i + 1) t)) parts
  none-from test (p ∷ t) i (suc k) within none =
      let there : (i + 1) + k ≡ i + suc k = omega arith in
      let parts = sym (filter-append test (option_to_list (held_at i p)) (held_from (i + 1) t)) ∙ none in
      ap (λ (n : ℕ). filter test (option_to_list (held_at n (place_at t k)))) (sym there)
      ∙ none-from test t (i + 1) k (omega arith) (no-second (filter test (option_to_list (held_at i p))) (filter test (held_from (i + 1) t)) parts)

  pub none-at : (test : Handle × T → Bool) (t : Table T) (k : ℕ) → k < length t → filter test (held t) ≡ [] → filter test (option_to_list (held_at k (place_at t k))) ≡ []
  none-at test t k within none =
      let here : 0 + k ≡ k = omega arith in
      ap (λ (n : ℕ). filter test (option_to_list (held_at n (place_at t k)))) (sym here) ∙ none-from test t 0 k within none
