-- The channels of a circuit that a test names, over the indices at which they may be.
use Rattle.std.proofs.Common.{◌≡◌, ◌⊎◌, ◌++◌, ◌+◌, ◌<◌, ◌≤◌, drop, filter_map, fold, length, length-append, slice_index_or, ℕ, inl, inr, Bool, true, false, List, [], ◌∷◌, Option, Some, None, map, refl, sym, ap, ◌∙◌, subst, arith, append_assoc}
use Rattle.std.proofs.lemmas.Bool.{cases_Bool}
use Rattle.std.proofs.lemmas.List.{append-nil, drop_all, drop_more, get_or-set_other}
use Rattle.std.proofs.lemmas.List.Elements.{filter_map-append}
use Rattle.std.proofs.lemmas.List.Sums.{fold-append}
use Rattle.ca_text.proofs.Places.{some_is}
use Rattle.ca_arena.specs.declared.handle.Handle.{Handle}
use Rattle.ca_arena.specs.Arena.{Place, blank, place_at}
use Rattle.ca_ids.specs.Table.{Table, held_at}
use Rattle.ca_lists.specs.Lists.{Ascends, Has}
use Rattle.ca_lists.specs.Walks.{AreListed, IsInOrder, IsLeft, by_value, each_at, one_at}
use Rattle.ca_lists.proofs.Listed.{Thins, in-covers, in-tells, listed-thin, thins-map}
use Rattle.ca_lists.proofs.Members.{none-above}
use Rattle.ca_lists.proofs.Walked.{left-done, left-first, left-more, told-listed}
use Rattle.ca_model.specs.Client.{Channel, Phase, Searching, is_cleared, is_on_in}
use Rattle.ca_client_tables.specs.Ending.{Sought, StepsAll, StepsAt, back_at, gone_at, is_kept, named_at, named_by, named_in}
use Rattle.ca_client_tables.specs.OnCircuits.{MayBeOn, circuit_of}
use Rattle.ca_client_tables.proofs.Ended.{named-not, named_of}
use Rattle.ca_client_tables.proofs.OnLists.{on-index}

-- ---- those that a test names

abbrev pub named_among : (Phase → Bool) → Handle → List (Handle × Channel) → List Handle
named_among test c es = filter_map (named_by test c) es

module _ (test : Phase → Bool) (c : Handle) where
  named-in-order : IsInOrder (named_among test c)
  named-in-order = record { none = refl; more = λ xs ys. filter_map-append (named_by test c) xs ys }

  named-only : (h : Handle) (v : Channel) → (named_among test c ((h, v) ∷ []) ≡ []) ⊎ (circuit_of v ≡ Some c.index)
  named-only h v = elim (cases_Bool (is_on_in test c v)) [
    | inl named ↦ inr (on-index test c v named)
    | inr other ↦ inl (named-not test c h v other)
  ]

  pub named-listed : (t : Table Channel) (xs : List ℕ) → MayBeOn c.index t xs → each_at (named_among test c) t xs ≡ named_in test c t
  named-listed t xs may =
      told-listed (named_among test c) named-in-order t xs may.ascends (in-tells circuit_of (named_among test c) t xs c.index named-in-order named-only may.all)

  -- the first of those that are left
  pub named-left : (t : Table Channel) (xs : List ℕ) (k i : ℕ) → k < length xs → i ≡ slice_index_or xs k 0 → each_at (named_among test c) t (drop k xs) ≡ named_at test c i t ++ each_at (named_among test c) t (drop (k + 1) xs)
  named-left t xs k i within is =
      let rest = each_at (named_among test c) t (drop (k + 1) xs) in
      ap (each_at (named_among test c) t) (drop_more xs k 0 within)
      ∙ ap (λ (n : ℕ). named_among test c (one_at t n) ++ rest) (sym is)

  -- none is left
  pub named-over : (t : Table Channel) (xs : List ℕ) (k : ℕ) → length xs ≤ k → each_at (named_among test c) t (drop k xs) ≡ []
  named-over t xs k past = ap (each_at (named_among test c) t) (drop_all k xs past)

  -- ---- they are put one after another where there is room

  pub named-room : (t : Table Channel) (xs : List ℕ) (k i len room : ℕ) (found : List Handle) → k < length xs → i ≡ slice_index_or xs k 0 → len ≡ length found → found ++ each_at (named_among test c) t (drop k xs) ≡ named_in test c t → length (named_in test c t) ≤ room → length (named_at test c i t) + len ≤ room
  named-room t xs k i len room found within is l so fits =
      let rest = each_at (named_among test c) t (drop (k + 1) xs) in
      let all : length found + length (each_at (named_among test c) t (drop k xs)) ≡ length (named_in test c t) =
      sym (length-append found (each_at (named_among test c) t (drop k xs))) ∙ ap (λ (hs : List Handle). length hs) so in
      let first : length (each_at (named_among test c) t (drop k xs)) ≡ length (named_at test c i t) + length rest =
      ap (λ (hs : List Handle). length hs) (named-left t xs k i within is) ∙ length-append (named_at test c i t) rest in
      omega (arith, l, all, first, fits)

  pub named-put : (t : Table Channel) (xs : List ℕ) (k i : ℕ) (found next : List Handle) → k < length xs → i ≡ slice_index_or xs k 0 → next ≡ found ++ named_at test c i t → found ++ each_at (named_among test c) t (drop k xs) ≡ named_in test c t → next ++ each_at (named_among test c) t (drop (k + 1) xs) ≡ named_in test c t
  named-put t xs k i found next within is put so =
      let rest = each_at (named_among test c) t (drop (k + 1) xs) in
      ap (λ (hs : List Handle). hs ++ rest) put
      ∙ append_assoc found (named_at test c i t) rest
      ∙ ap (λ (hs : List Handle). found ++ hs) (sym (named-left t xs k i within is))
      ∙ so

  pub named-done : (t : Table Channel) (xs : List ℕ) (k : ℕ) (found : List Handle) → length xs ≤ k → found ++ each_at (named_among test c) t (drop k xs) ≡ named_in test c t → found ≡ named_in test c t
  named-done t xs k found past so =
      sym (append-nil found)
      ∙ ap (λ (hs : List Handle). found ++ hs) (sym (named-over t xs k past))
      ∙ so

-- ---- they are taken, one after another

module _ (f : Sought → Handle → Sought) (test : Phase → Bool) (g : Option Channel → Option Channel) (c : Handle) where
  -- Those at the indices that are left are as they were, and are still to be taken.
  pub record AreLeft (s now : Sought) (left : List ℕ) : Type 0 where
    pub folds : fold f now (each_at (named_among test c) s.channels left) ≡ fold f s (named_in test c s.channels)
    pub walks : IsLeft g s.channels now.channels left
    pub ascends : Ascends left
    pub there : (i : ℕ) → Has left i → place_at now.channels i ≡ place_at s.channels i

  pub all-left : (s : Sought) (xs : List ℕ) → g None ≡ None → ((v : Channel) → (g (Some v) ≡ Some v) ⊎ (circuit_of v ≡ Some c.index)) → MayBeOn c.index s.channels xs → AreLeft s s xs
  all-left s xs none only may = record {
    folds = ap (λ (hs : List Handle). fold f s hs) (named-listed test c s.channels xs may);
    walks = left-first g s.channels xs (in-covers circuit_of g s.channels xs c.index none only may.all);
    ascends = may.ascends;
    there = λ i has. refl;
  }

  one-less : (s now next : Sought) (i : ℕ) (rest : List ℕ) → ((o : Option Channel) → g (g o) ≡ g o) → g None ≡ None → StepsAt f test g c i now next → AreLeft s now (i ∷ rest) → AreLeft s next rest
  one-less s now next i rest twice none step left =
      let at : place_at now.channels i ≡ place_at s.channels i = left.there i (inl refl) in
      let later = each_at (named_among test c) s.channels rest in
      record {
        folds =
            ap (λ (z : Sought). fold f z later) (step.folds ∙ ap (λ (p : Place Channel). fold f now (named_of test c (held_at i p))) at)
            ∙ sym (fold-append f now (named_at test c i s.channels) later)
            ∙ left.folds;
        walks = left-more g s.channels now.channels next.channels i rest twice none step.walks left.walks;
        ascends = left.ascends.1;
        there = λ k has.
            ap (λ (t : Table Channel). place_at t k) step.walks
            ∙ get_or-set_other now.channels i k (by_value g (place_at now.channels i)) blank (λ same. none-above i rest left.ascends.0 (subst (λ (n : ℕ). Has rest n) same has))
            ∙ left.there k (inr has);
      }

  pub next-left : (s now next : Sought) (xs : List ℕ) (k i : ℕ) → ((o : Option Channel) → g (g o) ≡ g o) → g None ≡ None → k < length xs → i ≡ slice_index_or xs k 0 → StepsAt f test g c i now next → AreLeft s now (drop k xs) → AreLeft s next (drop (k + 1) xs)
  next-left s now next xs k i twice none within is step left =
      one-less s now next (slice_index_or xs k 0) (drop (k + 1) xs) twice none
      (subst (λ (n : ℕ). StepsAt f test g c n now next) is step)
      (subst (λ (ys : List ℕ). AreLeft s now ys) (drop_more xs k 0 within) left)

  pub none-left : (s now : Sought) (xs : List ℕ) (k : ℕ) → length xs ≤ k → AreLeft s now (drop k xs) → StepsAll f test g c s now
  none-left s now xs k past left =
      let over : AreLeft s now [] = subst (λ (ys : List ℕ). AreLeft s now ys) (drop_all k xs past) left in
      record { folds = over.folds; walks = left-done g s.channels now.channels over.walks }

-- ---- those that were cleared go

gone-stays : (c : Handle) (v : Channel) → is_on_in is_cleared c v ≡ false → gone_at c (Some v) ≡ Some v
gone-stays c v other = rw other refl

gone-goes : (c : Handle) (v : Channel) → is_on_in is_cleared c v ≡ true → gone_at c (Some v) ≡ None
gone-goes c v cleared = rw cleared refl

pub gone-only : (c : Handle) (v : Channel) → (gone_at c (Some v) ≡ Some v) ⊎ (circuit_of v ≡ Some c.index)
gone-only c v = elim (cases_Bool (is_on_in is_cleared c v)) [
  | inl cleared ↦ inr (on-index is_cleared c v cleared)
  | inr other ↦ inl (gone-stays c v other)
]

pub gone-twice : (c : Handle) (o : Option Channel) → gone_at c (gone_at c o) ≡ gone_at c o
gone-twice c None = refl
gone-twice c (Some v) = elim (cases_Bool (is_on_in is_cleared c v)) [
  | inl cleared ↦ ap (gone_at c) (gone-goes c v cleared) ∙ sym (gone-goes c v cleared)
  | inr other ↦ ap (gone_at c) (gone-stays c v other)
]

pub gone-thins : (c : Handle) (t : Table Channel) → Thins circuit_of t (map (by_value (gone_at c)) t)
gone-thins c t = thins-map circuit_of (gone_at c) t refl (λ w v o there owned. elim (cases_Bool (is_on_in is_cleared c w)) [
  | inl cleared ↦
      let bad : None ≡ Some v = sym (gone-goes c w cleared) ∙ there in
      absurd cc
  | inr other ↦ ap circuit_of (some_is w v (sym (gone-stays c w other) ∙ there)) ∙ owned
])

-- ---- the others come back

back-stays : (c : Handle) (v : Channel) → is_on_in is_kept c v ≡ false → back_at c (Some v) ≡ Some v
back-stays c v other = rw other refl

back-comes : (c : Handle) (v : Channel) → is_on_in is_kept c v ≡ true → let w : Channel = record v { standing = Searching } in back_at c (Some v) ≡ Some w
back-comes c v kept = rw kept refl

pub back-only : (c : Handle) (v : Channel) → (back_at c (Some v) ≡ Some v) ⊎ (circuit_of v ≡ Some c.index)
back-only c v = elim (cases_Bool (is_on_in is_kept c v)) [
  | inl kept ↦ inr (on-index is_kept c v kept)
  | inr other ↦ inl (back-stays c v other)
]

pub back-twice : (c : Handle) (o : Option Channel) → back_at c (back_at c o) ≡ back_at c o
back-twice c None = refl
back-twice c (Some v) = elim (cases_Bool (is_on_in is_kept c v)) [
  | inl kept ↦ ap (back_at c) (back-comes c v kept) ∙ sym (back-comes c v kept)
  | inr other ↦ ap (back_at c) (back-stays c v other)
]

pub back-thins : (c : Handle) (t : Table Channel) → Thins circuit_of t (map (by_value (back_at c)) t)
back-thins c t = thins-map circuit_of (back_at c) t refl (λ w v o there owned. elim (cases_Bool (is_on_in is_kept c w)) [
  | inl kept ↦
      let is : (let x : Channel = record w { standing = Searching } in x) ≡ v = some_is (record w { standing = Searching }) v (sym (back-comes c w kept) ∙ there) in
      let bad : None ≡ Some o = ap circuit_of is ∙ owned in
      absurd cc
  | inr other ↦ ap circuit_of (some_is w v (sym (back-stays c w other) ∙ there)) ∙ owned
])

-- ---- as channels go and come back

-- all of a circuit are where they may have been before
pub may-thin : (o : ℕ) (t u : Table Channel) (xs : List ℕ) → Thins circuit_of t u → MayBeOn o t xs → MayBeOn o u xs
may-thin o t u xs thins may = record {
  ascends = may.ascends;
  all = λ i v there owned. (let was = thins i v o there owned in may.all i was.0 was.1 was.2);
}

pub may-after : (c : Handle) (f : Sought → Handle → Sought) (s now : Sought) (xs : List ℕ) → StepsAll f is_cleared (gone_at c) c s now → MayBeOn c.index s.channels xs → MayBeOn c.index now.channels xs
may-after c f s now xs steps may = may-thin c.index s.channels now.channels xs (subst (λ (u : Table Channel). Thins circuit_of s.channels u) (sym steps.walks) (gone-thins c s.channels)) may

pub ended-listed : (c : Handle) (f h : Sought → Handle → Sought) (s between now : Sought) (lists : List (List ℕ)) → StepsAll f is_cleared (gone_at c) c s between → StepsAll h is_kept (back_at c) c between now → AreListed circuit_of s.channels lists → AreListed circuit_of now.channels lists
ended-listed c f h s between now lists first next listed =
    let after : AreListed circuit_of between.channels lists =
    subst (λ (u : Table Channel). AreListed circuit_of u lists) (sym first.walks) (listed-thin circuit_of s.channels (map (by_value (gone_at c)) s.channels) lists (gone-thins c s.channels) listed) in
    subst (λ (u : Table Channel). AreListed circuit_of u lists) (sym next.walks) (listed-thin circuit_of between.channels (map (by_value (back_at c)) between.channels) lists (back-thins c between.channels) after)
