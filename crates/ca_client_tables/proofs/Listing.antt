-- Lists of handles: what keeps some of them listed, and that there is room for
-- those that a test names.
use Rattle.std.proofs.Common.{◌≡◌, ◌∙◌, ℕ, suc, Bool, true, false, cond, List, [], ◌∷◌, Option, Some, None, ap, arith, filter, length, nat_eq, refl, subst, sym, ◌⊎◌, inl, inr, zero, ◌+◌, ◌≤◌, ◌++◌, Contains, filter_map, option_to_list}
use Rattle.std.proofs.lemmas.Bool.{ne_eqb}
use Rattle.ca_text.specs.Place.{At}
use Rattle.ca_arena.specs.declared.handle.Handle.{Handle}
use Rattle.ca_ids.specs.Table.{Table, held_at, held_from, same_handle}
use Rattle.ca_model.specs.Client.{Channel, Phase, is_on_in}
use Rattle.ca_model.proofs.Handles.{same-is, same-itself}
use Rattle.std.specs.List.{dedup, dedup_from}
use Rattle.std.specs.List.Sorted.{IsPermutation}
use Rattle.std.proofs.lemmas.List.Elements.{filter_map-append}
use Rattle.std.proofs.lemmas.List.Sorted.{Contains-permutation}
use Rattle.ca_arena.specs.Arena.{Place}
use Rattle.ca_client_tables.specs.Ending.{named_by}
use Rattle.ca_client_tables.specs.Listed.{Has, KeepsLive, is_live_in}
use Rattle.ca_client_tables.proofs.Ended.{named_of, named-not, named-yes}

-- what has an element has a length
pub some-length : {A : Type 0} (xs : List A) (i : ℕ) (y : A) → At xs i y → nat_eq (length xs) 0 ≡ false
some-length [] i y at = absurd cc
some-length (x ∷ xs) i y at = ne_eqb (suc (length xs)) 0 (λ e. omega (arith, e))

-- ---- lists

pub has-last : (xs : List Handle) (h : Handle) → Has (xs ++ h ∷ []) h
has-last [] h = inl refl
has-last (x ∷ xs) h = inr (has-last xs h)

pub has-more : (xs ys : List Handle) (h : Handle) → Has xs h → Has (xs ++ ys) h
has-more (x ∷ xs) ys h (inl is) = inl is
has-more (x ∷ xs) ys h (inr rest) = inr (has-more xs ys h rest)
has-more [] ys h has = absurd has

pub has-behind : (xs ys : List Handle) (h : Handle) → Has ys h → Has (xs ++ ys) h
has-behind [] ys h has = has
has-behind (x ∷ xs) ys h has = inr (has-behind xs ys h has)

pub has-kept : (test : Handle → Bool) (xs : List Handle) (h : Handle) → test h ≡ true → Has xs h → Has (filter test xs) h
has-kept test [] h pass has = absurd has
has-kept test (x ∷ xs) h pass (inl is) = subst (λ (b : Bool). Has (cond b (x ∷ filter test xs) (filter test xs)) h) (sym (ap test is ∙ pass)) (inl is)
has-kept test (x ∷ xs) h pass (inr rest) = go (test x) (has-kept test xs h pass rest)
  where
    go : (b : Bool) → Has (filter test xs) h → Has (cond b (x ∷ filter test xs) (filter test xs)) h
    go true has = inr has
    go false has = has

pub keeps-kept : (t : Table Channel) (xs ys : List Handle) → ys ≡ filter (is_live_in t) xs → KeepsLive t xs ys
keeps-kept t xs ys is h live has = subst (λ (zs : List Handle). Has zs h) (sym is) (has-kept (is_live_in t) xs h live has)

-- of copies in a row one is left
has-one-of : (xs : List Handle) (k h : Handle) → Has (k ∷ xs) h → Has (dedup_from same_handle k xs) h
has-one-of [] k h has = has
has-one-of (x ∷ xs) k h has = go (same_handle x k) refl (has-one-of xs k h) (has-one-of xs x h) has
  where
    go : (b : Bool) → same_handle x k ≡ b → (Has (k ∷ xs) h → Has (dedup_from same_handle k xs) h) → (Has (x ∷ xs) h → Has (dedup_from same_handle x xs) h) → Has (k ∷ x ∷ xs) h
        → Has (cond b (dedup_from same_handle k xs) (k ∷ dedup_from same_handle x xs)) h
    go true e same other (inl is) = same (inl is)
    go true e same other (inr (inl is)) = same (inl (sym (same-is x k e) ∙ is))
    go true e same other (inr (inr rest)) = same (inr rest)
    go false e same other (inl is) = inl is
    go false e same other (inr rest) = inr (other rest)

pub has-once : (xs : List Handle) (h : Handle) → Has xs h → Has (dedup same_handle xs) h
has-once [] h has = has
has-once (x ∷ xs) h has = has-one-of xs x h has

has-contains : (xs : List Handle) (h : Handle) → Has xs h → Contains xs h
has-contains [] h has = absurd has
has-contains (x ∷ xs) h (inl is) = (0, omega arith, is)
has-contains (x ∷ xs) h (inr rest) = let c = has-contains xs h rest in (suc c.0, omega (arith, c.1), c.2)

contains-has : (xs : List Handle) (h : Handle) → Contains xs h → Has xs h
contains-has [] h c = absurd (omega (arith, c.1))
contains-has (x ∷ xs) h (zero, within, is) = inl is
contains-has (x ∷ xs) h (suc k, within, is) = inr (contains-has xs h (k, omega (arith, within), is))

-- in whatever order
pub has-moved : (xs ys : List Handle) (h : Handle) → IsPermutation xs ys → Has xs h → Has ys h
has-moved xs ys h moved has = contains-has ys h (Contains-permutation xs ys h moved (has-contains xs h has))

-- one of them taken out
abbrev less : Handle → List Handle → List Handle
less h [] = []
less h (g ∷ gs) = cond (same_handle g h) gs (g ∷ less h gs)

less-length : (h : Handle) (gs : List Handle) → Has gs h → length gs ≡ length (less h gs) + 1
less-length h [] has = absurd has
less-length h (g ∷ gs) (inl is) =
    let yes_it : same_handle g h ≡ true = subst (λ (k : Handle). same_handle g k ≡ true) is (same-itself g) in
    subst (λ (b : Bool). suc (length gs) ≡ length (cond b gs (g ∷ less h gs)) + 1) (sym yes_it) (omega arith)
less-length h (g ∷ gs) (inr rest) = go (same_handle g h) (less-length h gs rest)
  where
    go : (b : Bool) → length gs ≡ length (less h gs) + 1 → suc (length gs) ≡ length (cond b gs (g ∷ less h gs)) + 1
    go true e = omega arith
    go false e = omega (arith, e)

less-has : (h k : Handle) (gs : List Handle) → (k ≡ h → ⊥) → Has gs k → Has (less h gs) k
less-has h k [] other has = absurd has
less-has h k (g ∷ gs) other (inl is) = go (same_handle g h) refl
  where
    go : (b : Bool) → same_handle g h ≡ b → Has (cond b gs (g ∷ less h gs)) k
    go true e = absurd (other (sym is ∙ same-is g h e))
    go false e = inl is
less-has h k (g ∷ gs) other (inr rest) = go (same_handle g h) (less-has h k gs other rest)
  where
    go : (b : Bool) → Has (less h gs) k → Has (cond b gs (g ∷ less h gs)) k
    go true has = rest
    go false has = inr has

-- ---- there is room

module _ (test : Phase → Bool) (c : Handle) where
  abbrev from : ℕ → Table Channel → List Handle
  from i t = filter_map (named_by test c) (held_from i t)

  from-more : (i : ℕ) (p : Place Channel) (t : Table Channel) → from i (p ∷ t) ≡ named_of test c (held_at i p) ++ from (i + 1) t
  from-more i p t = filter_map-append (named_by test c) (option_to_list (held_at i p)) (held_from (i + 1) t)

  first-is : (i generation : ℕ) (o : Option Channel) → let p : Place Channel = record { generation = generation; value = o } in
      (named_of test c (held_at i p) ≡ []) ⊎ ((h : Handle) × (named_of test c (held_at i p) ≡ h ∷ []) × (h.index ≡ i))
  first-is i generation None = inl refl
  first-is i generation (Some v) = go (is_on_in test c v) refl
    where
      h : Handle
      h = record { index = i; generation = generation }

      go : (b : Bool) → is_on_in test c v ≡ b → (named_of test c (Some (h, v)) ≡ []) ⊎ ((k : Handle) × (named_of test c (Some (h, v)) ≡ k ∷ []) × (k.index ≡ i))
      go true is = inr (h, named-yes test c h v is, refl)
      go false is = inl (named-not test c h v is)

  -- indices rise
  from-index : (i : ℕ) (t : Table Channel) (k : Handle) → Has (from i t) k → i ≤ k.index
  from-index i [] k has = absurd has
  from-index i (p ∷ t) k has = elim (first-is i p.generation p.value) [
    | inl none ↦ (let rest : i + 1 ≤ k.index = from-index (i + 1) t k (subst (λ (hs : List Handle). Has hs k) (from-more i p t ∙ ap (λ (hs : List Handle). hs ++ from (i + 1) t) none) has) in omega (arith, rest))
    | inr one ↦ elim (subst (λ (hs : List Handle). Has hs k) (from-more i p t ∙ ap (λ (hs : List Handle). hs ++ from (i + 1) t) one.1) has) [
      | inl here ↦ (let e : k.index ≡ i = ap (λ (h : Handle). h.index) (sym here) ∙ one.2 in omega (arith, e))
      | inr rest ↦ (let later : i + 1 ≤ k.index = from-index (i + 1) t k rest in omega (arith, later))
    ]
  ]

  -- what is all in a list is not longer than that
  pub few-from : (i : ℕ) (t : Table Channel) (gs : List Handle) → ((h : Handle) → Has (from i t) h → Has gs h) → length (from i t) ≤ length gs
  few-from i [] gs all = omega arith
  few-from i (p ∷ t) gs all = elim (first-is i p.generation p.value) [
    | inl none ↦
        let is : from i (p ∷ t) ≡ from (i + 1) t = from-more i p t ∙ ap (λ (hs : List Handle). hs ++ from (i + 1) t) none in
        let e : length (from i (p ∷ t)) ≡ length (from (i + 1) t) = ap (λ (hs : List Handle). length hs) is in
        let rest : length (from (i + 1) t) ≤ length gs = few-from (i + 1) t gs (λ h has. all h (subst (λ (hs : List Handle). Has hs h) (sym is) has)) in
        omega (arith, e, rest)
    | inr one ↦
        let h : Handle = one.0 in
        let is : from i (p ∷ t) ≡ h ∷ from (i + 1) t = from-more i p t ∙ ap (λ (hs : List Handle). hs ++ from (i + 1) t) one.1 in
        let e : length (from i (p ∷ t)) ≡ suc (length (from (i + 1) t)) = ap (λ (hs : List Handle). length hs) is in
        let there : Has gs h = all h (subst (λ (hs : List Handle). Has hs h) (sym is) (inl refl)) in
        let rest : length (from (i + 1) t) ≤ length (less h gs) =
        few-from (i + 1) t (less h gs) (λ k has. less-has h k gs (λ same.
        let later : i + 1 ≤ k.index = from-index (i + 1) t k has in
        let at : k.index ≡ i = ap (λ (g : Handle). g.index) same ∙ one.2 in
        omega (arith, later, at)) (all k (subst (λ (hs : List Handle). Has hs k) (sym is) (inr has)))) in
        let l : length gs ≡ length (less h gs) + 1 = less-length h gs there in
        omega (arith, e, rest, l)
  ]
