-- Each subscription's entries, after each call.
use Rattle.std.proofs.Common.{◌≡◌, ◌⊎◌, Bool, true, false, not, ◌&&◌, ◌||◌, cond, List, [], ◌∷◌, ◌++◌, drop, Some, None, refl, sym, ap, ◌∙◌, subst, inl, inr}
use Rattle.std.proofs.lemmas.Bool.{cases_Bool, both_ways, or_parts, and_parts}
use Rattle.std.proofs.lemmas.List.{append-nil}
use Rattle.ca_queue.specs.declared.entry.SubKey.{SubKey}
use Rattle.ca_queue.specs.Keys.{same}
use Rattle.ca_queue.specs.Waiting.{is_of, has_entry, entries_of, replaces, with_last, after_post, front, may_take, taken, after_take, after_cancel}
use Rattle.ca_queue.specs.Order.{last_of}
use Rattle.ca_queue.proofs.Order.{last_push}
use Rattle.ca_queue.proofs.Keys.{same_itself, same_is, other_sym}

module _ {E : Type 0} where
  entries_none : (key : SubKey) (q : List (SubKey × E)) → has_entry key q ≡ false → entries_of key q ≡ []
  entries_none key [] none = refl
  entries_none key (w ∷ q) none =
      let parts = or_parts (same key w.0) (has_entry key q) none in rw parts.0 (entries_none key q parts.1)

  entries_push : (key k : SubKey) (entry : E) (q : List (SubKey × E)) → entries_of key (q ++ (k, entry) ∷ []) ≡ entries_of key q ++ cond (same key k) (entry ∷ []) []
  entries_push key k entry [] = refl
  entries_push key k entry (w ∷ q) =
      elim (cases_Bool (same key w.0)) [
        | inl is ↦ rw is (ap (λ (es : List E). w.1 ∷ es) (entries_push key k entry q))
        | inr other ↦ rw other (entries_push key k entry q)
      ]

  -- the last of these became another one
  pub record Replaced (old new : List E) (entry : E) : Type 0 where
    pub front : List E
    pub last : E
    pub was : old ≡ front ++ last ∷ []
    pub is : new ≡ front ++ entry ∷ []

  Replaced-cons : (x : E) (old new : List E) (entry : E) → Replaced old new entry → Replaced (x ∷ old) (x ∷ new) entry
  Replaced-cons x old new entry r =
      record { front = x ∷ r.front; last = r.last; was = ap (λ es. x ∷ es) r.was; is = ap (λ es. x ∷ es) r.is }

  entries_with_last : (key : SubKey) (entry : E) (q : List (SubKey × E)) → has_entry key q ≡ true → Replaced (entries_of key q) (entries_of key (with_last key entry q)) entry
  entries_with_last key entry [] some = absurd (both_ways false refl some)
  entries_with_last key entry (w ∷ q) some = go (same key w.0) (has_entry key q) refl refl some (entries_with_last key entry q)
    where
      go : (s h : Bool) → same key w.0 ≡ s → has_entry key q ≡ h → (s || h) ≡ true → (has_entry key q ≡ true → Replaced (entries_of key q) (entries_of key (with_last key entry q)) entry) → Replaced (cond s (w.1 ∷ entries_of key q) (entries_of key q)) (entries_of key (cond (s && not h) ((key, entry) ∷ q) (w ∷ with_last key entry q))) entry
      go true false is none some rest = record {
        front = [];
        last = w.1;
        was = ap (λ (es : List E). w.1 ∷ es) (entries_none key q none);
        is = ap (λ (b : Bool). cond b (entry ∷ entries_of key q) (entries_of key q)) (same_itself key) ∙ ap (λ (es : List E). entry ∷ es) (entries_none key q none);
      }
      go true true is more some rest = rw is (Replaced-cons w.1 (entries_of key q) (entries_of key (with_last key entry q)) entry (rest more))
      go false h other h_is some rest = rw other (rest (h_is ∙ some))

  others_with_last : (key k : SubKey) (entry : E) (q : List (SubKey × E)) → same key k ≡ false → entries_of k (with_last key entry q) ≡ entries_of k q
  others_with_last key k entry [] other = refl
  others_with_last key k entry (w ∷ q) other = go (same key w.0) (has_entry key q) refl (others_with_last key k entry q other)
    where
      go : (s h : Bool) → same key w.0 ≡ s → entries_of k (with_last key entry q) ≡ entries_of k q → entries_of k (cond (s && not h) ((key, entry) ∷ q) (w ∷ with_last key entry q)) ≡ entries_of k (w ∷ q)
      go true false is rest =
          let not_new : same k key ≡ false = other_sym key k other in
          let not_old : same k w.0 ≡ false = subst (λ (s : SubKey). same k s ≡ false) (same_is key w.0 is) not_new in
          rw (not_new, not_old) refl
      go true true is rest = ap (λ (es : List E). cond (is_of k w) (w.1 ∷ es) es) rest
      go false h is rest = ap (λ (es : List E). cond (is_of k w) (w.1 ∷ es) es) rest

  -- a post puts its entry after the others of its subscription, or in place of the last of them
  pub entries_posted : (on : Bool) (key : SubKey) (entry : E) (q : List (SubKey × E)) → (entries_of key (after_post on key entry q) ≡ entries_of key q ++ entry ∷ []) ⊎ Replaced (entries_of key q) (entries_of key (after_post on key entry q)) entry
  entries_posted on key entry q = go (replaces on key q) refl
    where
      go : (b : Bool) → replaces on key q ≡ b → (entries_of key (cond b (with_last key entry q) (q ++ (key, entry) ∷ [])) ≡ entries_of key q ++ entry ∷ []) ⊎ Replaced (entries_of key q) (entries_of key (cond b (with_last key entry q) (q ++ (key, entry) ∷ []))) entry
      go true goes = inr (entries_with_last key entry q (and_parts _ _ goes).0)
      go false goes = inl (entries_push key key entry q ∙ ap (λ (b : Bool). entries_of key q ++ cond b (entry ∷ []) []) (same_itself key))

  pub others_posted : (on : Bool) (key k : SubKey) (entry : E) (q : List (SubKey × E)) → same key k ≡ false → entries_of k (after_post on key entry q) ≡ entries_of k q
  others_posted on key k entry q other = go (replaces on key q)
    where
      go : (b : Bool) → entries_of k (cond b (with_last key entry q) (q ++ (key, entry) ∷ [])) ≡ entries_of k q
      go true = others_with_last key k entry q other
      go false =
          entries_push k key entry q ∙ ap (λ (b : Bool). entries_of k q ++ cond b (entry ∷ []) []) (other_sym key k other) ∙ append-nil (entries_of k q)

  -- a take returns the front, or changes nothing
  pub front_taken : (on : Bool) (w : SubKey × E) (q : List (SubKey × E)) → Some w ≡ taken on q → q ≡ w ∷ after_take on q
  front_taken on w q given = go (may_take on q) q given
    where
      go : (b : Bool) (q : List (SubKey × E)) → Some w ≡ cond b (front q) None → q ≡ w ∷ cond b (drop 1 q) q
      go false q given = cc
      go true [] given = cc
      go true (v ∷ q) given = cc

  pub none_taken : (on : Bool) (q : List (SubKey × E)) → None ≡ taken on q → after_take on q ≡ q
  none_taken on q given = go (may_take on q) q given
    where
      go : (b : Bool) (q : List (SubKey × E)) → None ≡ cond b (front q) None → cond b (drop 1 q) q ≡ q
      go false q given = refl
      go true [] given = refl
      go true (v ∷ q) given = cc

  -- a cancel takes out the entries of its subscription, and keeps the others
  pub entries_cancelled : (key : SubKey) (q : List (SubKey × E)) → entries_of key (after_cancel key q) ≡ []
  entries_cancelled key [] = refl
  entries_cancelled key (w ∷ q) =
      elim (cases_Bool (same key w.0)) [
        | inl is ↦ rw is (entries_cancelled key q)
        | inr other ↦ rw (other, other) (entries_cancelled key q)
      ]

  pub others_cancelled : (key k : SubKey) (q : List (SubKey × E)) → same key k ≡ false → entries_of k (after_cancel key q) ≡ entries_of k q
  others_cancelled key k [] other = refl
  others_cancelled key k (w ∷ q) other =
      elim (cases_Bool (same key w.0)) [
        | inl is ↦
            let not_old : same k w.0 ≡ false = subst (λ (s : SubKey). same k s ≡ false) (same_is key w.0 is) (other_sym key k other) in
            rw (is, not_old) (others_cancelled key k q other)
        | inr not_it ↦ rw not_it (ap (λ (es : List E). cond (is_of k w) (w.1 ∷ es) es) (others_cancelled key k q other))
      ]

  -- so its entry is the last of its subscription
  pub last_posted : (on : Bool) (key : SubKey) (entry : E) (q : List (SubKey × E)) → last_of (entries_of key (after_post on key entry q)) ≡ Some entry
  last_posted on key entry q =
      elim (entries_posted on key entry q) [
        | inl behind ↦ ap last_of behind ∙ last_push None (entries_of key q) entry
        | inr replaced ↦ ap last_of replaced.is ∙ last_push None replaced.front entry
      ]

  -- a take returns its subscription's first entry
  pub first_taken : (on : Bool) (key : SubKey) (entry : E) (q : List (SubKey × E)) → Some (key, entry) ≡ taken on q → entries_of key q ≡ entry ∷ entries_of key (after_take on q)
  first_taken on key entry q given =
      ap (entries_of key) (front_taken on (key, entry) q given)
      ∙ ap (λ (b : Bool). cond b (entry ∷ entries_of key (after_take on q)) (entries_of key (after_take on q))) (same_itself key)

  pub others_taken : (on : Bool) (key other : SubKey) (entry : E) (q : List (SubKey × E)) → Some (key, entry) ≡ taken on q → same key other ≡ false → entries_of other (after_take on q) ≡ entries_of other q
  others_taken on key other entry q given differs =
      sym (ap (entries_of other) (front_taken on (key, entry) q given)
      ∙ ap (λ (b : Bool). cond b (entry ∷ entries_of other (after_take on q)) (entries_of other (after_take on q))) (other_sym key other differs))
