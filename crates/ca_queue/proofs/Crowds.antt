-- Whether some subscription has two entries or more: by the counts, and by the entries.
use Rattle.std.proofs.Common.{◌≡◌, ◌<◌, Bool, true, false, ◌||◌, List, [], ◌∷◌, refl, sym, ap, ◌∙◌, inl, inr, arith, ltb}
use Rattle.std.specs.List.{list_any}
use Rattle.std.proofs.lemmas.Bool.{cases_Bool, both_ways, or_cases, or_left, or_right, ltb-true, lt-ltb}
use Rattle.ca_queue.specs.declared.entry.SubKey.{SubKey}
use Rattle.ca_queue.specs.Keys.{same, is_among}
use Rattle.ca_queue.specs.Waiting.{has_entry, count_of, is_crowded}
use Rattle.ca_queue.specs.Layout.{counts}
use Rattle.ca_queue.proofs.Keys.{same_itself, same_is, any_among, found_among}
use Rattle.ca_queue.proofs.Entries.{has_count}

both : (a b : Bool) → (a ≡ true → b ≡ true) → (b ≡ true → a ≡ true) → a ≡ b
both true b there back = sym (there refl)
both false b there back =
    elim (cases_Bool b) [ inl is ↦ back is ∙ sym is | inr other ↦ sym other ]

module _ {E : Type 0} where
  any_of : (p : SubKey → Bool) (key : SubKey) (q : List (SubKey × E)) → has_entry key q ≡ true → p key ≡ true → list_any (λ w. p w.0) q ≡ true
  any_of p key [] there h = absurd (both_ways false refl there)
  any_of p key (w ∷ q) there h =
      elim (or_cases (same key w.0) (has_entry key q) there) [
        | inl is ↦ or_left (p w.0) (list_any (λ v. p v.0) q) (ap p (sym (same_is key w.0 is)) ∙ h)
        | inr later ↦ or_right (p w.0) (list_any (λ v. p v.0) q) (any_of p key q later h)
      ]

  found_of : (p : SubKey → Bool) (q : List (SubKey × E)) → list_any (λ w. p w.0) q ≡ true → (k : SubKey) × ((p k ≡ true) × (has_entry k q ≡ true))
  found_of p [] some = absurd (both_ways false refl some)
  found_of p (w ∷ q) some =
      elim (or_cases (p w.0) (list_any (λ v. p v.0) q) some) [
        | inl here ↦ (w.0, (here, or_left (same w.0 w.0) (has_entry w.0 q) (same_itself w.0)))
        | inr later ↦
            let found = found_of p q later in
            (found.0, (found.1.0, or_right (same found.0 w.0) (has_entry found.0 q) found.1.1))
      ]

  abbrev crowds : List (SubKey × E) → SubKey → Bool
  crowds q k = ltb 1 (count_of k q)

  by_subscriptions : (keys : List SubKey) (q : List (SubKey × E)) → list_any (λ s. ltb 1 s.waiting) (counts keys q) ≡ list_any (crowds q) keys
  by_subscriptions [] q = refl
  by_subscriptions (k ∷ keys) q = ap (λ (b : Bool). ltb 1 (count_of k q) || b) (by_subscriptions keys q)

  has_some : (k : SubKey) (q : List (SubKey × E)) → crowds q k ≡ true → has_entry k q ≡ true
  has_some k q many =
      let two : 1 < count_of k q = ltb-true 1 (count_of k q) many in has_count k q ∙ lt-ltb 0 (count_of k q) (omega arith)

  -- by the subscriptions that were added
  pub crowded_keys : (keys : List SubKey) (q : List (SubKey × E)) → ((k : SubKey) → has_entry k q ≡ true → is_among k keys ≡ true) → list_any (λ k. ltb 1 (count_of k q)) keys ≡ is_crowded q
  crowded_keys keys q known =
      both (list_any (crowds q) keys) (is_crowded q)
      (λ some. let found = found_among (crowds q) keys some in any_of (crowds q) found.0 q (has_some found.0 q found.1) found.1)
      (λ some. let found = found_of (crowds q) q some in any_among (crowds q) found.0 keys (known found.0 found.1.1) found.1.0)

  pub crowded_counts : (keys : List SubKey) (q : List (SubKey × E)) → ((k : SubKey) → has_entry k q ≡ true → is_among k keys ≡ true) → list_any (λ s. ltb 1 s.waiting) (counts keys q) ≡ is_crowded q
  crowded_counts keys q known = by_subscriptions keys q ∙ crowded_keys keys q known
