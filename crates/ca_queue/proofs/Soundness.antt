-- What holds of every queue stays true at each call.
use Rattle.std.proofs.Common.{◌≡◌, ◌+◌, ◌<◌, ◌≤◌, Bool, true, false, not, ◌||◌, cond, List, [], ◌∷◌, ◌++◌, length, drop, refl, sym, ap, ◌∙◌, subst, inl, inr, arith, leb, lit≤}
use Rattle.std.proofs.lemmas.Bool.{cases_Bool, both_ways, or_cases, or_left, or_right, or_parts, and_cases, leb-false}
use Rattle.std.proofs.lemmas.List.{length_push}
use Rattle.std.proofs.lemmas.List.Sums.{count_by-le-length, sum_by_push, length-filter}
use Rattle.ca_text.specs.Limits.{queue_places, queue_low_places, queue_subscriptions}
use Rattle.ca_queue.specs.declared.entry.SubKey.{SubKey}
use Rattle.ca_queue.specs.Keys.{same, is_among}
use Rattle.ca_queue.specs.Waiting.{has_entry, free_places, replaces, with_last, after_cancel, may_take}
use Rattle.ca_queue.specs.Queue.{Queue, no_queue, added, posted, with_front_taken, cancelled, switched}
use Rattle.ca_queue.specs.Sound.{IsSound, occupied}
use Rattle.ca_queue.proofs.Keys.{same_itself, same_is, other_sym, number_of, among_push, among_without, apart_push, apart_without, AreAlike, counts_agree, counts_near, counts_more, counts_without}
use Rattle.ca_queue.proofs.Entries.{has_alike, length_alike, keys_with_last, has_push, has_without, has_none, length_without}

module _ {E : Type 0} where
  pub sound_none : IsSound (no_queue {E = E})
  sound_none = record { fits = lit≤ tt; few = lit≤ tt; apart = tt; known = λ key h. absurd (both_ways false refl h); roomy = lit≤ tt }

  pub sound_switched : (on : Bool) (q : Queue E) → IsSound q → IsSound (switched on q)
  sound_switched on q sound =
      record { fits = sound.fits; few = sound.few; apart = sound.apart; known = sound.known; roomy = sound.roomy }

  pub sound_added : (key : SubKey) (q : Queue E) → length q.subscriptions < queue_subscriptions → is_among key q.subscriptions ≡ false → IsSound q → IsSound (added key q)
  sound_added key q room new sound = record {
    fits = sound.fits;
    few = omega (arith, length_push q.subscriptions key);
    apart = apart_push key q.subscriptions sound.apart new;
    known = λ k h. among_push k key q.subscriptions ∙ or_left (is_among k q.subscriptions) (same k key) (sound.known k h);
    roomy = omega (arith, sound.roomy, sum_by_push (λ k. number_of (has_entry k q.waiting)) q.subscriptions key);
  }

  -- the last entry of the subscription is another one
  replaced : (key : SubKey) (entry : E) (q : Queue E) → IsSound q → IsSound (record { waiting = with_last key entry q.waiting; subscriptions = q.subscriptions; events_on = q.events_on })
  replaced key entry q sound =
      let keys = keys_with_last key entry q.waiting in
      let same_length : length (with_last key entry q.waiting) ≡ length q.waiting = length_alike (with_last key entry q.waiting) q.waiting keys in
      record {
        fits = omega (arith, sound.fits);
        few = sound.few;
        apart = sound.apart;
        known = λ k h. sound.known k (sym (has_alike k (with_last key entry q.waiting) q.waiting keys) ∙ h);
        roomy = omega (arith, sound.fits, sound.roomy, counts_agree (λ k. has_entry k (with_last key entry q.waiting)) (λ k. has_entry k q.waiting) q.subscriptions (λ k. has_alike k (with_last key entry q.waiting) q.waiting keys));
      }

  -- a subscription with no entry: then few enough others have one
  few_occupied : (key : SubKey) (q : Queue E) → is_among key q.subscriptions ≡ true → has_entry key q.waiting ≡ false → IsSound q → occupied q + 1 ≤ queue_subscriptions
  few_occupied key q there none sound =
      let p : SubKey → Bool = λ k. has_entry k q.waiting in
      let r : SubKey → Bool = λ k. has_entry k q.waiting || same k key in
      let alike : AreAlike p r key = λ k other. sym (or_same (has_entry k q.waiting) (same k key) (other_sym key k other)) in
      let now : r key ≡ true = or_right (has_entry key q.waiting) (same key key) (same_itself key) in
      omega (arith, sound.few, counts_more p r key q.subscriptions sound.apart alike there none now, count_by-le-length r q.subscriptions)
    where
      or_same : (a b : Bool) → b ≡ false → (a || b) ≡ a
      or_same true b none = refl
      or_same false b none = none

  -- an entry at the back finds a place
  pub finds_place : (key : SubKey) (q : Queue E) → is_among key q.subscriptions ≡ true → replaces q.events_on key q.waiting ≡ false → IsSound q → length q.waiting < queue_places
  finds_place key q there goes sound =
      elim (and_cases (has_entry key q.waiting) (leb (free_places q.waiting) queue_low_places || not q.events_on) goes) [
        | inl none ↦ omega (arith, sound.roomy, few_occupied key q there none sound)
        | inr many ↦
            omega (arith, leb-false (free_places q.waiting) queue_low_places (or_parts (leb (free_places q.waiting) queue_low_places) (not q.events_on) many).0)
      ]

  pushed : (key : SubKey) (entry : E) (q : Queue E) → is_among key q.subscriptions ≡ true → replaces q.events_on key q.waiting ≡ false → IsSound q → IsSound (record { waiting = q.waiting ++ (key, entry) ∷ []; subscriptions = q.subscriptions; events_on = q.events_on })
  pushed key entry q there goes sound =
      let place = finds_place key q there goes sound in
      let longer : length (q.waiting ++ (key, entry) ∷ []) ≡ length q.waiting + 1 = length_push q.waiting (key, entry) in
      let p : SubKey → Bool = λ k. has_entry k q.waiting in
      let r : SubKey → Bool = λ k. has_entry k (q.waiting ++ (key, entry) ∷ []) in
      let alike : AreAlike p r key =
      λ k other. sym (has_push k key entry q.waiting ∙ or_same (has_entry k q.waiting) (same k key) (other_sym key k other)) in
      let now : r key ≡ true = has_push key key entry q.waiting ∙ or_right (has_entry key q.waiting) (same key key) (same_itself key) in
      record {
        fits = omega arith;
        few = sound.few;
        apart = sound.apart;
        known = λ k h.
            elim (or_cases (has_entry k q.waiting) (same k key) (sym (has_push k key entry q.waiting) ∙ h)) [
              | inl had ↦ sound.known k had
              | inr is ↦ subst (λ (s : SubKey). is_among s q.subscriptions ≡ true) (sym (same_is k key is)) there
            ];
        roomy = elim (and_cases (has_entry key q.waiting) (leb (free_places q.waiting) queue_low_places || not q.events_on) goes) [
          | inl none ↦ omega (arith, sound.roomy, counts_more p r key q.subscriptions sound.apart alike there none now)
          | inr many ↦
              omega (arith, leb-false (free_places q.waiting) queue_low_places (or_parts (leb (free_places q.waiting) queue_low_places) (not q.events_on) many).0)
        ];
      }
    where
      or_same : (a b : Bool) → b ≡ false → (a || b) ≡ a
      or_same true b none = refl
      or_same false b none = none

  pub sound_posted : (key : SubKey) (entry : E) (q : Queue E) → is_among key q.subscriptions ≡ true → IsSound q → IsSound (posted key entry q)
  sound_posted key entry q there sound = go (replaces q.events_on key q.waiting) refl
    where
      go : (b : Bool) → replaces q.events_on key q.waiting ≡ b → IsSound (record { waiting = cond b (with_last key entry q.waiting) (q.waiting ++ (key, entry) ∷ []); subscriptions = q.subscriptions; events_on = q.events_on })
      go true goes = replaced key entry q sound
      go false goes = pushed key entry q there goes sound

  -- what is after the front
  pub sound_rest : (w : SubKey × E) (rest : List (SubKey × E)) (keys : List SubKey) (on : Bool) → IsSound (record { waiting = w ∷ rest; subscriptions = keys; events_on = on }) → IsSound (record { waiting = rest; subscriptions = keys; events_on = on })
  sound_rest w rest keys on sound =
      let p : SubKey → Bool = λ k. has_entry k (w ∷ rest) in
      let r : SubKey → Bool = λ k. has_entry k rest in
      let alike : AreAlike p r w.0 = λ k other. ap (λ (b : Bool). b || has_entry k rest) (other_sym w.0 k other) in
      record {
        fits = omega (arith, sound.fits);
        few = sound.few;
        apart = sound.apart;
        known = λ k h. sound.known k (or_right (same k w.0) (has_entry k rest) h);
        roomy = omega (arith, sound.fits, sound.roomy, counts_near p r w.0 keys sound.apart alike);
      }

  pub sound_taken : (q : Queue E) → IsSound q → IsSound (with_front_taken q)
  sound_taken q sound = go (may_take q.events_on q.waiting) q.waiting sound
    where
      go : (b : Bool) (waiting : List (SubKey × E)) → IsSound (record { waiting = waiting; subscriptions = q.subscriptions; events_on = q.events_on }) → IsSound (record { waiting = cond b (drop 1 waiting) waiting; subscriptions = q.subscriptions; events_on = q.events_on })
      go false waiting kept = kept
      go true [] kept = kept
      go true (w ∷ rest) kept = sound_rest w rest q.subscriptions q.events_on kept

  pub sound_cancelled : (key : SubKey) (q : Queue E) → IsSound q → IsSound (cancelled key q)
  sound_cancelled key q sound =
      let p : SubKey → Bool = λ k. has_entry k q.waiting in
      let r : SubKey → Bool = λ k. has_entry k (after_cancel key q.waiting) in
      let alike : AreAlike p r key = λ k other. sym (has_without k key q.waiting other) in
      record {
        fits = omega (arith, sound.fits, length_without key q.waiting);
        few = omega (arith, sound.few, length-filter (λ s. not (same key s)) q.subscriptions, count_by-le-length (λ s. not (same key s)) q.subscriptions);
        apart = apart_without key q.subscriptions sound.apart;
        known = λ k h.
            elim (cases_Bool (same key k)) [
              | inl is ↦ absurd (both_ways (has_entry key (after_cancel key q.waiting)) (has_none key q.waiting) (subst (λ (s : SubKey). has_entry s (after_cancel key q.waiting) ≡ true) (sym (same_is key k is)) h))
              | inr other ↦ among_without k key q.subscriptions other ∙ sound.known k (sym (has_without k key q.waiting other) ∙ h)
            ];
        roomy = omega (arith, sound.fits, sound.roomy, length_without key q.waiting, counts_without p r key q.subscriptions sound.apart alike);
      }
