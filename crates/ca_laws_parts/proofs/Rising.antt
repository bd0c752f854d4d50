-- What each call of a queue does to the numbers of one subscription.
use Rattle.std.proofs.Common.{◌≡◌, ℕ, ◌+◌, ◌<◌, ◌≤◌, false, List, [], ◌∷◌, ◌++◌, length, Some, None, refl, sym, ap, ◌∙◌, subst, inl, inr, arith}
use Rattle.std.specs.Prelude.{map}
use Rattle.std.proofs.lemmas.List.{append_assoc, map-append}
use Rattle.ca_text.specs.Place.{At}
use Rattle.ca_text.proofs.Places.{At-append, At-back, At-last, At-snoc, At-within}
use Rattle.ca_queue.specs.declared.entry.SubKey.{SubKey}
use Rattle.ca_queue.specs.Keys.{same}
use Rattle.ca_queue.specs.Queue.{Queue, added, cancelled, posted, with_front_taken}
use Rattle.ca_queue.specs.Waiting.{after_take, entries_of, taken}
use Rattle.ca_queue.proofs.Subscribers.{entries_posted, first_taken, none_taken, others_cancelled, others_posted, others_taken}
use Rattle.ca_laws_parts.specs.Rising.{EndsIn, Rises, Rising}
use Rattle.ca_laws_parts.proofs.UpdatesNumbers.{none_at}

-- ---- numbers that rise

pub rises-front : (xs ys : List ℕ) → Rises (xs ++ ys) → Rises xs
rises-front xs ys rise i j a b lt p q = rise i j a b lt (At-append xs ys i a p) (At-append xs ys j b q)

pub rises-push : (xs : List ℕ) (n : ℕ) → Rises xs → ((i a : ℕ) → At xs i a → a < n) → Rises (xs ++ n ∷ [])
rises-push xs n rise below i j a b lt p q =
    elim (At-snoc xs n j b q) [
      | inl old ↦
          let in_it : j < length xs = At-within xs j b old in
          rise i j a b lt (At-back xs (n ∷ []) i a p (omega (arith, in_it, lt))) old
      | inr new ↦
          let last : j ≡ length xs = new.0 in
          let less : a < n = below i a (At-back xs (n ∷ []) i a p (omega (arith, last, lt))) in
          let is : b ≡ n = new.1 in
          omega (arith, less, is)
    ]

-- the last is the greatest
pub ends-greatest : (xs : List ℕ) (n : ℕ) → Rises xs → EndsIn xs n → (i a : ℕ) → At xs i a → a ≤ n
ends-greatest xs n rise ends i a at =
    elim (At-snoc ends.front n i a (subst (λ (l : List ℕ). At l i a) ends.is at)) [
      | inl old ↦
          let in_it : i < length ends.front = At-within ends.front i a old in
          let last : At xs (length ends.front) n = subst (λ (l : List ℕ). At l (length ends.front) n) (sym ends.is) (At-last ends.front n) in
          let less : a < n = rise i (length ends.front) a n in_it at last in
          omega (arith, less)
      | inr new ↦ (let is : a ≡ n = new.1 in omega (arith, is))
    ]

-- ---- how entries carry numbers

map-split : {E : Type 0} (f : ℕ → E) (ns : List ℕ) (front : List E) (last : E) → map f ns ≡ front ++ last ∷ [] → (ms : List ℕ) × (n : ℕ) × (ns ≡ ms ++ n ∷ []) × (map f ms ≡ front)
map-split f [] [] last e = absurd cc
map-split f [] (x ∷ front) last e = absurd cc
map-split f (n ∷ []) [] last e = ([], n, refl, refl)
map-split f (n ∷ m ∷ ns) [] last e = absurd cc
map-split {E} f (n ∷ []) (x ∷ []) last e = absurd cc
map-split {E} f (n ∷ []) (x ∷ y ∷ front) last e = absurd cc
map-split {E} f (n ∷ m ∷ ns) (x ∷ front) last e =
    let tail : map f (m ∷ ns) ≡ front ++ last ∷ [] = cc in
    let head : f n ≡ x = cc in
    let r = map-split f (m ∷ ns) front last tail in
    (n ∷ r.0, r.1, ap (λ (l : List ℕ). n ∷ l) r.2, λ i. head i ∷ r.3 i)

module _ {E : Type 0} (stamp : ℕ → E) (key : SubKey) where
  -- what was taken rises, whatever waits
  pub rising-gone : (gone : List ℕ) (next : ℕ) (q : Queue E) → Rising stamp key gone next q → Rises gone
  rising-gone gone next q r = rises-front gone r.wait r.rise

  -- the queue's entries of this subscription are as they were
  rising-same : (gone : List ℕ) (next : ℕ) (q q' : Queue E) → entries_of key q'.waiting ≡ entries_of key q.waiting → Rising stamp key gone next q → Rising stamp key gone next q'
  rising-same gone next q q' e r =
      record { wait = r.wait; are = e ∙ r.are; rise = r.rise; newest = r.newest; ends = r.ends; next_is = r.next_is }

  pub rising-added : (gone : List ℕ) (next : ℕ) (k : SubKey) (q : Queue E) → Rising stamp key gone next q → Rising stamp key gone next (added k q)
  rising-added gone next k q r = rising-same gone next q (added k q) refl r

  rising-push : (gone : List ℕ) (next : ℕ) (q' : Queue E) (wait : List ℕ) → entries_of key q'.waiting ≡ map stamp (wait ++ next ∷ []) → Rises (gone ++ wait) → ((i a : ℕ) → At (gone ++ wait) i a → a < next) → Rising stamp key gone (next + 1) q'
  rising-push gone next q' wait are rise below =
      let assoc : (gone ++ wait) ++ next ∷ [] ≡ gone ++ (wait ++ next ∷ []) = append_assoc gone wait (next ∷ []) in
      record {
        wait = wait ++ next ∷ [];
        are = are;
        rise = subst (λ (l : List ℕ). Rises l) assoc (rises-push (gone ++ wait) next rise below);
        newest = next;
        ends = record { front = gone ++ wait; is = sym assoc };
        next_is = refl;
      }

  -- a subscription begins with number 0
  pub rising-begins : (q : Queue E) → entries_of key q.waiting ≡ [] → Rising stamp key [] 1 (posted key (stamp 0) (added key q))
  rising-begins q none =
      rising-push [] 0 (posted key (stamp 0) (added key q)) [] (elim (entries_posted q.events_on key (stamp 0) q.waiting) [
        | inl behind ↦ behind ∙ ap (λ (l : List E). l ++ stamp 0 ∷ []) none
        | inr replaced ↦ absurd (no_end replaced.front replaced.last (sym none ∙ replaced.was))
      ]) (λ i j a b lt p q. absurd (none_at i a p)) (λ i a p. absurd (none_at i a p))
    where
      no_end : (front : List E) (last : E) → [] ≡ front ++ last ∷ [] → ⊥
      no_end [] last e = cc
      no_end (x ∷ front) last e = cc

  -- a post goes after the others, or takes the place of the last of them
  pub rising-posted : (gone : List ℕ) (next : ℕ) (q : Queue E) → Rising stamp key gone next q → Rising stamp key gone (next + 1) (posted key (stamp next) q)
  rising-posted gone next q r =
      let below : (i a : ℕ) → At (gone ++ r.wait) i a → a < next =
      λ i a at. (let le : a ≤ r.newest = ends-greatest (gone ++ r.wait) r.newest r.rise r.ends i a at in let is : next ≡ r.newest + 1 = r.next_is in omega (arith, le, is)) in
      elim (entries_posted q.events_on key (stamp next) q.waiting) [
        | inl behind ↦
            rising-push gone next (posted key (stamp next) q) r.wait (behind ∙ ap (λ (l : List E). l ++ stamp next ∷ []) r.are ∙ sym (map-append stamp r.wait (next ∷ []))) r.rise below
        | inr replaced ↦
            let parts = map-split stamp r.wait replaced.front replaced.last (sym r.are ∙ replaced.was) in
            let whole : gone ++ r.wait ≡ (gone ++ parts.0) ++ parts.1 ∷ [] = ap (λ (l : List ℕ). gone ++ l) parts.2 ∙ sym (append_assoc gone parts.0 (parts.1 ∷ [])) in
            let rise : Rises (gone ++ parts.0) = rises-front (gone ++ parts.0) (parts.1 ∷ []) (subst (λ (l : List ℕ). Rises l) whole r.rise) in
            rising-push gone next (posted key (stamp next) q) parts.0 (replaced.is ∙ ap (λ (l : List E). l ++ stamp next ∷ []) (sym parts.3) ∙ sym (map-append stamp parts.0 (next ∷ []))) rise
            (λ i a at. below i a (subst (λ (l : List ℕ). At l i a) (sym whole) (At-append (gone ++ parts.0) (parts.1 ∷ []) i a at)))
      ]

  pub rising-other-post : (gone : List ℕ) (next : ℕ) (k : SubKey) (entry : E) (q : Queue E) → same k key ≡ false → Rising stamp key gone next q → Rising stamp key gone next (posted k entry q)
  rising-other-post gone next k entry q other r =
      rising-same gone next q (posted k entry q) (others_posted q.events_on k key entry q.waiting other) r

  -- a take returns the first number that waits
  pub rising-taken : (gone : List ℕ) (next : ℕ) (entry : E) (q : Queue E) → taken q.events_on q.waiting ≡ Some (key, entry) → Rising stamp key gone next q
      → (n : ℕ) × (entry ≡ stamp n) × Rising stamp key (gone ++ n ∷ []) next (with_front_taken q)
  rising-taken gone next entry q given r = go r.wait refl
    where
      left : entry ∷ entries_of key (after_take q.events_on q.waiting) ≡ map stamp r.wait
      left = sym (first_taken q.events_on key entry q.waiting (sym given)) ∙ r.are

      go : (wait : List ℕ) → r.wait ≡ wait → (n : ℕ) × (entry ≡ stamp n) × Rising stamp key (gone ++ n ∷ []) next (with_front_taken q)
      go [] is = absurd (none (entries_of key (after_take q.events_on q.waiting)) (left ∙ ap (λ (l : List ℕ). map stamp l) is))
        where
          none : (es : List E) → entry ∷ es ≡ [] → ⊥
          none es e = cc
      go (n ∷ wait) is =
          let e : entry ∷ entries_of key (after_take q.events_on q.waiting) ≡ stamp n ∷ map stamp wait = left ∙ ap (λ (l : List ℕ). map stamp l) is in
          let assoc : gone ++ r.wait ≡ (gone ++ n ∷ []) ++ wait = ap (λ (l : List ℕ). gone ++ l) is ∙ sym (append_assoc gone (n ∷ []) wait) in (
            n,
            head _ _ e,
            record {
              wait = wait;
              are = tail _ _ e;
              rise = subst (λ (l : List ℕ). Rises l) assoc r.rise;
              newest = r.newest;
              ends = record { front = r.ends.front; is = sym assoc ∙ r.ends.is };
              next_is = r.next_is;
            },
          )
        where
          head : (es fs : List E) → entry ∷ es ≡ stamp n ∷ fs → entry ≡ stamp n
          head es fs e = cc

          tail : (es fs : List E) → entry ∷ es ≡ stamp n ∷ fs → es ≡ fs
          tail es fs e = cc

  pub rising-other-taken : (gone : List ℕ) (next : ℕ) (k : SubKey) (entry : E) (q : Queue E) → taken q.events_on q.waiting ≡ Some (k, entry) → same k key ≡ false → Rising stamp key gone next q → Rising stamp key gone next (with_front_taken q)
  rising-other-taken gone next k entry q given other r =
      rising-same gone next q (with_front_taken q) (others_taken q.events_on k key entry q.waiting (sym given) other) r

  pub rising-none-taken : (gone : List ℕ) (next : ℕ) (q : Queue E) → taken q.events_on q.waiting ≡ None → Rising stamp key gone next q → Rising stamp key gone next (with_front_taken q)
  rising-none-taken gone next q given r =
      rising-same gone next q (with_front_taken q) (ap (entries_of key) (none_taken q.events_on q.waiting (sym given))) r

  pub rising-other-cancelled : (gone : List ℕ) (next : ℕ) (k : SubKey) (q : Queue E) → same k key ≡ false → Rising stamp key gone next q → Rising stamp key gone next (cancelled k q)
  rising-other-cancelled gone next k q other r =
      rising-same gone next q (cancelled k q) (others_cancelled k key q.waiting other) r
