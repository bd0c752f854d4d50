-- An update that waits, by its place in its queue.
use Rattle.std.proofs.Common.{◌≡◌, ℕ, zero, suc, ◌+◌, ◌<◌, ◌≤◌, inl, inr, Bool, true, false, cond, List, [], ◌∷◌, ◌++◌, length, drop, filter, get_or, map, Option, Some, None, refl, sym, ap, ◌∙◌, subst, arith}
use Rattle.std.specs.Prelude.{◌==◌, option_and_then, option_map, slice_get}
use Rattle.std.specs.Map.{lookup}
use Rattle.std.proofs.lemmas.Bool.{both_ways, cases_Bool, eq-eqb, ne_eqb}
use Rattle.std.proofs.lemmas.List.{at_drop_all, at_drop_more, length-map}
use Rattle.std.proofs.lemmas.Map.Keys.{any_passes_from_place}
use Rattle.std.proofs.lemmas.Option.{slice_get-map, slice_get_past}
use Rattle.ca_text.specs.Place.{At}
use Rattle.ca_text.proofs.Places.{At-map, At-mapped, At-one, At-or, At-within, some_is}
use Rattle.ca_queue.specs.declared.entry.SubKey.{SubKey}
use Rattle.ca_queue.specs.Circuit.{entry_in}
use Rattle.ca_queue.specs.Keys.{AreApart, is_among, same}
use Rattle.ca_queue.specs.Queue.{Queue}
use Rattle.ca_queue.proofs.Keys.{other_sym, same_itself}
use Rattle.ca_wire.specs.declared.requests.Wanted.{Wanted}
use Rattle.ca_model.specs.Server.{Subscription, key_of}
use Rattle.ca_model.specs.Speech.{In, Stored}
use Rattle.ca_server_subscriptions.proofs.Owing.{entry_of, its, laid-out, map-both, owing}
use Rattle.ca_server_subscriptions.proofs.Placing.{Entry, Q, whole}
use Rattle.ca_server_subscriptions.specs.declared.waiting.Addressee.{Addressee}
use Rattle.ca_server_subscriptions.specs.Owing.{AreEmpty, HasOnly, IsOwing, keys_of, those_in, with_owed}
use Rattle.ca_server_subscriptions.specs.Pumping.{GivesAt}
use Rattle.ca_server_subscriptions.specs.Subscribed.{ArePlaced, Standings, Subscribed, keys_in, subscriptions_in}

-- ---- one of those whom the update beside the queues is for

-- the one that has this number among those in the queue at this place
abbrev pub key_in : (place index : ℕ) → List Addressee → Option SubKey
key_in place index owed = slice_get (keys_of (those_in place owed)) index

module _ (place : ℕ) (a : Addressee) (owed : List Addressee) where
  own-first : a.queue ≡ place → keys_of (those_in place (a ∷ owed)) ≡ a.key ∷ keys_of (those_in place owed)
  own-first own = ap (λ (b : Bool). keys_of (cond b (a ∷ those_in place owed) (those_in place owed))) (eq-eqb a.queue place own)

  other-left : (a.queue ≡ place → ⊥) → keys_of (those_in place (a ∷ owed)) ≡ keys_of (those_in place owed)
  other-left other = ap (λ (b : Bool). keys_of (cond b (a ∷ those_in place owed) (those_in place owed))) (ne_eqb a.queue place other)

-- one more is looked at
module _ (place index n : ℕ) (owed : List Addressee) (i : ℕ) (a : Addressee) (lt : i < length owed) (is : a ≡ get_or owed i a) (was : key_in place n (drop i owed) ≡ key_in place index owed) where
  abbrev rest : List Addressee
  rest = drop (i + 1) owed

  parts : key_in place n (a ∷ rest) ≡ key_in place index owed
  parts = ap (λ (x : Addressee). key_in place n (x ∷ rest)) is ∙ sym (at_drop_more (key_in place n) owed i a lt) ∙ was

  own-parts : a.queue ≡ place → slice_get (a.key ∷ keys_of (those_in place rest)) n ≡ key_in place index owed
  own-parts own = ap (λ (ks : List SubKey). slice_get ks n) (sym (own-first place a rest own)) ∙ parts

  -- it is the one
  pub own-found : a.queue ≡ place → n ≡ 0 → Some a.key ≡ key_in place index owed
  own-found own none = ap (λ (m : ℕ). slice_get (a.key ∷ keys_of (those_in place rest)) m) (sym none) ∙ own-parts own

  -- it is before the one
  pub own-passed : a.queue ≡ place → (m : ℕ) → n ≡ suc m → key_in place m rest ≡ key_in place index owed
  own-passed own m more = ap (λ (k : ℕ). slice_get (a.key ∷ keys_of (those_in place rest)) k) (sym more) ∙ own-parts own

  -- it is in another queue
  pub other-passed : (a.queue ≡ place → ⊥) → key_in place n rest ≡ key_in place index owed
  other-passed other = ap (λ (ks : List SubKey). slice_get ks n) (sym (other-left place a rest other)) ∙ parts

-- all were looked at
pub all-passed : (place index n : ℕ) (owed : List Addressee) (i : ℕ) → length owed ≤ i → key_in place n (drop i owed) ≡ key_in place index owed → (let none : Option SubKey = None in none ≡ key_in place index owed)
all-passed place index n owed i past was = sym (at_drop_all (key_in place n) owed i past) ∙ was

-- ---- the update beside the queues, in them

filter-alike : {A : Type 0} (f g : A → Bool) (xs : List A) → ((i : ℕ) (x : A) → At xs i x → f x ≡ g x) → filter f xs ≡ filter g xs
filter-alike f g [] alike = refl
filter-alike f g (x ∷ xs) alike =
    let rest = filter-alike f g xs (λ i y at. alike (suc i) y at) in
    λ t. cond (alike 0 x refl t) (x ∷ rest t) (rest t)

no-one : (place : ℕ) (owed : List Addressee) → ((i : ℕ) (a : Addressee) → At owed i a → a.queue ≡ place → ⊥) → those_in place owed ≡ []
no-one place [] others = refl
no-one place (a ∷ owed) others =
    ap (λ (b : Bool). cond b (a ∷ those_in place owed) (those_in place owed)) (ne_eqb a.queue place (others 0 a refl)) ∙ no-one place owed (λ i b at. others (suc i) b at)

module _ {E : Type 0} where
  abbrev with_it : E → SubKey → SubKey × E
  with_it v key = (key, v)

  module _ (owed : List Addressee) (v : E) (qs : List (Queue E)) (only_one : (i : ℕ) (a : Addressee) → At owed i a → HasOnly qs a.queue a.key) where
    -- a queue has just those who are in it
    has-own : (place : ℕ) (q : Queue E) → At qs place q → (a : Addressee) → HasOnly qs a.queue a.key → is_among a.key q.subscriptions ≡ (a.queue == place)
    has-own place q at a has = elim (cases_Bool (is_among a.key q.subscriptions)) [
      | inl some ↦ some ∙ sym (eq-eqb a.queue place (sym (has.1 place (q, at, some))))
      | inr none ↦
          none
          ∙ sym (ne_eqb a.queue place (λ e.
          let there : At qs place has.0.0 = subst (λ (n : ℕ). At qs n has.0.0) e has.0.1 in
          let some : is_among a.key q.subscriptions ≡ true = subst (λ (r : Queue E). is_among a.key r.subscriptions ≡ true) (At-one qs place has.0.0 q there at) has.0.2 in
          both_ways (is_among a.key q.subscriptions) none some))
    ]

    in-queue : (place : ℕ) (q : Queue E) → At qs place q → filter (λ (a : Addressee). is_among a.key q.subscriptions) owed ≡ those_in place owed
    in-queue place q at = filter-alike (λ (a : Addressee). is_among a.key q.subscriptions) (λ (a : Addressee). a.queue == place) owed (λ i a at-a. has-own place q at a (only_one i a at-a))

    entry-there : AreEmpty qs → (place index : ℕ) (q : Queue E) → At qs place q → entry_in (map (owing owed v) qs) place index ≡ option_map (with_it v) (key_in place index owed)
    entry-there empty place index q at =
        ap (λ (o : Option (Queue E)). option_and_then (λ (r : Queue E). slice_get r.waiting index) o) (At-map (owing owed v) qs place q at)
        ∙ ap (λ (ws : List (SubKey × E)). slice_get (ws ++ its owed v q) index) (empty place q at)
        ∙ ap (λ (bs : List Addressee). slice_get (map (entry_of v) bs) index) (in-queue place q at)
        ∙ ap (λ (ws : List (SubKey × E)). slice_get ws index) (sym (map-both (with_it v) (λ (a : Addressee). a.key) (those_in place owed)))
        ∙ slice_get-map (with_it v) (keys_of (those_in place owed)) index

    entry-past : (place index : ℕ) → length qs ≤ place → entry_in (map (owing owed v) qs) place index ≡ option_map (with_it v) (key_in place index owed)
    entry-past place index past =
        let all = length-map qs (owing owed v) in
        let behind : length (map (owing owed v) qs) ≤ place = omega (arith, all, past) in
        let none : those_in place owed ≡ [] = no-one place owed (λ i a at e. (let has = (only_one i a at).0 in let within = At-within qs a.queue has.0 has.1 in omega (arith, within, e, past))) in
        ap (λ (o : Option (Queue E)). option_and_then (λ (r : Queue E). slice_get r.waiting index) o) (slice_get_past (map (owing owed v) qs) place behind)
        ∙ ap (λ (bs : List Addressee). option_map (with_it v) (slice_get (keys_of bs) index)) (sym none)

    entry-owed : AreApart (keys_of owed) → AreEmpty qs → (place index : ℕ) → entry_in (with_owed owed v qs) place index ≡ option_map (with_it v) (key_in place index owed)
    entry-owed apart empty place index =
        let laid : entry_in (map (owing owed v) qs) place index ≡ option_map (with_it v) (key_in place index owed) =
        elim (At-or qs place) [ inl there ↦ entry-there empty place index there.0 there.1 | inr past ↦ entry-past place index past ] in
        ap (λ (rs : List (Queue E)). entry_in rs place index) (laid-out owed v qs apart empty) ∙ laid

  pub owed-entry : (on empty : Bool) (owed : List Addressee) (v : E) (qs now : List (Queue E)) → IsOwing on empty owed qs → (owed ≡ [] → ⊥) → with_owed owed v qs ≡ now
      → (place index : ℕ) (key : Option SubKey) → key ≡ key_in place index owed → option_map (with_it v) key ≡ entry_in now place index
  owed-entry on empty [] v qs now h some view place index key is = absurd (some refl)
  owed-entry on empty (a ∷ owed) v qs now h some view place index key is =
      ap (λ (o : Option SubKey). option_map (with_it v) o) is
      ∙ sym (entry-owed (a ∷ owed) v qs (λ i b at. (h.only_one i b at).1) h.apart (h.quiet (h.only_one 0 a refl).0) place index)
      ∙ ap (λ (rs : List (Queue E)). entry_in rs place index) view

-- ---- for whom it is

not-same : (key : SubKey) (keys : List SubKey) (i : ℕ) (k : SubKey) → is_among key keys ≡ false → At keys i k → same key k ≡ false
not-same key keys i k none at = elim (cases_Bool (same key k)) [
  | inl is ↦ absurd (both_ways (is_among key keys) none (any_passes_from_place (same key) keys i k at is))
  | inr other ↦ other
]

at-lookup : (es : Standings) → AreApart (keys_in es) → (i : ℕ) (e : Entry) → At es i e → lookup (same e.0) es ≡ Some e.1
at-lookup [] apart i e at = absurd cc
at-lookup (x ∷ es) apart zero e at =
    let is : x ≡ e = some_is x e at in
    ap (λ (b : Bool). cond b (Some x.1) (lookup (same e.0) es)) (ap (λ (y : Entry). same e.0 y.0) is ∙ same_itself e.0) ∙ ap (λ (y : Entry). Some y.1) is
at-lookup (x ∷ es) apart (suc i) e at =
    let other : same x.0 e.0 ≡ false = not-same x.0 (keys_in es) i e.0 apart.0 (At-map (λ (y : Entry). y.0) es i e at) in
    ap (λ (b : Bool). cond b (Some x.1) (lookup (same e.0) es)) (other_sym x.0 e.0 other) ∙ at-lookup es apart.1 i e at

module _ (es : Standings) (qs : List Q) (p : ArePlaced es qs) (old : Subscribed) (view : whole es qs p ≡ old) (place index : ℕ) where
  -- a subscription is under its key
  under-key : (x : Subscription) → In (subscriptions_in es) x → (n : ℕ) × (lookup (same (key_of x)) es ≡ Some (x, n))
  under-key x there =
      let m = At-mapped (λ (e : Entry). e.1.0) es there.0 x there.1 in
      let keyed : m.0.0 ≡ key_of x = p.keyed there.0 m.0 m.1 ∙ ap key_of (sym m.2) in (
        m.0.1.1,
        ap (λ (k : SubKey). lookup (same k) es) (sym keyed) ∙ at-lookup es p.apart there.0 m.0 m.1 ∙ ap (λ (s : Subscription). Some (s, m.0.1.1)) (sym m.2),
      )

  -- nothing waits there
  pub gives-none : (let none : Option (SubKey × Stored) = None in none ≡ entry_in qs place index) → GivesAt old place index None
  gives-none at = subst (λ (s : Subscribed). GivesAt s place index None) view (λ x v waits. (let wrong = at ∙ waits.1 in absurd cc))

  module _ (entry : SubKey × Stored) (at : Some entry ≡ entry_in qs place index) where
    -- whatever waits there is this, and its subscription is under the key
    is-this : (x : Subscription) (v : Stored) → In (subscriptions_in es) x → entry_in qs place index ≡ Some (key_of x, v) → (entry ≡ (key_of x, v)) × (n : ℕ) × (lookup (same entry.0) es ≡ Some (x, n))
    is-this x v there is =
        let one : entry ≡ (key_of x, v) = some_is entry (key_of x, v) (at ∙ is) in
        let under = under-key x there in
        (one, under.0, ap (λ (w : SubKey × Stored). lookup (same w.0) es) one ∙ under.1)

    pub gives-unfound : (let none : Option (Subscription × ℕ) = None in lookup (same entry.0) es ≡ none) → GivesAt old place index None
    gives-unfound none = subst (λ (s : Subscribed). GivesAt s place index None) view (λ x v waits. (let one = is-this x v waits.0 waits.1 in let wrong = sym none ∙ one.2 in absurd cc))

    pub gives-found : (s : Subscription × ℕ) (w : Wanted) → lookup (same entry.0) es ≡ Some s → w ≡ s.0.wanted → GivesAt old place index (Some (w, entry.1))
    gives-found s w found wants = subst (λ (y : Subscribed). GivesAt y place index (Some (w, entry.1))) view (λ x v waits. (
        let one = is-this x v waits.0 waits.1 in
        let own : s ≡ (x, one.1) = some_is s (x, one.1) (sym found ∙ one.2) in
        let asked : w ≡ x.wanted = wants ∙ ap (λ (y : Subscription × ℕ). y.0.wanted) own in
        λ t. Some (asked t, (one.0 t).1)))
