-- The order of the subscriptions of an end: which of them are before a place, and where a line of
-- some of them is divided by it.
use Rattle.std.proofs.Common.{◌≡◌, ℕ, zero, suc, ◌+◌, ◌<◌, ◌≤◌, inl, inr, Bool, true, false, cond, List, [], ◌∷◌, ◌++◌, length, get_or, take, drop, filter, nat_lt, position, Option, Some, None, is_some, refl, sym, ap, ◌∙◌, subst, arith, length-append}
use Rattle.std.specs.Prelude.{remove}
use Rattle.std.specs.List.{position_or_len}
use Rattle.std.specs.List.Sorted.{IsPartitionPoint, IsPartitionedBy}
use Rattle.std.specs.Map.{lookup}
use Rattle.std.proofs.lemmas.List.{length-map}
use Rattle.std.proofs.lemmas.List.Quantifiers.{position-Some}
use Rattle.std.proofs.lemmas.Bool.{both_ways, cases_Bool, cases_lt, le-ltb, lt-ltb, ltb-true, or_from, or_parts}
use Rattle.ca_text.specs.Place.{At}
use Rattle.ca_text.proofs.Places.{At-after, At-back, At-map, At-mapped, At-one, At-parts, At-within, some_is}
use Rattle.ca_queue.specs.declared.entry.SubKey.{SubKey}
use Rattle.ca_queue.specs.Keys.{AreApart, is_among, same}
use Rattle.ca_queue.proofs.Keys.{other_sym, same_is, same_itself}
use Rattle.ca_server_subscriptions.proofs.Placing.{Entry, all-other, filtered-at, held, other}
use Rattle.ca_server_subscriptions.proofs.Receivers.{any-at, receivers-without}
use Rattle.ca_server_subscriptions.specs.ByRecord.{IsInLine, LeavesLine, Receiver, receiver_of, receivers_of, without}
use Rattle.ca_server_subscriptions.specs.Order.{is_before}
use Rattle.ca_server_subscriptions.specs.Subscribed.{Standings, is_on, keys_in}

-- ---- lists

take-front : {X : Type 0} (xs ys : List X) → take (length xs) (xs ++ ys) ≡ xs
take-front [] [] = refl
take-front [] (y ∷ ys) = refl
take-front (x ∷ xs) ys = ap (λ (zs : List _). x ∷ zs) (take-front xs ys)

drop-front : {X : Type 0} (xs : List X) (y : X) (ys : List X) → drop (suc (length xs)) (xs ++ y ∷ ys) ≡ ys
drop-front [] y [] = refl
drop-front [] y (z ∷ ys) = refl
drop-front (x ∷ xs) y ys = drop-front xs y ys

there : {X : Type 0} (xs : List X) (k : ℕ) (d : X) → k < length xs → At xs k (get_or xs k d)
there [] k d lt = absurd (omega (arith, lt))
there (x ∷ xs) zero d lt = refl
there (x ∷ xs) (suc k) d lt = there xs k d (omega (arith, lt))

-- what is before a place, and what is after it
pub parts-at : {X : Type 0} (xs : List X) (i : ℕ) (x : X) → At xs i x → (front : List X) × (back : List X) × (xs ≡ front ++ x ∷ back) × (length front ≡ i)
parts-at [] i x at = absurd cc
parts-at (y ∷ xs) zero x at = ([], xs, ap (λ (z : _). z ∷ xs) (some_is y x at), refl)
parts-at (y ∷ xs) (suc i) x at =
    let r = parts-at xs i x at in
    (y ∷ r.0, r.1, ap (λ (zs : List _). y ∷ zs) r.2, ap suc r.3)

-- ---- which subscriptions are before a place

none-before : (ys xs : Standings) (i : ℕ) (x : Entry) → AreApart (keys_in (ys ++ xs)) → At xs i x → is_among x.0 (keys_in ys) ≡ false
none-before [] xs i x apart at = refl
none-before (y ∷ ys) xs i x apart at =
    or_from (same x.0 y.0) (is_among x.0 (keys_in ys)) (by (same x.0 y.0) refl) (none-before ys xs i x apart.1 at)
  where
    -- the key of this one would be there twice
    by : (b : Bool) → same x.0 y.0 ≡ b → b ≡ false
    by true is =
        let there = At-map (λ (e : Entry). e.0) (ys ++ xs) (length ys + i) x (At-after ys xs i x at) in
        let twice : At (keys_in (ys ++ xs)) (length ys + i) y.0 = subst (λ (k : SubKey). At (keys_in (ys ++ xs)) (length ys + i) k) (same_is x.0 y.0 is) there in
        absurd (both_ways (is_among y.0 (keys_in (ys ++ xs))) apart.0 (any-at (same y.0) (keys_in (ys ++ xs)) (length ys + i) y.0 twice (same_itself y.0)))
    by false is = refl

module _ (es b : Standings) (e : Entry) (a : Standings) (is : es ≡ b ++ e ∷ a) where
  before-is : (key : SubKey) → is_before es (length b) key ≡ is_among key (keys_in b)
  before-is key = ap (λ (xs : Standings). is_before xs (length b) key) is ∙ ap (λ (xs : Standings). is_among key (keys_in xs)) (take-front b (e ∷ a))

  pub stands-before : (i : ℕ) (x : Entry) → At b i x → is_before es (length b) x.0 ≡ true
  stands-before i x at = before-is x.0 ∙ any-at (same x.0) (keys_in b) i x.0 (At-map (λ (y : Entry). y.0) b i x at) (same_itself x.0)

  pub stands-behind : AreApart (keys_in es) → (i : ℕ) (x : Entry) → At (e ∷ a) i x → is_before es (length b) x.0 ≡ false
  stands-behind apart i x at = before-is x.0 ∙ none-before b (e ∷ a) i x (subst (λ (xs : Standings). AreApart (keys_in xs)) is apart) at

-- ---- by the place of a key

next : (m n : ℕ) → nat_lt (1 + m) (suc n) ≡ nat_lt m n
next m n = elim (cases_lt m n) [
  | inl lt ↦ lt-ltb (1 + m) (suc n) (omega (arith, lt)) ∙ sym (lt-ltb m n lt)
  | inr le ↦ le-ltb (1 + m) (suc n) (omega (arith, le)) ∙ sym (le-ltb m n le)
]

module _ (key : SubKey) where
  before-len : (es : Standings) (place : ℕ) → position_or_len (same key) (keys_in es) < length es → nat_lt (position_or_len (same key) (keys_in es)) place ≡ is_before es place key
  before-len [] place lt = absurd (omega (arith, lt))
  before-len (e ∷ es) zero lt = by (nat_lt (position_or_len (same key) (keys_in (e ∷ es))) 0) refl
    where
      by : (b : Bool) → nat_lt (position_or_len (same key) (keys_in (e ∷ es))) 0 ≡ b → b ≡ false
      by true is = (let low = ltb-true (position_or_len (same key) (keys_in (e ∷ es))) 0 is in absurd (omega (arith, low)))
      by false is = refl
  before-len (e ∷ es) (suc place) lt = elim (cases_Bool (same key e.0)) [
    | inl is ↦ rw is (lt-ltb 0 (suc place) (omega arith))
    | inr differs ↦
        let n : 1 + position_or_len (same key) (keys_in es) < suc (length es) = rw differs at lt in
        rw differs (next (position_or_len (same key) (keys_in es)) place ∙ before-len es place (omega (arith, n)))
  ]

  before-none : (es : Standings) (place : ℕ) → is_among key (keys_in es) ≡ false → is_before es place key ≡ false
  before-none [] zero none = refl
  before-none [] (suc place) none = refl
  before-none (e ∷ es) zero none = refl
  before-none (e ∷ es) (suc place) none =
      let parts = or_parts (same key e.0) (is_among key (keys_in es)) none in
      or_from (same key e.0) (is_before es place key) parts.0 (before-none es place parts.1)

  pub place-found : (es : Standings) (place found : ℕ) → Some found ≡ position (same key) (keys_in es) → nat_lt found place ≡ is_before es place key
  place-found es place found at = by (nat_lt first (length (keys_in es))) refl
    where
      first : ℕ
      first = position_or_len (same key) (keys_in es)

      nothing : (let none : Option ℕ = None in Some found ≡ none) → ⊥
      nothing is = cc

      by : (b : Bool) → nat_lt first (length (keys_in es)) ≡ b → nat_lt found place ≡ is_before es place key
      by true is =
          let one : first ≡ found = sym (some_is found first (at ∙ ap (λ (b : Bool). cond b (Some first) None) is)) in
          let lt = ltb-true first (length (keys_in es)) is in
          let n = length-map es (λ (e : Entry). e.0) in
          ap (λ (m : ℕ). nat_lt m place) (sym one) ∙ before-len es place (omega (arith, lt, n))
      by false is = absurd (nothing (at ∙ ap (λ (b : Bool). cond b (Some first) None) is))

  pub key-at : (es : Standings) (place : ℕ) → Some place ≡ position (same key) (keys_in es) → At (keys_in es) place key
  key-at es place at =
      let p = position-Some (same key) (keys_in es) place key (sym at) in
      subst (λ (k : SubKey). At (keys_in es) place k) (sym (same_is key (get_or (keys_in es) place key) p.1)) (there (keys_in es) place key p.0)

  pub place-missing : (es : Standings) (place : ℕ) → false ≡ is_some (lookup (same key) es) → false ≡ is_before es place key
  place-missing es place missing = sym (before-none es place (sym (held key es) ∙ sym missing))

-- ---- where a list is divided whose front passes a test that its back fails

module _ {X : Type 0} (p : X → Bool) (front back : List X) (passes : (i : ℕ) (x : X) → At front i x → p x ≡ true) (fails : (i : ℕ) (x : X) → At back i x → p x ≡ false) where
  pub divided : IsPartitionedBy p (front ++ back)
  divided i j d le lt hit =
      let x : X = get_or (front ++ back) i d in
      let y : X = get_or (front ++ back) j d in
      elim (At-parts front back i x (there (front ++ back) i d (omega (arith, le, lt)))) [
        | inl before ↦ passes i x before
        | inr past ↦ absurd (elim (At-parts front back j y (there (front ++ back) j d lt)) [
          | inl before ↦ (let low = At-within front j y before in let n = past.1 in omega (arith, le, low, n))
          | inr behind ↦ both_ways (p y) (fails behind.0 y behind.2) hit
        ])
      ]

  pub divided-at : (r : ℕ) (d : X) → r ≤ length (front ++ back) → IsPartitionPoint (λ (x : X). p x ≡ true) (λ (x : X). p x ≡ false) (front ++ back) r → r ≡ length front
  divided-at r d within point = elim (cases_lt r (length front)) [
    | inl short ↦ absurd (
        let long = length-append front back in
        let lt : r < length (front ++ back) = omega (arith, short, long) in
        let x : X = get_or (front ++ back) r d in
        both_ways (p x) (point.1 r d (omega arith) lt) (passes r x (At-back front back r x (there (front ++ back) r d lt) short)))
    | inr past ↦ elim (cases_lt (length front) r) [
      | inl long ↦ absurd (
          let lt : length front < length (front ++ back) = omega (arith, within, long) in
          let x : X = get_or (front ++ back) (length front) d in
          elim (At-parts front back (length front) x (there (front ++ back) (length front) d lt)) [
            | inl before ↦ (let low = At-within front (length front) x before in omega (arith, low))
            | inr behind ↦ both_ways (p x) (fails behind.0 x behind.2) (point.0 (length front) d (omega arith) long)
          ])
      | inr same ↦ omega (arith, past, same)
    ]
  ]

-- what a search by halving finds is the first that fails, and all others are left without it
module _ {X : Type 0} (p : X → Bool) (xs front : List X) (x : X) (back : List X) (is : xs ≡ front ++ x ∷ back) (passes : (i : ℕ) (y : X) → At front i y → p y ≡ true) (fails : (i : ℕ) (y : X) → At (x ∷ back) i y → p y ≡ false)
    (r : ℕ) (within : r ≤ length xs) (point : IsPartitionedBy p xs → IsPartitionPoint (λ (y : X). p y ≡ true) (λ (y : X). p y ≡ false) xs r) where
  found-place : r ≡ length front
  found-place =
      let lies = subst (λ (ys : List X). IsPartitionedBy p ys → IsPartitionPoint (λ (y : X). p y ≡ true) (λ (y : X). p y ≡ false) ys r) is point in
      divided-at p front (x ∷ back) passes fails r x (subst (λ (ys : List X). r ≤ length ys) is within) (lies (divided p front (x ∷ back) passes fails))

  pub found-within : r < length xs
  found-within =
      let long = ap (λ (ys : List X). length ys) is ∙ length-append front (x ∷ back) in
      let place = found-place in
      omega (arith, long, place)

  pub found-removed : remove xs r ≡ front ++ back
  found-removed =
      ap (λ (n : ℕ). remove xs n) found-place
      ∙ ap (λ (ys : List X). remove ys (length front)) is
      ∙ ap (λ (ys : List X). ys ++ drop (suc (length front)) (front ++ x ∷ back)) (take-front front (x ∷ back))
      ∙ ap (λ (ys : List X). front ++ ys) (drop-front front x back)

-- ---- the subscriptions without one

not-among : (k : SubKey) (b : Standings) (e : Entry) (a : Standings) → is_among k (keys_in (b ++ e ∷ a)) ≡ false → same k e.0 ≡ false
not-among k [] e a none = (or_parts (same k e.0) (is_among k (keys_in a)) none).0
not-among k (x ∷ b) e a none = not-among k b e a (or_parts (same k x.0) (is_among k (keys_in (b ++ e ∷ a))) none).1

pub without-parts : (b : Standings) (e : Entry) (a : Standings) → AreApart (keys_in (b ++ e ∷ a)) → filter (other e.0) (b ++ e ∷ a) ≡ b ++ a
without-parts [] e a apart = (let here = same_itself e.0 in rw here (all-other e.0 a apart.0))
without-parts (x ∷ b) e a apart =
    let differs : same e.0 x.0 ≡ false = other_sym x.0 e.0 (not-among x.0 b e a apart.0) in
    rw differs (ap (λ (xs : Standings). x ∷ xs) (without-parts b e a apart.1))

-- ---- a line of those on a record

module _ (name : List ℕ) where
  receivers-parts : (b a : Standings) → receivers_of name (b ++ a) ≡ receivers_of name b ++ receivers_of name a
  receivers-parts [] a = refl
  receivers-parts (x ∷ b) a =
      elim (cases_Bool (is_on name x.1.0)) [
        | inl on ↦ rw on (ap (λ (rs : List Receiver). receiver_of x ∷ rs) (receivers-parts b a))
        | inr off ↦ rw off (receivers-parts b a)
      ]

  receivers-at : (es : Standings) (i : ℕ) (r : Receiver) → At (receivers_of name es) i r → (j : ℕ) × (x : Entry) × At es j x × (r ≡ receiver_of x)
  receivers-at es i r at =
      let m = At-mapped receiver_of (filter (λ (e : Entry). is_on name e.1.0) es) i r at in
      let f = filtered-at (λ (e : Entry). is_on name e.1.0) es i m.0 m.1 in
      (f.0, m.0, f.1, m.2)

module _ (rs : List Receiver) (es : Standings) (place : ℕ) (h : IsInLine es place rs) (r : ℕ) (within : r ≤ length rs)
    (point : IsPartitionedBy (λ (x : Receiver). is_before es place x.key) rs
    → IsPartitionPoint (λ (x : Receiver). is_before es place x.key ≡ true) (λ (x : Receiver). is_before es place x.key ≡ false) rs r) where
  abbrev b : Standings
  b = (parts-at es place h.entry h.at).0

  abbrev a : Standings
  a = (parts-at es place h.entry h.at).1

  es-is : es ≡ b ++ h.entry ∷ a
  es-is = (parts-at es place h.entry h.at).2

  place-is : length b ≡ place
  place-is = (parts-at es place h.entry h.at).3

  own : receivers_of h.name (h.entry ∷ a) ≡ receiver_of h.entry ∷ receivers_of h.name a
  own = (let on = h.on in rw on refl)

  line-is : rs ≡ receivers_of h.name b ++ receiver_of h.entry ∷ receivers_of h.name a
  line-is =
      h.line ∙ ap (receivers_of h.name) es-is ∙ receivers-parts h.name b (h.entry ∷ a)
      ∙ ap (λ (xs : List Receiver). receivers_of h.name b ++ xs) own

  passes : (i : ℕ) (x : Receiver) → At (receivers_of h.name b) i x → is_before es place x.key ≡ true
  passes i x at =
      let f = receivers-at h.name b i x at in
      ap (λ (y : Receiver). is_before es place y.key) f.3
      ∙ subst (λ (n : ℕ). is_before es n f.1.0 ≡ true) place-is (stands-before es b h.entry a es-is f.0 f.1 f.2)

  fails : (i : ℕ) (x : Receiver) → At (receiver_of h.entry ∷ receivers_of h.name a) i x → is_before es place x.key ≡ false
  fails i x at =
      let f = receivers-at h.name (h.entry ∷ a) i x (subst (λ (xs : List Receiver). At xs i x) (sym own) at) in
      ap (λ (y : Receiver). is_before es place y.key) f.3
      ∙ subst (λ (n : ℕ). is_before es n f.1.0 ≡ false) place-is (stands-behind es b h.entry a es-is h.apart f.0 f.1 f.2)

  pub line-within : r < length rs
  line-within = found-within (λ (x : Receiver). is_before es place x.key) rs (receivers_of h.name b) (receiver_of h.entry) (receivers_of h.name a) line-is passes fails r within point

  pub line-left : (new : List Receiver) → new ≡ remove rs r → LeavesLine es place rs new
  line-left new did key at =
      let own-key : key ≡ h.entry.0 = At-one (keys_in es) place key h.entry.0 at (At-map (λ (e : Entry). e.0) es place h.entry h.at) in
      did
      ∙ found-removed (λ (x : Receiver). is_before es place x.key) rs (receivers_of h.name b) (receiver_of h.entry) (receivers_of h.name a) line-is passes fails r within point
      ∙ sym (receivers-parts h.name b a)
      ∙ ap (receivers_of h.name) (sym (without-parts b h.entry a (subst (λ (xs : Standings). AreApart (keys_in xs)) es-is h.apart)))
      ∙ ap (λ (xs : Standings). receivers_of h.name (filter (other h.entry.0) xs)) (sym es-is)
      ∙ receivers-without h.name h.entry.0 es
      ∙ ap (without h.entry.0) (sym h.line)
      ∙ ap (λ (k : SubKey). without k rs) (sym own-key)
