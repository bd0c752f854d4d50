-- The subscriptions of an end, each in the queue that it was given.
use Rattle.std.proofs.Common.{◌≡◌, ℕ, zero, suc, ◌+◌, ◌*◌, ◌<◌, ◌≤◌, ◌⊎◌, ◌||◌, inl, inr, Bool, true, false, not, cond, List, [], ◌∷◌, ◌++◌, length, filter, map, Option, Some, None, Result, Ok, Err, is_some, nat_lt, refl, sym, ap, ◌∙◌, subst, arith}
use Rattle.std.specs.Result.{is_err}
use Rattle.std.specs.Prelude.{OnErr, OnOk, slice_set}
use Rattle.std.proofs.lemmas.Bool.{both_ways, cases_Bool, ltb-false, ltb-true, or_left, or_right, or_parts, or_cases}
use Rattle.std.proofs.lemmas.List.{length_push, length-map}
use Rattle.std.specs.Map.{lookup, remove_entry}
use Rattle.ca_text.specs.Limits.{queue_subscriptions}
use Rattle.ca_text.specs.Place.{At}
use Rattle.ca_text.proofs.Places.{At-map, At-mapped, At-one, At-set, At-set-other, At-snoc, At-within, some_is}
use Rattle.ca_queue.specs.declared.entry.SubKey.{SubKey}
use Rattle.ca_queue.specs.Circuit.{AreFull, Begins, HasAt, HasNone, IsFirstWithRoom, queue_posted, queue_without, without_each}
use Rattle.ca_queue.specs.Keys.{AreApart, is_among, same}
use Rattle.ca_queue.specs.Queue.{Queue, added, cancelled, posted, switched, with_front_taken}
use Rattle.ca_queue.specs.Sound.{IsSound}
use Rattle.ca_queue.proofs.Circuits.{length-set, one-set, set-here}
use Rattle.ca_queue.proofs.Keys.{among_push, among_without, apart_push, apart_without, none_left, same_is, same_itself}
use Rattle.ca_queue.proofs.Soundness.{sound_added, sound_cancelled, sound_posted, sound_switched, sound_taken}
use Rattle.ca_model.specs.Server.{Subscription, concerns, key_of}
use Rattle.ca_model.specs.Speech.{Stored}
use Rattle.ca_server_subscriptions.proofs.Sieves.{each-none, without-none, without-one}
use Rattle.ca_server_subscriptions.specs.Concerned.{ConcernsAt}
use Rattle.ca_server_subscriptions.specs.Subscribed.{ArePlaced, HasRoom, Joins, Standings, Subscribed, has_key, keys_in, subscriptions_in, total, without_those}

-- what holds anyway holds if the call was refused
pub in-err : {T E P : Type 0} (r : Result T E) → P → OnErr r P
in-err (Ok x) p = tt
in-err (Err e) p = p

-- what holds of a call that was done, or refused
pub if-ok : {T E P : Type 0} (r : Result T E) → is_err r ≡ false → OnOk r P → P
if-ok (Ok x) is p = p
if-ok (Err e) is p = absurd cc

pub if-err : {T E P : Type 0} (r : Result T E) → is_err r ≡ true → OnErr r P → P
if-err (Ok x) is p = absurd cc
if-err (Err e) is p = p

abbrev pub Q : Type 0
Q = Queue Stored

abbrev pub Entry : Type 0
Entry = SubKey × (Subscription × ℕ)

-- ---- queues that changed, but for their subscriptions

-- the queues have the same subscriptions, and are as sound
abbrev pub Alike : List Q → List Q → Type 0
Alike [] [] = Unit {0}
Alike [] (r ∷ rs) = ⊥
Alike (q ∷ qs) [] = ⊥
Alike (q ∷ qs) (r ∷ rs) = (r.subscriptions ≡ q.subscriptions) × (IsSound q → IsSound r) × Alike qs rs

alike-before : (qs rs : List Q) (i : ℕ) (r : Q) → Alike qs rs → At rs i r → (q : Q) × At qs i q × (r.subscriptions ≡ q.subscriptions) × (IsSound q → IsSound r)
alike-before [] [] i r h at = absurd cc
alike-before [] (x ∷ rs) i r h at = absurd h
alike-before (q ∷ qs) [] i r h at = absurd h
alike-before (q ∷ qs) (x ∷ rs) zero r h at =
    let one : x ≡ r = some_is x r at in (q, refl, ap (λ (z : Q). z.subscriptions) (sym one) ∙ h.0, λ s. subst (λ (z : Q). IsSound z) one (h.1 s))
alike-before (q ∷ qs) (x ∷ rs) (suc i) r h at = alike-before qs rs i r h.2 at

alike-after : (qs rs : List Q) (i : ℕ) (q : Q) → Alike qs rs → At qs i q → (r : Q) × At rs i r × (r.subscriptions ≡ q.subscriptions)
alike-after [] [] i q h at = absurd cc
alike-after [] (x ∷ rs) i q h at = absurd h
alike-after (x ∷ qs) [] i q h at = absurd h
alike-after (x ∷ qs) (r ∷ rs) zero q h at = (r, refl, h.0 ∙ ap (λ (z : Q). z.subscriptions) (some_is x q at))
alike-after (x ∷ qs) (r ∷ rs) (suc i) q h at = alike-after qs rs i q h.2 at

alike-total : (qs rs : List Q) → Alike qs rs → total rs ≡ total qs
alike-total [] [] h = refl
alike-total [] (x ∷ rs) h = absurd h
alike-total (x ∷ qs) [] h = absurd h
alike-total (q ∷ qs) (r ∷ rs) h =
    let same : length r.subscriptions ≡ length q.subscriptions = ap length h.0 in
    let rest = alike-total qs rs h.2 in
    omega (arith, same, rest)

alike-length : (qs rs : List Q) → Alike qs rs → length rs ≡ length qs
alike-length [] [] h = refl
alike-length [] (x ∷ rs) h = absurd h
alike-length (x ∷ qs) [] h = absurd h
alike-length (q ∷ qs) (r ∷ rs) h = ap suc (alike-length qs rs h.2)

alike-itself : (qs : List Q) → Alike qs qs
alike-itself [] = tt
alike-itself (q ∷ qs) = (refl, (λ s. s), alike-itself qs)

pub placed-alike : (es : Standings) (qs rs : List Q) → Alike qs rs → ArePlaced es qs → ArePlaced es rs
placed-alike es qs rs h p = record {
  keyed = p.keyed;
  placed = λ i e at.
      let was = p.placed i e at in
      let now = alike-after qs rs e.1.1 was.0 h was.1 in
      (now.0, now.1, ap (λ (ks : List SubKey). is_among e.0 ks) now.2 ∙ was.2);
  apart = p.apart;
  known = λ i r key at some. (let was = alike-before qs rs i r h at in p.known i was.0 key was.1 (ap (λ (ks : List SubKey). is_among key ks) (sym was.2) ∙ some));
  sound = λ i r at. (let was = alike-before qs rs i r h at in was.3 (p.sound i was.0 was.1));
  one = λ i j key (a, at-a, in-a) (b, at-b, in-b).
      let x = alike-before qs rs i a h at-a in
      let y = alike-before qs rs j b h at-b in
      p.one i j key (x.0, x.1, ap (λ (ks : List SubKey). is_among key ks) (sym x.2) ∙ in-a) (y.0, y.1, ap (λ (ks : List SubKey). is_among key ks) (sym y.2) ∙ in-b);
  many = (let same = alike-total qs rs h in let many = p.many in omega (arith, same, many));
  eight = alike-length qs rs h ∙ p.eight;
}

alike-map : (f : Q → Q) → ((q : Q) → ((f q).subscriptions ≡ q.subscriptions) × (IsSound q → IsSound (f q))) → (qs : List Q) → Alike qs (map f qs)
alike-map f like [] = tt
alike-map f like (q ∷ qs) = ((like q).0, (like q).1, alike-map f like qs)

pub alike-switched : (on : Bool) (qs : List Q) → Alike qs (map (switched on) qs)
alike-switched on qs = alike-map (switched on) (λ q. (refl, λ s. sound_switched on q s)) qs

pub alike-posted : (key : SubKey) (v : Stored) (qs : List Q) → Alike qs (map (queue_posted key v) qs)
alike-posted key v qs = alike-map (queue_posted key v) (λ q. by q (is_among key q.subscriptions) refl) qs
  where
    by : (q : Q) (b : Bool) → is_among key q.subscriptions ≡ b → ((queue_posted key v q).subscriptions ≡ q.subscriptions) × (IsSound q → IsSound (queue_posted key v q))
    by q true is =
        let e : queue_posted key v q ≡ posted key v q = ap (λ (b : Bool). cond b (posted key v q) q) is in
        (ap (λ (z : Q). z.subscriptions) e, λ s. subst (λ (z : Q). IsSound z) (sym e) (sound_posted key v q is s))
    by q false is =
        let e : queue_posted key v q ≡ q = ap (λ (b : Bool). cond b (posted key v q) q) is in
        (ap (λ (z : Q). z.subscriptions) e, λ s. subst (λ (z : Q). IsSound z) (sym e) s)

pub alike-taken : (qs : List Q) (place : ℕ) (q : Q) → At qs place q → Alike qs (slice_set qs place (with_front_taken q))
alike-taken [] place q at = absurd cc
alike-taken (x ∷ qs) zero q at =
    let one : x ≡ q = some_is x q at in
    (ap (λ (z : Q). z.subscriptions) (sym one), (λ s. sound_taken q (subst (λ (z : Q). IsSound z) one s)), alike-itself qs)
alike-taken (x ∷ qs) (suc place) q at = (refl, (λ s. s), alike-taken qs place q at)

-- ---- a subscription is added

pub total-set : (qs : List Q) (i : ℕ) (q r : Q) → At qs i q → total (slice_set qs i r) + length q.subscriptions ≡ total qs + length r.subscriptions
total-set [] i q r at = absurd cc
total-set (x ∷ qs) zero q r at =
    let one : length x.subscriptions ≡ length q.subscriptions = ap (λ (z : Q). length z.subscriptions) (some_is x q at) in omega (arith, one)
total-set (x ∷ qs) (suc i) q r at = (let rest = total-set qs i q r at in omega (arith, rest))

-- keys and subscriptions of one more
pub keys-snoc : (es : Standings) (e : Entry) → keys_in (es ++ e ∷ []) ≡ keys_in es ++ e.0 ∷ []
keys-snoc [] e = refl
keys-snoc (x ∷ es) e = ap (λ (ks : List SubKey). x.0 ∷ ks) (keys-snoc es e)

pub subscriptions-snoc : (es : Standings) (e : Entry) → subscriptions_in (es ++ e ∷ []) ≡ subscriptions_in es ++ e.1.0 ∷ []
subscriptions-snoc [] e = refl
subscriptions-snoc (x ∷ es) e = ap (λ (ss : List Subscription). x.1.0 ∷ ss) (subscriptions-snoc es e)

-- no queue has a key that none is under
pub has-none : (es : Standings) (qs : List Q) (key : SubKey) → ArePlaced es qs → is_among key (keys_in es) ≡ false → HasNone qs key
has-none es qs key p new i q at = by (is_among key q.subscriptions) refl
  where
    by : (b : Bool) → is_among key q.subscriptions ≡ b → b ≡ false
    by true is = absurd (both_ways _ new (p.known i q key at is))
    by false is = refl

module _ (es : Standings) (qs : List Q) (place : ℕ) (q : Q) (s : Subscription) (v : Stored) (p : ArePlaced es qs) (at : At qs place q)
    (room : length q.subscriptions < queue_subscriptions) (new : is_among (key_of s) (keys_in es) ≡ false) where
  abbrev its : SubKey
  its = key_of s

  abbrev joined : Q
  joined = posted its v (added its q)

  abbrev added_one : Entry
  added_one = (its, (s, place))

  none : HasNone qs its
  none = has-none es qs its p new

  lt : place < length qs
  lt = At-within qs place q at

  -- the queue that it joins has it, and those that it had
  own : is_among its joined.subscriptions ≡ true
  own = among_push its its q.subscriptions ∙ or_right (is_among its q.subscriptions) (same its its) (same_itself its)

  had : (k : SubKey) → is_among k q.subscriptions ≡ true → is_among k joined.subscriptions ≡ true
  had k some = among_push k its q.subscriptions ∙ or_left (is_among k q.subscriptions) (same k its) some

  has : (k : SubKey) → is_among k joined.subscriptions ≡ true → (is_among k q.subscriptions ≡ true) ⊎ (k ≡ its)
  has k some = elim (or_cases (is_among k q.subscriptions) (same k its) (sym (among_push k its q.subscriptions) ∙ some)) [
    | inl was ↦ inl was
    | inr is ↦ inr (same_is k its is)
  ]

  still : (i : ℕ) (k : SubKey) → HasAt qs i k → HasAt (slice_set qs place joined) i k
  still i k (r, at-r, in-r) = by (same-place i place)
    where
      same-place : (a b : ℕ) → (a ≡ b) ⊎ (a ≡ b → ⊥)
      same-place zero zero = inl refl
      same-place zero (suc b) = inr (λ e. cc)
      same-place (suc a) zero = inr (λ e. cc)
      same-place (suc a) (suc b) = elim (same-place a b) [ inl e ↦ inl (ap suc e) | inr other ↦ inr (λ e. other (omega (arith, e))) ]

      by : (i ≡ place) ⊎ (i ≡ place → ⊥) → HasAt (slice_set qs place joined) i k
      by (inl e) =
          let one : r ≡ q = At-one qs place r q (subst (λ (n : ℕ). At qs n r) e at-r) at in (
            joined,
            subst (λ (n : ℕ). At (slice_set qs place joined) n joined) (sym e) (set-here qs place joined lt),
            had k (subst (λ (z : Q). is_among k z.subscriptions ≡ true) one in-r),
          )
      by (inr other) = (r, At-set-other qs place i r joined at-r other, in-r)

  among-more : (k : SubKey) → is_among k (keys_in es) ≡ true → is_among k (keys_in (es ++ added_one ∷ [])) ≡ true
  among-more k some = ap (λ (ks : List SubKey). is_among k ks) (keys-snoc es added_one) ∙ among_push k its (keys_in es) ∙ or_left (is_among k (keys_in es)) (same k its) some

  among-own : is_among its (keys_in (es ++ added_one ∷ [])) ≡ true
  among-own = ap (λ (ks : List SubKey). is_among its ks) (keys-snoc es added_one) ∙ among_push its its (keys_in es) ∙ or_right (is_among its (keys_in es)) (same its its) (same_itself its)

  pub placed-joined : ArePlaced (es ++ added_one ∷ []) (slice_set qs place joined)
  placed-joined = record {
    keyed = λ i e at-e. elim (At-snoc es added_one i e at-e) [
      | inl old ↦ p.keyed i e old
      | inr last ↦ subst (λ (x : Entry). x.0 ≡ key_of x.1.0) (sym last.1) refl
    ];
    placed = λ i e at-e. elim (At-snoc es added_one i e at-e) [
      | inl old ↦ still e.1.1 e.0 (p.placed i e old)
      | inr last ↦ subst (λ (x : Entry). HasAt (slice_set qs place joined) x.1.1 x.0) (sym last.1) (joined, set-here qs place joined lt, own)
    ];
    apart = subst (λ (ks : List SubKey). AreApart ks) (sym (keys-snoc es added_one)) (apart_push its (keys_in es) p.apart new);
    known = λ i r k at-r some. elim (At-set qs place joined i r at-r) [
      | inl here ↦ elim (has k (subst (λ (z : Q). is_among k z.subscriptions ≡ true) here.1 some)) [
        | inl was ↦ among-more k (p.known place q k at was)
        | inr is ↦ subst (λ (x : SubKey). is_among x (keys_in (es ++ added_one ∷ [])) ≡ true) (sym is) among-own
      ]
      | inr there ↦ among-more k (p.known i r k there.0 some)
    ];
    sound = λ i r at-r. elim (At-set qs place joined i r at-r) [
      | inl here ↦ subst (λ (z : Q). IsSound z) (sym here.1) (sound_posted its v (added its q) own (sound_added its q room (none place q at) (p.sound place q at)))
      | inr there ↦ p.sound i r there.0
    ];
    one = one-set qs place q joined p.one at (λ k some. elim (has k some) [
      | inl was ↦ inl was
      | inr is ↦ inr (subst (λ (x : SubKey). HasNone qs x) (sym is) none)
    ]);
    many =
        let longer : length (es ++ added_one ∷ []) ≡ length es + 1 = length_push es added_one in
        let more : length (q.subscriptions ++ its ∷ []) ≡ length q.subscriptions + 1 = length_push q.subscriptions its in
        let sum = total-set qs place q joined at in
        let many = p.many in
        omega (arith, longer, more, sum, many);
    eight = length-set qs place joined ∙ p.eight;
  }

-- ---- a subscription is taken out

pub held : (key : SubKey) (es : Standings) → is_some (lookup (same key) es) ≡ is_among key (keys_in es)
held key [] = refl
held key (e ∷ es) = elim (cases_Bool (same key e.0)) [
  | inl is ↦ rw is refl
  | inr differs ↦ rw differs (held key es)
]

pub keys-of : (es : Standings) → ((i : ℕ) (e : Entry) → At es i e → e.0 ≡ key_of e.1.0) → map key_of (subscriptions_in es) ≡ keys_in es
keys-of [] keyed = refl
keys-of (e ∷ es) keyed =
    let here = sym (keyed 0 e refl) in
    let rest = keys-of es (λ i x at. keyed (suc i) x at) in
    λ j. here j ∷ rest j

-- the one that a look-up finds
pub looked-up : (key : SubKey) (es : Standings) (x : Subscription × ℕ) → lookup (same key) es ≡ Some x → (i : ℕ) × (e : Entry) × At es i e × (e.0 ≡ key) × (e.1 ≡ x)
looked-up key [] x is = absurd cc
looked-up key (e ∷ es) x is = elim (cases_Bool (same key e.0)) [
  | inl hit ↦ (0, e, refl, sym (same_is key e.0 hit), some_is e.1 x (sym (ap (λ (b : Bool). cond b (Some e.1) (lookup (same key) es)) hit) ∙ is))
  | inr miss ↦
      let r = looked-up key es x (sym (ap (λ (b : Bool). cond b (Some e.1) (lookup (same key) es)) miss) ∙ is) in
      (suc r.0, r.1, r.2, r.3, r.4)
]

abbrev pub other : SubKey → Entry → Bool
other key e = not (same key e.0)

pub all-other : (key : SubKey) (es : Standings) → is_among key (keys_in es) ≡ false → filter (other key) es ≡ es
all-other key [] none = refl
all-other key (e ∷ es) none =
    let parts = or_parts (same key e.0) (is_among key (keys_in es)) none in
    rw parts.0 (ap (λ (xs : Standings). e ∷ xs) (all-other key es parts.1))

-- keys are apart, so that the first is the only one
pub removed-is : (key : SubKey) (es : Standings) → AreApart (keys_in es) → remove_entry (same key) es ≡ filter (other key) es
removed-is key [] apart = refl
removed-is key (e ∷ es) apart =
    elim (cases_Bool (same key e.0)) [
      | inl is ↦
          let none : is_among key (keys_in es) ≡ false = subst (λ (k : SubKey). is_among k (keys_in es) ≡ false) (sym (same_is key e.0 is)) apart.0 in
          rw is (sym (all-other key es none))
      | inr differs ↦ rw differs (ap (λ (xs : Standings). e ∷ xs) (removed-is key es apart.1))
    ]

pub filtered-at : (f : Entry → Bool) (es : Standings) (i : ℕ) (e : Entry) → At (filter f es) i e → (j : ℕ) × At es j e × (f e ≡ true)
filtered-at f [] i e at = absurd cc
filtered-at f (x ∷ es) i e at = elim (cases_Bool (f x)) [
  | inl is ↦ first f x es i e is (λ n got. filtered-at f es n e got) (subst (λ (c : Bool). At (cond c (x ∷ filter f es) (filter f es)) i e) is at)
  | inr is ↦
      let r = filtered-at f es i e (subst (λ (c : Bool). At (cond c (x ∷ filter f es) (filter f es)) i e) is at) in
      (suc r.0, r.1, r.2)
]
  where
    first : (f : Entry → Bool) (x : Entry) (es : Standings) (n : ℕ) (e : Entry) → f x ≡ true → ((m : ℕ) → At (filter f es) m e → (j : ℕ) × At es j e × (f e ≡ true))
        → At (x ∷ filter f es) n e → (j : ℕ) × At (x ∷ es) j e × (f e ≡ true)
    first f x es zero e is rest got = (let one : x ≡ e = some_is x e got in (0, got, ap f (sym one) ∙ is))
    first f x es (suc n) e is rest got = (let r = rest n got in (suc r.0, r.1, r.2))

pub keys-filter : (key : SubKey) (es : Standings) → keys_in (filter (other key) es) ≡ filter (λ (k : SubKey). not (same key k)) (keys_in es)
keys-filter key [] = refl
keys-filter key (e ∷ es) =
    elim (cases_Bool (same key e.0)) [
      | inl is ↦ rw is (keys-filter key es)
      | inr differs ↦ rw differs (ap (λ (ks : List SubKey). e.0 ∷ ks) (keys-filter key es))
    ]

pub subscriptions-filter : (key : SubKey) (es : Standings) → ((i : ℕ) (e : Entry) → At es i e → e.0 ≡ key_of e.1.0)
    → subscriptions_in (filter (other key) es) ≡ filter (λ (s : Subscription). not (same key (key_of s))) (subscriptions_in es)
subscriptions-filter key [] keyed = refl
subscriptions-filter key (e ∷ es) keyed =
    let rest = subscriptions-filter key es (λ i x at. keyed (suc i) x at) in
    let here : same key e.0 ≡ same key (key_of e.1.0) = ap (same key) (keyed 0 e refl) in
    elim (cases_Bool (same key e.0)) [
      | inl is ↦ (let there : same key (key_of e.1.0) ≡ true = sym here ∙ is in rw (is, there) rest)
      | inr differs ↦ (let there : same key (key_of e.1.0) ≡ false = sym here ∙ differs in rw (differs, there) (ap (λ (ss : List Subscription). e.1.0 ∷ ss) rest))
    ]

one-fewer : (key : SubKey) (es : Standings) → AreApart (keys_in es) → length es ≤ length (filter (other key) es) + 1
one-fewer key [] apart = omega arith
one-fewer key (e ∷ es) apart =
    elim (cases_Bool (same key e.0)) [
      | inl is ↦
          let none : is_among key (keys_in es) ≡ false = subst (λ (k : SubKey). is_among k (keys_in es) ≡ false) (sym (same_is key e.0 is)) apart.0 in
          let all : length (filter (other key) es) ≡ length es = ap length (all-other key es none) in
          rw is (omega (arith, all))
      | inr differs ↦ (let rest = one-fewer key es apart.1 in rw differs (omega (arith, rest)))
    ]

fewer-keys : (key : SubKey) (keys : List SubKey) → length (filter (λ (k : SubKey). not (same key k)) keys) ≤ length keys
fewer-keys key [] = omega arith
fewer-keys key (k ∷ keys) =
    elim (cases_Bool (same key k)) [
      | inl is ↦ (let rest = fewer-keys key keys in rw is (omega (arith, rest)))
      | inr differs ↦ (let rest = fewer-keys key keys in rw differs (omega (arith, rest)))
    ]

pub less-keys : (key : SubKey) (keys : List SubKey) → is_among key keys ≡ true → length (filter (λ (k : SubKey). not (same key k)) keys) + 1 ≤ length keys
less-keys key [] there = absurd cc
less-keys key (k ∷ keys) there =
    elim (cases_Bool (same key k)) [
      | inl is ↦ (let rest = fewer-keys key keys in rw is (omega (arith, rest)))
      | inr differs ↦
          let in_rest : is_among key keys ≡ true = sym (ap (λ (b : Bool). b || is_among key keys) differs) ∙ there in
          let rest = less-keys key keys in_rest in
          rw differs (omega (arith, rest))
    ]

-- a queue without one subscription
one-queue : (key : SubKey) (q : Q) → (b : Bool) → is_among key q.subscriptions ≡ b → (queue_without (same key) q ≡ q) ⊎ (queue_without (same key) q ≡ cancelled key q)
one-queue key q true is = inr (without-one key q is)
one-queue key q false is = inl (without-none key q is)

queue-fewer : (key : SubKey) (q : Q) → length (queue_without (same key) q).subscriptions ≤ length q.subscriptions
queue-fewer key q = elim (one-queue key q (is_among key q.subscriptions) refl) [
  | inl alike ↦ (let e : length (queue_without (same key) q).subscriptions ≡ length q.subscriptions = ap (λ (z : Q). length z.subscriptions) alike in omega (arith, e))
  | inr less ↦
      let e : length (queue_without (same key) q).subscriptions ≡ length (filter (λ (k : SubKey). not (same key k)) q.subscriptions) = ap (λ (z : Q). length z.subscriptions) less in
      let fewer = fewer-keys key q.subscriptions in omega (arith, e, fewer)
]

total-fewer : (key : SubKey) (qs : List Q) → total (without_each (same key) qs) ≤ total qs
total-fewer key [] = omega arith
total-fewer key (q ∷ qs) = (let here = queue-fewer key q in let rest = total-fewer key qs in omega (arith, here, rest))

total-less : (key : SubKey) (qs : List Q) (place : ℕ) → HasAt qs place key → total (without_each (same key) qs) + 1 ≤ total qs
total-less key [] place has = absurd (none has.0 has.1)
  where
    none : (q : Q) → (let xs : List Q = [] in At xs place q) → ⊥
    none q at = cc
total-less key (x ∷ qs) zero has =
    let one : x ≡ has.0 = some_is x has.0 has.1 in
    let there : is_among key x.subscriptions ≡ true = subst (λ (z : Q). is_among key z.subscriptions ≡ true) (sym one) has.2 in
    let e : length (queue_without (same key) x).subscriptions ≡ length (filter (λ (k : SubKey). not (same key k)) x.subscriptions) = ap (λ (z : Q). length z.subscriptions) (without-one key x there) in
    let less = less-keys key x.subscriptions there in
    let rest = total-fewer key qs in
    omega (arith, e, less, rest)
total-less key (x ∷ qs) (suc place) has =
    let here = queue-fewer key x in let rest = total-less key qs place has in omega (arith, here, rest)

length-each : (key : SubKey) (qs : List Q) → length (without_each (same key) qs) ≡ length qs
length-each key qs = length-map qs (queue_without (same key))

among-queue : (key k : SubKey) (q : Q) → same key k ≡ false → is_among k (queue_without (same key) q).subscriptions ≡ is_among k q.subscriptions
among-queue key k q differs = elim (one-queue key q (is_among key q.subscriptions) refl) [
  | inl alike ↦ ap (λ (z : Q). is_among k z.subscriptions) alike
  | inr less ↦ ap (λ (z : Q). is_among k z.subscriptions) less ∙ among_without k key q.subscriptions differs
]

gone-queue : (key : SubKey) (q : Q) → is_among key (queue_without (same key) q).subscriptions ≡ false
gone-queue key q = by (is_among key q.subscriptions) refl
  where
    by : (b : Bool) → is_among key q.subscriptions ≡ b → is_among key (queue_without (same key) q).subscriptions ≡ false
    by true is = ap (λ (z : Q). is_among key z.subscriptions) (without-one key q is) ∙ none_left key q.subscriptions
    by false is = ap (λ (z : Q). is_among key z.subscriptions) (without-none key q is) ∙ is

-- what a queue has of the others
kept-queue : (key k : SubKey) (q : Q) → is_among k (queue_without (same key) q).subscriptions ≡ true → (same key k ≡ false) × (is_among k q.subscriptions ≡ true)
kept-queue key k q some = by (same key k) refl
  where
    by : (b : Bool) → same key k ≡ b → (same key k ≡ false) × (is_among k q.subscriptions ≡ true)
    by true is = absurd (both_ways _ (subst (λ (x : SubKey). is_among x (queue_without (same key) q).subscriptions ≡ false) (same_is key k is) (gone-queue key q)) some)
    by false is = (is, sym (among-queue key k q is) ∙ some)

sound-queue : (key : SubKey) (q : Q) → IsSound q → IsSound (queue_without (same key) q)
sound-queue key q s = elim (one-queue key q (is_among key q.subscriptions) refl) [
  | inl alike ↦ subst (λ (z : Q). IsSound z) (sym alike) s
  | inr less ↦ subst (λ (z : Q). IsSound z) (sym less) (sound_cancelled key q s)
]

not-true : (b : Bool) → not b ≡ true → b ≡ false
not-true true e = absurd cc
not-true false e = refl

module _ (es : Standings) (qs : List Q) (p : ArePlaced es qs) (place : ℕ) (key : SubKey) (has : HasAt qs place key) where
  abbrev left : Standings
  left = filter (other key) es

  from : (i : ℕ) (e : Entry) → At left i e → (j : ℕ) × At es j e × (same key e.0 ≡ false)
  from i e at = (let r = filtered-at (other key) es i e at in (r.0, r.1, not-true (same key e.0) r.2))

  pub placed-cancelled : ArePlaced left (without_each (same key) qs)
  placed-cancelled = record {
    keyed = λ i e at. (let r = from i e at in p.keyed r.0 e r.1);
    placed = λ i e at.
        let r = from i e at in
        let was = p.placed r.0 e r.1 in
        (queue_without (same key) was.0, At-map (queue_without (same key)) qs e.1.1 was.0 was.1, among-queue key e.0 was.0 r.2 ∙ was.2);
    apart = subst (λ (ks : List SubKey). AreApart ks) (sym (keys-filter key es)) (apart_without key (keys_in es) p.apart);
    known = λ i q k at some.
        let m = At-mapped (queue_without (same key)) qs i q at in
        let kept = kept-queue key k m.0 (subst (λ (z : Q). is_among k z.subscriptions ≡ true) m.2 some) in
        ap (λ (ks : List SubKey). is_among k ks) (keys-filter key es) ∙ among_without k key (keys_in es) kept.0 ∙ p.known i m.0 k m.1 kept.1;
    sound = λ i q at. (let m = At-mapped (queue_without (same key)) qs i q at in subst (λ (z : Q). IsSound z) (sym m.2) (sound-queue key m.0 (p.sound i m.0 m.1)));
    one = λ i j k (a, at-a, in-a) (b, at-b, in-b).
        let x = At-mapped (queue_without (same key)) qs i a at-a in
        let y = At-mapped (queue_without (same key)) qs j b at-b in
        p.one i j k
        (x.0, x.1, (kept-queue key k x.0 (subst (λ (z : Q). is_among k z.subscriptions ≡ true) x.2 in-a)).1)
        (y.0, y.1, (kept-queue key k y.0 (subst (λ (z : Q). is_among k z.subscriptions ≡ true) y.2 in-b)).1);
    many =
        let less = total-less key qs place has in
        let one = one-fewer key es p.apart in
        let many = p.many in
        omega (arith, less, one, many);
    eight = length-each key qs ∙ p.eight;
  }

-- ---- which are not full

full-total : (qs : List Q) → ((i : ℕ) (q : Q) → At qs i q → queue_subscriptions ≤ length q.subscriptions) → length qs * 36 ≤ total qs
full-total [] full = omega arith
full-total (q ∷ qs) full =
    let here = full 0 q refl in let rest = full-total qs (λ i r at. full (suc i) r at) in omega (arith, here, rest)

-- with fewer subscriptions than fit some queue has room
pub some-room : (es : Standings) (qs : List Q) → ArePlaced es qs → AreFull qs → length es < 288 → ⊥
some-room es qs p full few =
    let sum = full-total qs full in let eight : length qs ≡ 8 = p.eight in let many = p.many in omega (arith, sum, eight, many, few)

-- the first with room, or none has room
first-room : (qs : List Q) → ((place : ℕ) × (q : Q) × IsFirstWithRoom qs place q) ⊎ AreFull qs
first-room [] = inr (λ i q at. nothing i q at)
  where
    nothing : {A : Type 0} (i : ℕ) (q : Q) → (let none : List Q = [] in At none i q) → A
    nothing i q at = absurd cc
first-room (q ∷ qs) = by (nat_lt (length q.subscriptions) queue_subscriptions) refl (first-room qs)
  where
    none-before : (i : ℕ) (r : Q) → i < 0 → At (q ∷ qs) i r → queue_subscriptions ≤ length r.subscriptions
    none-before i r less at = absurd (omega (arith, less))

    full-one : (r : Q) → queue_subscriptions ≤ length q.subscriptions → q ≡ r → queue_subscriptions ≤ length r.subscriptions
    full-one r full is = subst (λ (z : Q). queue_subscriptions ≤ length z.subscriptions) is full

    full-before : (place : ℕ) (i : ℕ) (r : Q) → queue_subscriptions ≤ length q.subscriptions
        → ((j : ℕ) (z : Q) → j < place → At qs j z → queue_subscriptions ≤ length z.subscriptions) → i < suc place → At (q ∷ qs) i r → queue_subscriptions ≤ length r.subscriptions
    full-before place zero r full rest less at = full-one r full (some_is q r at)
    full-before place (suc i) r full rest less at = rest i r (omega (arith, less)) at

    full-all : (i : ℕ) (r : Q) → queue_subscriptions ≤ length q.subscriptions → AreFull qs → At (q ∷ qs) i r → queue_subscriptions ≤ length r.subscriptions
    full-all zero r full rest at = full-one r full (some_is q r at)
    full-all (suc i) r full rest at = rest i r at

    by : (b : Bool) → nat_lt (length q.subscriptions) queue_subscriptions ≡ b → ((place : ℕ) × (r : Q) × IsFirstWithRoom qs place r) ⊎ AreFull qs
        → ((place : ℕ) × (r : Q) × IsFirstWithRoom (q ∷ qs) place r) ⊎ AreFull (q ∷ qs)
    by true room rest = inl (0, q, (refl, ltb-true (length q.subscriptions) queue_subscriptions room, none-before))
    by false full (inl f) =
        inl (suc f.0, f.1, (f.2.0, f.2.1, (λ i r less at. full-before f.0 i r (ltb-false (length q.subscriptions) queue_subscriptions full) f.2.2 less at)))
    by false full (inr all) = inr (λ i r at. full-all i r (ltb-false (length q.subscriptions) queue_subscriptions full) all at)

-- ---- the calls

module _ (es : Standings) (qs : List Q) (p : ArePlaced es qs) where
  abbrev pub whole : Subscribed
  whole = record { subscriptions = subscriptions_in es; queues = qs }

  pub room-is : (old : Subscribed) → whole ≡ old → HasRoom old
  room-is old is = subst (λ (s : Subscribed). HasRoom s) is (λ few. by (first-room qs) few)
    where
      by : ((place : ℕ) × (q : Q) × IsFirstWithRoom qs place q) ⊎ AreFull qs → length (subscriptions_in es) < 288 → (place : ℕ) × (q : Q) × IsFirstWithRoom qs place q
      by (inl f) few = f
      by (inr full) few = (let n = length-map es (λ (e : Entry). e.1.0) in absurd (some-room es qs p full (omega (arith, n, few))))

  -- the queue of one that was found has it
  pub found-at : (key : SubKey) (x : Subscription × ℕ) (place : ℕ) → lookup (same key) es ≡ Some x → place ≡ x.1 → HasAt qs place key
  found-at key x place is at =
      let f = looked-up key es x is in
      let has : HasAt qs f.1.1.1 f.1.0 = p.placed f.0 f.1 f.2 in
      let place_is : f.1.1.1 ≡ place = ap (λ (y : Subscription × ℕ). y.1) f.4 ∙ sym at in
      subst (λ (n : ℕ). HasAt qs n key) place_is (subst (λ (k : SubKey). HasAt qs f.1.1.1 k) f.3 has)

  pub cancels-one : (key : SubKey) (old : Subscribed) (left_es : Standings) (left_qs : List Q) → whole ≡ old → left_es ≡ remove_entry (same key) es → left_qs ≡ without_each (same key) qs
      → (let new : Subscribed = record { subscriptions = subscriptions_in left_es; queues = left_qs } in new) ≡ without_those (same key) old
  cancels-one key old left_es left_qs is removed cancelled_so =
      let subs : subscriptions_in left_es ≡ filter (λ (s : Subscription). not (same key (key_of s))) (subscriptions_in es) =
      ap subscriptions_in (removed ∙ removed-is key es p.apart) ∙ subscriptions-filter key es p.keyed in
      (λ i. let new : Subscribed = record { subscriptions = subs i; queues = cancelled_so i } in new) ∙ ap (λ (s : Subscribed). without_those (same key) s) is

  pub cancels-none : (key : SubKey) (old : Subscribed) → whole ≡ old → (let none : Option (Subscription × ℕ) = None in lookup (same key) es ≡ none) → old ≡ without_those (same key) old
  cancels-none key old is missing =
      let absent : is_among key (keys_in es) ≡ false = sym (held key es) ∙ ap (λ (o : Option (Subscription × ℕ)). is_some o) missing in
      let subs : filter (λ (s : Subscription). not (same key (key_of s))) (subscriptions_in es) ≡ subscriptions_in es =
      sym (subscriptions-filter key es p.keyed) ∙ ap subscriptions_in (all-other key es absent) in
      let queues : without_each (same key) qs ≡ qs = each-none key qs (has-none es qs key p absent) in
      let here : without_those (same key) whole ≡ whole = λ i. record { subscriptions = subs i; queues = queues i } in
      subst (λ (s : Subscribed). s ≡ without_those (same key) s) is (sym here)

  -- a key that is new
  pub not-there : (key : SubKey) → is_among key (keys_in es) ≡ false → lookup (same key) es ≡ None
  not-there key absent = by (lookup (same key) es) (held key es ∙ absent)
    where
      by : (o : Option (Subscription × ℕ)) → is_some o ≡ false → o ≡ None
      by None e = refl
      by (Some x) e = absurd cc

  pub new-key : (key : SubKey) (old : Subscribed) → whole ≡ old → has_key key old ≡ false → is_among key (keys_in es) ≡ false
  new-key key old is new = ap (λ (ks : List SubKey). is_among key ks) (sym (keys-of es p.keyed)) ∙ ap (λ (s : Subscribed). has_key key s) is ∙ new

  pub begins-new : (s : Subscription) (v : Stored) (old : Subscribed) (key : SubKey) (place : ℕ) (es2 : Standings) (qs2 : List Q) → whole ≡ old → key ≡ key_of s → has_key (key_of s) old ≡ false
      → es2 ≡ es ++ (key, (s, place)) ∷ [] → Begins qs key v (Ok place) qs2
      → ArePlaced es2 qs2 × Joins s v old (record { subscriptions = subscriptions_in es2; queues = qs2 })
  begins-new s v old key place es2 qs2 is keyed new grown b =
      let fresh = new-key (key_of s) old is new in
      let es_is : es2 ≡ es ++ (key_of s, (s, place)) ∷ [] = grown ∙ ap (λ (k : SubKey). es ++ (k, (s, place)) ∷ []) keyed in
      let qs_is : qs2 ≡ slice_set qs place (posted (key_of s) v (added (key_of s) b.0)) = b.2 ∙ ap (λ (k : SubKey). slice_set qs place (posted k v (added k b.0))) keyed in
      let placed : ArePlaced (es ++ (key_of s, (s, place)) ∷ []) (slice_set qs place (posted (key_of s) v (added (key_of s) b.0))) =
      placed-joined es qs place b.0 s v p b.1.0 b.1.1 fresh in (
        subst (λ (xs : Standings). ArePlaced xs qs2) (sym es_is) (subst (λ (rs : List Q). ArePlaced (es ++ (key_of s, (s, place)) ∷ []) rs) (sym qs_is) placed),
        subst (λ (o : Subscribed). Joins s v o (record { subscriptions = subscriptions_in es2; queues = qs2 })) is (record {
          place = place;
          q = b.0;
          first = b.1;
          leaves =
              let subs : subscriptions_in es2 ≡ subscriptions_in es ++ s ∷ [] = ap subscriptions_in es_is ∙ subscriptions-snoc es (key_of s, (s, place)) in
              λ i. record { subscriptions = subs i; queues = qs_is i };
        }),
      )

  -- the one at a place, which a post concerns, and its queue
  pub concerned-at : (name : List ℕ) (mask : ℕ) (old : Subscribed) (place : ℕ) (e : Entry) → whole ≡ old → At es place e → concerns name mask e.1.0 ≡ true → ConcernsAt name mask place old.subscriptions old.queues (Some e.1.1)
  concerned-at name mask old place e is at hit =
      subst (λ (s : Subscribed). ConcernsAt name mask place s.subscriptions s.queues (Some e.1.1)) is
      (e.1.0, At-map (λ (x : Entry). x.1.0) es place e at, hit, subst (λ (k : SubKey). HasAt qs e.1.1 k) (p.keyed place e at) (p.placed place e at), p.one)
