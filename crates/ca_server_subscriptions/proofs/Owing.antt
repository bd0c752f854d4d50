-- Updates wait beside the queues of an end.
use Rattle.std.proofs.Common.{◌≡◌, ℕ, zero, suc, ◌<◌, ◌≤◌, inl, inr, Bool, true, false, cond, List, [], ◌∷◌, ◌++◌, length, filter, map, Option, Some, None, Result, Ok, Err, refl, sym, ap, ◌∙◌, subst, arith}
use Rattle.std.specs.Prelude.{slice_set}
use Rattle.std.specs.List.{fold}
use Rattle.std.specs.Option.{MatchOption, option_to_list}
use Rattle.std.proofs.lemmas.Bool.{cases_Bool, or_from, or_parts}
use Rattle.std.proofs.lemmas.List.{append-nil, append_assoc}
use Rattle.ca_text.specs.declared.refusal.Refusal.{Refusal}
use Rattle.ca_text.specs.declared.refusal.Refusal.TheVariants as refusal
use Rattle.ca_text.specs.Place.{At}
use Rattle.ca_text.proofs.Places.{At-map, At-mapped, At-set, At-within, some_is}
use Rattle.ca_queue.specs.declared.entry.SubKey.{SubKey}
use Rattle.ca_queue.specs.Circuit.{Begins, HasAt, RestBefore, Takes, queue_posted, queue_without}
use Rattle.ca_queue.specs.Keys.{AreApart, is_among, same}
use Rattle.ca_queue.specs.Queue.{Queue, added, posted, with_front_taken}
use Rattle.ca_queue.specs.Waiting.{after_take, has_entry, is_of, taken}
use Rattle.ca_queue.proofs.Circuits.{idle-rests}
use Rattle.ca_queue.proofs.Keys.{other_sym}
use Rattle.ca_server_subscriptions.proofs.Dropping.{filtered-later}
use Rattle.ca_server_subscriptions.proofs.Sieves.{without-none, without-one}
use Rattle.ca_server_subscriptions.specs.declared.waiting.Addressee.{Addressee}
use Rattle.ca_server_subscriptions.specs.Owing.{AreEmpty, AreInOrder, AreOn, AreSwitched, HasOnly, IsNext, IsOwing, LosesNext, MayBegin, keys_of, with_owed}

-- ---- lists

pub map-alike : {A B : Type 0} (f g : A → B) (xs : List A) → ((i : ℕ) (x : A) → At xs i x → f x ≡ g x) → map f xs ≡ map g xs
map-alike f g [] alike = refl
map-alike f g (x ∷ xs) alike = λ t. alike 0 x refl t ∷ map-alike f g xs (λ i y at. alike (suc i) y at) t

pub map-both : {A B C : Type 0} (f : B → C) (g : A → B) (xs : List A) → map f (map g xs) ≡ map (λ (x : A). f (g x)) xs
map-both f g [] = refl
map-both f g (x ∷ xs) = ap (λ (ys : List _). f (g x) ∷ ys) (map-both f g xs)

map-nothing : {A : Type 0} (xs : List A) → xs ≡ map (λ (x : A). x) xs
map-nothing [] = refl
map-nothing (x ∷ xs) = ap (λ (ys : List _). x ∷ ys) (map-nothing xs)

-- a write makes one map of another if they differ there alone
set-alike : {A B : Type 0} (f g : A → B) (xs : List A) (i : ℕ) (x : A) → At xs i x → ((j : ℕ) (y : A) → At xs j y → (j ≡ i → ⊥) → f y ≡ g y) → slice_set (map f xs) i (g x) ≡ map g xs
set-alike f g [] i x at others = absurd cc
set-alike f g (z ∷ xs) zero x at others =
    λ t. g (sym (some_is z x at) t) ∷ map-alike f g xs (λ j y at-y. others (suc j) y at-y (λ e. omega arith)) t
set-alike f g (z ∷ xs) (suc i) x at others =
    λ t. others zero z refl (λ e. omega arith) t ∷ set-alike f g xs i x at (λ j y at-y other. others (suc j) y at-y (λ e. other (let d : suc j ≡ suc i = e in omega (arith, d)))) t

-- ---- some of those that are apart are apart

among-some : {A : Type 0} (key : A → SubKey) (f : A → Bool) (k : SubKey) (xs : List A) → is_among k (map key xs) ≡ false → is_among k (map key (filter f xs)) ≡ false
among-some key f k [] none = refl
among-some key f k (x ∷ xs) none =
    let parts = or_parts (same k (key x)) (is_among k (map key xs)) none in
    let rest = among-some key f k xs parts.1 in
    elim (cases_Bool (f x)) [
      | inl is ↦ rw (is, parts.0) rest
      | inr is ↦ rw is rest
    ]

pub apart-some : {A : Type 0} (key : A → SubKey) (f : A → Bool) (xs : List A) → AreApart (map key xs) → AreApart (map key (filter f xs))
apart-some key f [] apart = tt
apart-some key f (x ∷ xs) apart =
    let rest = apart-some key f xs apart.1 in
    elim (cases_Bool (f x)) [
      | inl is ↦ rw is (among-some key f (key x) xs apart.0, rest)
      | inr is ↦ rw is rest
    ]

-- by how many there are
pub none-left : (owed : List Addressee) (n : ℕ) → n ≡ length owed → n ≡ 0 → owed ≡ []
none-left [] n all none = refl
none-left (a ∷ owed) n all none = absurd (omega (arith, all, none))

pub owed-len : (owed : List Addressee) → owed ≡ [] → length owed ≡ 0
owed-len owed none = ap (λ (xs : List Addressee). length xs) none

pub order-some : {A : Type 0} (of : A → Addressee) (f : A → Bool) (xs : List A) → AreInOrder (map of xs) → AreInOrder (map of (filter f xs))
order-some of f [] order = tt
order-some of f (x ∷ xs) order =
    let rest = order-some of f xs order.1 in
    elim (cases_Bool (f x)) [
      | inl is ↦ rw is (
        λ i b at.
            let m = At-mapped of (filter f xs) i b at in
            let k = filtered-later f xs i m.0 m.1 in
            subst (λ (y : Addressee). (of x).queue ≤ y.queue) (sym m.2) (order.0 k.0 (of m.0) (At-map of xs k.0 m.0 k.2)),
        rest,
      )
      | inr is ↦ rw is rest
    ]

-- those that are apart from one differ from it
others : (key : SubKey) (owed : List Addressee) (i : ℕ) (a : Addressee) → is_among key (keys_of owed) ≡ false → At owed i a → same a.key key ≡ false
others key [] i a none at = absurd cc
others key (b ∷ owed) zero a none at =
    let parts = or_parts (same key b.key) (is_among key (keys_of owed)) none in
    subst (λ (x : Addressee). same x.key key ≡ false) (some_is b a at) (other_sym key b.key parts.0)
others key (b ∷ owed) (suc i) a none at =
    let parts = or_parts (same key b.key) (is_among key (keys_of owed)) none in
    others key owed i a parts.1 at

module _ {E : Type 0} where
  -- ---- events stay on, or off

  pub on-map : (on : Bool) (f : Queue E → Queue E) → ((q : Queue E) → (f q).events_on ≡ q.events_on) → (qs : List (Queue E)) → AreSwitched on qs → AreSwitched on (map f qs)
  on-map on f keeps qs are i q at =
      let m = At-mapped f qs i q at in
      ap (λ (x : Queue E). x.events_on) m.2 ∙ keeps m.0 ∙ are i m.0 m.1

  on-set : (on : Bool) (qs : List (Queue E)) (place : ℕ) (q r : Queue E) → At qs place q → r.events_on ≡ q.events_on → AreSwitched on qs → AreSwitched on (slice_set qs place r)
  on-set on qs place q r at keeps are i x at-x = elim (At-set qs place r i x at-x) [
    | inl here ↦ ap (λ (y : Queue E). y.events_on) here.1 ∙ keeps ∙ are place q at
    | inr there ↦ are i x there.0
  ]

  posted-on : (key : SubKey) (v : E) (q : Queue E) → (queue_posted key v q).events_on ≡ q.events_on
  posted-on key v q = by (is_among key q.subscriptions) refl
    where
      by : (b : Bool) → is_among key q.subscriptions ≡ b → (queue_posted key v q).events_on ≡ q.events_on
      by true is = ap (λ (b : Bool). (cond b (posted key v q) q).events_on) is
      by false is = ap (λ (b : Bool). (cond b (posted key v q) q).events_on) is

  pub on-posted : (on : Bool) (key : SubKey) (v : E) (qs : List (Queue E)) → AreSwitched on qs → AreSwitched on (map (queue_posted key v) qs)
  on-posted on key v qs are = on-map on (queue_posted key v) (posted-on key v) qs are

  pub on-owed : (on : Bool) (owed : List Addressee) (v : E) (qs : List (Queue E)) → AreSwitched on qs → AreSwitched on (with_owed owed v qs)
  on-owed on [] v qs are = are
  on-owed on (a ∷ owed) v qs are = on-owed on owed v (map (queue_posted a.key v) qs) (on-posted on a.key v qs are)

  pub without-on : (key : SubKey) (q : Queue E) → (queue_without (same key) q).events_on ≡ q.events_on
  without-on key q = elim (cases_Bool (is_among key q.subscriptions)) [
    | inl some ↦ ap (λ (r : Queue E). r.events_on) (without-one key q some)
    | inr none ↦ ap (λ (r : Queue E). r.events_on) (without-none key q none)
  ]

  pub on-began : (on : Bool) (key : SubKey) (v : E) (r : Result ℕ Refusal) (old new : List (Queue E)) → Begins old key v r new → AreSwitched on old → AreSwitched on new
  on-began on key v (Ok place) old new b are = subst (AreSwitched on) (sym b.2) (on-set on old place b.0 (posted key v (added key b.0)) b.1.0 refl are)
  on-began on key v (Err refusal.TooManySubscriptions) old new b are = subst (AreSwitched on) (sym b.1) are
  on-began on key v (Err refusal.OutOfMemory) old new b are = subst (AreSwitched on) (sym b.1) are
  on-began on key v (Err _) old new b are = absurd b

  -- what was refused changed nothing
  pub refused-none : (key : SubKey) (v : E) (e : Refusal) (old new : List (Queue E)) → MayBegin old key v (Err e) new → new ≡ old
  refused-none key v refusal.OutOfMemory old new h = h
  refused-none key v refusal.TooManySubscriptions old new h = h.1
  refused-none key v _ old new h = absurd h

  pub on-taken : (on : Bool) (r : Option (ℕ × SubKey × E)) (old new : List (Queue E)) → Takes old r new → AreSwitched on old → AreSwitched on new
  on-taken on None old new t are = subst (AreSwitched on) (sym t.1) are
  on-taken on (Some (place, key, v)) old new t are = subst (AreSwitched on) (sym t.4) (on-set on old place t.0 (with_front_taken t.0) t.1 refl are)

  -- ---- nothing waits beside them

  pub none-owed : (on empty : Bool) (owed : List Addressee) (qs : List (Queue E)) → owed ≡ [] → AreSwitched on qs → (empty ≡ true → AreEmpty qs) → IsOwing on empty owed qs
  none-owed on empty owed qs none are quiet = subst (λ (xs : List Addressee). IsOwing on empty xs qs) (sym none) (record {
    switched = are;
    quiet = quiet;
    only_one = λ i a at. nothing i a at;
    apart = tt;
    ordered = tt;
  })
    where
      nothing : {A : Type 0} (i : ℕ) (a : Addressee) → (let xs : List Addressee = [] in At xs i a) → A
      nothing i a at = absurd cc

  pub view-other : (owed left : List Addressee) (v u : E) (qs now : List (Queue E)) → with_owed owed v qs ≡ now → owed ≡ [] → left ≡ [] → now ≡ with_owed left u qs
  view-other owed left v u qs now is none gone = sym is ∙ ap (λ (xs : List Addressee). with_owed xs v qs) none ∙ sym (ap (λ (xs : List Addressee). with_owed xs u qs) gone)

  pub view-none : (owed : List Addressee) (v : E) (qs now : List (Queue E)) → with_owed owed v qs ≡ now → owed ≡ [] → qs ≡ now
  view-none owed v qs now is none = sym (ap (λ (xs : List Addressee). with_owed xs v qs) none) ∙ is

  front-empty : (ws : List (SubKey × E)) → taken true ws ≡ None → ws ≡ []
  front-empty [] none = refl
  front-empty (w ∷ ws) none = absurd cc

  -- where no queue returns one and events are on, nothing waits
  pub none-taken : (on : Bool) (old new : List (Queue E)) → AreSwitched on old → Takes old None new → on ≡ true → AreEmpty new
  none-taken on old new are t is i q at =
      let was : At old i q = subst (λ (qs : List (Queue E)). At qs i q) t.1 at in
      let rests : taken q.events_on q.waiting ≡ None = t.0 i q (At-within old i q was) was in
      front-empty q.waiting (subst (λ (b : Bool). taken b q.waiting ≡ None) (are i q was ∙ is) rests)

  -- ---- subscriptions stay where they are

  posted-has : (key : SubKey) (v : E) (q : Queue E) → (queue_posted key v q).subscriptions ≡ q.subscriptions
  posted-has key v q = by (is_among key q.subscriptions) refl
    where
      by : (b : Bool) → is_among key q.subscriptions ≡ b → (queue_posted key v q).subscriptions ≡ q.subscriptions
      by true is = ap (λ (b : Bool). (cond b (posted key v q) q).subscriptions) is
      by false is = ap (λ (b : Bool). (cond b (posted key v q) q).subscriptions) is

  pub has-posted : (key : SubKey) (v : E) (qs : List (Queue E)) (place : ℕ) (k : SubKey) → HasAt qs place k → HasAt (map (queue_posted key v) qs) place k
  has-posted key v qs place k (q, at, some) =
      (queue_posted key v q, At-map (queue_posted key v) qs place q at, ap (λ (ks : List SubKey). is_among k ks) (posted-has key v q) ∙ some)

  had-posted : (key : SubKey) (v : E) (qs : List (Queue E)) (place : ℕ) (k : SubKey) → HasAt (map (queue_posted key v) qs) place k → HasAt qs place k
  had-posted key v qs place k (q, at, some) =
      let m = At-mapped (queue_posted key v) qs place q at in
      (m.0, m.1, ap (λ (ks : List SubKey). is_among k ks) (sym (ap (λ (r : Queue E). r.subscriptions) m.2 ∙ posted-has key v m.0)) ∙ some)

  pub had-owed : (owed : List Addressee) (v : E) (qs : List (Queue E)) (place : ℕ) (k : SubKey) → HasAt (with_owed owed v qs) place k → HasAt qs place k
  had-owed [] v qs place k has = has
  had-owed (a ∷ owed) v qs place k has = had-posted a.key v qs place k (had-owed owed v (map (queue_posted a.key v) qs) place k has)

  -- ---- what each queue has if nothing waited before

  abbrev pub entry_of : E → Addressee → SubKey × E
  entry_of v a = (a.key, v)

  -- the updates that are a queue's
  abbrev pub its : List Addressee → E → Queue E → List (SubKey × E)
  its owed v q = map (entry_of v) (filter (λ (a : Addressee). is_among a.key q.subscriptions) owed)

  -- the queue with them
  abbrev pub owing : List Addressee → E → Queue E → Queue E
  owing owed v q = record { waiting = q.waiting ++ its owed v q; subscriptions = q.subscriptions; events_on = q.events_on }

  entry-more : (k key : SubKey) (v : E) (ws : List (SubKey × E)) → has_entry k ws ≡ false → same k key ≡ false → has_entry k (ws ++ (key, v) ∷ []) ≡ false
  entry-more k key v [] none other = rw other refl
  entry-more k key v (w ∷ ws) none other =
      let parts = or_parts (is_of k w) (has_entry k ws) none in
      or_from (is_of k w) (has_entry k (ws ++ (key, v) ∷ [])) parts.0 (entry-more k key v ws parts.1 other)

  one-posted : (key : SubKey) (v : E) (q : Queue E) → is_among key q.subscriptions ≡ true → has_entry key q.waiting ≡ false
      → queue_posted key v q ≡ (let r : Queue E = record { waiting = q.waiting ++ (key, v) ∷ []; subscriptions = q.subscriptions; events_on = q.events_on } in r)
  one-posted key v q some none = rw (some, none) refl

  abbrev each : E → Queue E → Addressee → Queue E
  each v q a = queue_posted a.key v q

  -- one more in front of them
  one-more : (a : Addressee) (owed : List Addressee) (v : E) (q : Queue E) (b : Bool) → is_among a.key q.subscriptions ≡ b
      → (let r : Queue E = record { waiting = q.waiting ++ map (entry_of v) (cond b (a ∷ filter (λ (x : Addressee). is_among x.key q.subscriptions) owed) (filter (λ (x : Addressee). is_among x.key q.subscriptions) owed)); subscriptions = q.subscriptions; events_on = q.events_on } in r)
      ≡ owing (a ∷ owed) v q
  one-more a owed v q b is = λ t. record {
    waiting = q.waiting ++ map (entry_of v) (cond (sym is t) (a ∷ filter (λ (x : Addressee). is_among x.key q.subscriptions) owed) (filter (λ (x : Addressee). is_among x.key q.subscriptions) owed));
    subscriptions = q.subscriptions;
    events_on = q.events_on;
  }

  fold-one : (owed : List Addressee) (v : E) (q : Queue E) → AreApart (keys_of owed) → ((i : ℕ) (a : Addressee) → At owed i a → has_entry a.key q.waiting ≡ false) → fold (each v) q owed ≡ owing owed v q
  fold-one [] v q apart fresh = λ t. record { waiting = sym (append-nil q.waiting) t; subscriptions = q.subscriptions; events_on = q.events_on }
  fold-one (a ∷ owed) v q apart fresh = elim (cases_Bool (is_among a.key q.subscriptions)) [
    | inl some ↦
        let more : Queue E = record { waiting = q.waiting ++ (a.key, v) ∷ []; subscriptions = q.subscriptions; events_on = q.events_on } in
        ap (λ (r : Queue E). fold (each v) r owed) (one-posted a.key v q some (fresh 0 a refl))
        ∙ fold-one owed v more apart.1 (λ i b at. entry-more b.key a.key v q.waiting (fresh (suc i) b at) (others a.key owed i b apart.0 at))
        ∙ (λ t. record { waiting = append_assoc q.waiting ((a.key, v) ∷ []) (its owed v q) t; subscriptions = q.subscriptions; events_on = q.events_on })
        ∙ one-more a owed v q true some
    | inr none ↦
        let same_q : queue_posted a.key v q ≡ q = ap (λ (b : Bool). cond b (posted a.key v q) q) none in
        ap (λ (r : Queue E). fold (each v) r owed) same_q
        ∙ fold-one owed v q apart.1 (λ i b at. fresh (suc i) b at)
        ∙ one-more a owed v q false none
  ]

  fold-map : (owed : List Addressee) (v : E) (qs : List (Queue E)) → with_owed owed v qs ≡ map (λ (q : Queue E). fold (each v) q owed) qs
  fold-map [] v qs = map-nothing qs
  fold-map (a ∷ owed) v qs = fold-map owed v (map (queue_posted a.key v) qs) ∙ map-both (λ (q : Queue E). fold (each v) q owed) (queue_posted a.key v) qs

  pub laid-out : (owed : List Addressee) (v : E) (qs : List (Queue E)) → AreApart (keys_of owed) → AreEmpty qs → with_owed owed v qs ≡ map (owing owed v) qs
  laid-out owed v qs apart empty =
      fold-map owed v qs
      ∙ map-alike (λ (q : Queue E). fold (each v) q owed) (owing owed v) qs (λ i q at. fold-one owed v q apart (λ j a at-a. ap (λ (ws : List (SubKey × E)). has_entry a.key ws) (empty i q at)))

  -- ---- the first of them is the next to be taken

  module _ (a : Addressee) (owed : List Addressee) (v : E) (qs : List (Queue E)) (on : AreOn qs) (empty : AreEmpty qs) (only_one : (i : ℕ) (b : Addressee) → At (a ∷ owed) i b → HasOnly qs b.queue b.key) (ordered : AreInOrder (a ∷ owed)) where
    abbrev one : HasOnly qs a.queue a.key
    one = only_one 0 a refl

    abbrev q : Queue E
    q = one.0.0

    abbrev at : At qs a.queue q
    at = one.0.1

    -- a queue before its has none of them
    before : (i : ℕ) (m : Queue E) → i < a.queue → At qs i m → (bs : List Addressee) → ((j : ℕ) (b : Addressee) → At bs j b → HasOnly qs b.queue b.key × (a.queue ≤ b.queue))
        → filter (λ (b : Addressee). is_among b.key m.subscriptions) bs ≡ []
    before i m lt at-m [] all = refl
    before i m lt at-m (b ∷ bs) all = elim (cases_Bool (is_among b.key m.subscriptions)) [
      | inl some ↦
          let e : i ≡ b.queue = (all 0 b refl).0.1 i (m, at-m, some) in
          let le : a.queue ≤ b.queue = (all 0 b refl).1 in
          absurd (omega (arith, e, lt, le))
      | inr none ↦ rw none (before i m lt at-m bs (λ j c at-c. all (suc j) c at-c))
    ]

    behind : (i : ℕ) (b : Addressee) → At (a ∷ owed) i b → HasOnly qs b.queue b.key × (a.queue ≤ b.queue)
    behind zero b at-b = (only_one 0 b at-b, subst (λ (x : Addressee). a.queue ≤ x.queue) (some_is a b at-b) (omega arith))
    behind (suc i) b at-b = (only_one (suc i) b at-b, ordered.0 i b at-b)

    front : (owing (a ∷ owed) v q).waiting ≡ (a.key, v) ∷ its owed v q
    front =
        λ t. empty a.queue q at t ++ map (entry_of v) (cond (one.0.2 t) (a ∷ filter (λ (b : Addressee). is_among b.key q.subscriptions) owed) (filter (λ (b : Addressee). is_among b.key q.subscriptions) owed))

    gives : taken (owing (a ∷ owed) v q).events_on (owing (a ∷ owed) v q).waiting ≡ Some (a.key, v)
    gives = λ t. taken (on a.queue q at t) (front t)

    left : with_front_taken (owing (a ∷ owed) v q) ≡ owing owed v q
    left =
        let waits : after_take q.events_on (owing (a ∷ owed) v q).waiting ≡ q.waiting ++ its owed v q = (λ t. after_take (on a.queue q at t) (front t)) ∙ (λ t. sym (empty a.queue q at) t ++ its owed v q) in
        λ t. record { waiting = waits t; subscriptions = q.subscriptions; events_on = q.events_on }

    elsewhere : (i : ℕ) (m : Queue E) → At qs i m → (i ≡ a.queue → ⊥) → owing (a ∷ owed) v m ≡ owing owed v m
    elsewhere i m at-m differs = by (is_among a.key m.subscriptions) refl
      where
        by : (c : Bool) → is_among a.key m.subscriptions ≡ c → owing (a ∷ owed) v m ≡ owing owed v m
        by true some = absurd (differs (one.1 i (m, at-m, some)))
        by false none = λ t. record {
          waiting = m.waiting ++ map (entry_of v) (cond (none t) (a ∷ filter (λ (b : Addressee). is_among b.key m.subscriptions) owed) (filter (λ (b : Addressee). is_among b.key m.subscriptions) owed));
          subscriptions = m.subscriptions;
          events_on = m.events_on;
        }

    rests : RestBefore (map (owing (a ∷ owed) v) qs) a.queue
    rests i r lt at-r =
        let m = At-mapped (owing (a ∷ owed) v) qs i r at-r in
        let none : filter (λ (b : Addressee). is_among b.key m.0.subscriptions) (a ∷ owed) ≡ [] = before i m.0 lt m.1 (a ∷ owed) behind in
        idle-rests r (ap (λ (x : Queue E). x.waiting) m.2 ∙ (λ t. empty i m.0 m.1 t ++ map (entry_of v) (none t)))

    owing-takes : Takes (map (owing (a ∷ owed) v) qs) (Some (a.queue, a.key, v)) (map (owing owed v) qs)
    owing-takes = (
      owing (a ∷ owed) v q,
      At-map (owing (a ∷ owed) v) qs a.queue q at,
      rests,
      gives,
      sym (set-alike (owing (a ∷ owed) v) (owing owed v) qs a.queue q at (λ j m at-m differs. elsewhere j m at-m differs))
          ∙ ap (λ (r : Queue E). slice_set (map (owing (a ∷ owed) v) qs) a.queue r) (sym left),
    )

  pub owed-takes : (on empty : Bool) (a : Addressee) (owed : List Addressee) (v : E) (qs : List (Queue E)) → IsOwing on empty (a ∷ owed) qs → on ≡ true → Takes (with_owed (a ∷ owed) v qs) (Some (a.queue, a.key, v)) (with_owed owed v qs)
  owed-takes on empty a owed v qs h is =
      let none : AreEmpty qs = h.quiet (h.only_one 0 a refl).0 in
      let all : AreOn qs = subst (λ (b : Bool). AreSwitched b qs) is h.switched in
      subst (λ (rs : List (Queue E)). Takes rs (Some (a.queue, a.key, v)) (with_owed owed v qs)) (sym (laid-out (a ∷ owed) v qs h.apart none))
      (subst (λ (rs : List (Queue E)). Takes (map (owing (a ∷ owed) v) qs) (Some (a.queue, a.key, v)) rs) (sym (laid-out owed v qs h.apart.1 none))
      (owing-takes a owed v qs all none (λ i b at. (h.only_one i b at).1) h.ordered))

  pub owed-rest : (on empty : Bool) (a : Addressee) (owed : List Addressee) (qs : List (Queue E)) → IsOwing on empty (a ∷ owed) qs → IsOwing on empty owed qs
  owed-rest on empty a owed qs h =
      record { switched = h.switched; quiet = h.quiet; only_one = λ i b at. h.only_one (suc i) b at; apart = h.apart.1; ordered = h.ordered.1 }

  pub owed-next : (on empty : Bool) (owed : List Addressee) (a : Addressee) (v : E) (qs now : List (Queue E)) → IsOwing on empty owed qs → on ≡ true → At owed 0 a → with_owed owed v qs ≡ now → IsNext now a.key v
  owed-next on empty [] a v qs now h is at view = absurd cc
  owed-next on empty (b ∷ owed) a v qs now h is at view =
      subst (λ (x : Addressee). IsNext now x.key v) (some_is b a at)
      (subst (λ (rs : List (Queue E)). IsNext rs b.key v) view (b.queue, with_owed owed v qs, owed-takes on empty b owed v qs h is))

  pub some-next : (on empty : Bool) (owed : List Addressee) (v : E) (qs now : List (Queue E)) → IsOwing on empty owed qs → on ≡ true → (owed ≡ [] → ⊥) → with_owed owed v qs ≡ now → (key : SubKey) × ((u : E) × IsNext now key u)
  some-next on empty [] v qs now h is some view = absurd (some refl)
  some-next on empty (a ∷ owed) v qs now h is some view = (a.key, (v, owed-next on empty (a ∷ owed) a v qs now h is refl view))

  pub owed-loses : (on empty : Bool) (a : Addressee) (owed : List Addressee) (v : E) (qs now : List (Queue E)) → IsOwing on empty (a ∷ owed) qs → on ≡ true → with_owed (a ∷ owed) v qs ≡ now → LosesNext now (with_owed owed v qs)
  owed-loses on empty a owed v qs now h is view =
      subst (λ (rs : List (Queue E)). LosesNext rs (with_owed owed v qs)) view (Some (a.queue, a.key, v), owed-takes on empty a owed v qs h is)

  -- one that waits alone
  pub one-takes : (place : ℕ) (key : SubKey) (v : E) (qs : List (Queue E)) → AreOn qs → AreEmpty qs → HasOnly qs place key → Takes (map (queue_posted key v) qs) (Some (place, key, v)) qs
  one-takes place key v qs on empty only_one = owed-takes true true its_own [] v qs (record {
    switched = on;
    quiet = λ e. empty;
    only_one = λ i a at. (refl, by i a at);
    apart = (refl, tt);
    ordered = (λ i b at. absurd cc, tt);
  }) refl
    where
      its_own : Addressee
      its_own = record { queue = place; key = key }

      by : (i : ℕ) (a : Addressee) → At (its_own ∷ []) i a → HasOnly qs a.queue a.key
      by zero a at = subst (λ (x : Addressee). HasOnly qs x.queue x.key) (some_is its_own a at) only_one
      by (suc i) a at = absurd cc

  pub front-loses : (P : Type 0) (Q : Addressee → Type 0) (on empty : Bool) (front : Option Addressee) (owed rest : List Addressee) (v : E) (qs now : List (Queue E)) → IsOwing on empty owed qs → on ≡ true
      → owed ≡ option_to_list front ++ rest → MatchOption front P Q → (P → ⊥) → with_owed owed v qs ≡ now → LosesNext now (with_owed rest v qs)
  front-loses P Q on empty None owed rest v qs now h is parts none some view = absurd (some none)
  front-loses P Q on empty (Some a) owed rest v qs now h is parts none some view =
      owed-loses on empty a rest v qs now (subst (λ (xs : List Addressee). IsOwing on empty xs qs) parts h) is (ap (λ (xs : List Addressee). with_owed xs v qs) (sym parts) ∙ view)

  pub front-rest : (on empty : Bool) (front : Option Addressee) (owed rest : List Addressee) (qs : List (Queue E)) → IsOwing on empty owed qs → owed ≡ option_to_list front ++ rest → IsOwing on empty rest qs
  front-rest on empty None owed rest qs h is = subst (λ (xs : List Addressee). IsOwing on empty xs qs) is h
  front-rest on empty (Some a) owed rest qs h is = owed-rest on empty a rest qs (subst (λ (xs : List Addressee). IsOwing on empty xs qs) is h)
