-- What changes the queues of an end while updates wait beside them.
use Rattle.std.proofs.Common.{◌≡◌, ℕ, ◌≤◌, ◌+◌, ◌||◌, inl, inr, Bool, true, false, not, List, [], ◌∷◌, ◌++◌, length, filter, map, nat_lt, Option, Some, None, refl, sym, ap, ◌∙◌, subst, arith}
use Rattle.std.specs.List.{list_any}
use Rattle.std.specs.Map.{lookup}
use Rattle.std.proofs.lemmas.Bool.{both_ways, cases_Bool, ltb-true, or_parts}
use Rattle.ca_text.proofs.Places.{At-map, At-mapped}
use Rattle.ca_queue.specs.declared.entry.SubKey.{SubKey}
use Rattle.ca_queue.specs.Circuit.{HasAt, RestBefore, Takes, queue_without, without_each}
use Rattle.ca_queue.specs.Keys.{AreApart, is_among, same}
use Rattle.ca_queue.specs.Queue.{Queue, cancelled, switched}
use Rattle.ca_queue.specs.Waiting.{count_of, is_crowded, is_of, taken}
use Rattle.ca_queue.proofs.Keys.{among_without, count_by-cons, number_of, same_is}
use Rattle.ca_model.specs.Server.{Subscription}
use Rattle.ca_model.specs.Speech.{Stored}
use Rattle.ca_wire.specs.declared.requests.Wanted.{Wanted}
use Rattle.ca_server_subscriptions.proofs.Dropping.{filtered-later}
use Rattle.ca_server_subscriptions.proofs.Owing.{apart-some, entry_of, its, laid-out, map-alike, map-both, on-map, order-some, owing, without-on}
use Rattle.ca_server_subscriptions.proofs.Placing.{Q, whole}
use Rattle.ca_server_subscriptions.proofs.Pumps.{gives-one, placed-taken, taken-some}
use Rattle.ca_server_subscriptions.proofs.Sieves.{without-none, without-one}
use Rattle.ca_server_subscriptions.specs.Pumping.{GivesUpdate}
use Rattle.ca_server_subscriptions.specs.Subscribed.{ArePlaced, Standings, Subscribed, subscriptions_in}
use Rattle.ca_server_subscriptions.specs.declared.waiting.Addressee.{Addressee}
use Rattle.ca_server_subscriptions.specs.Owing.{AreEmpty, AreInOrder, IsOwing, LosesNext, keys_of, with_owed}

-- all but one
abbrev others_of : SubKey → List Addressee → List Addressee
others_of key owed = filter (λ (a : Addressee). not (same key a.key)) owed

differs-at : (b : Bool) → not b ≡ true → b ≡ false
differs-at true is = absurd (both_ways false refl is)
differs-at false is = refl

less : (n : ℕ) → n ≤ 1 → nat_lt 1 n ≡ false
less n le = elim (cases_Bool (nat_lt 1 n)) [
  | inl more ↦ (let lt = ltb-true 1 n more in absurd (omega (arith, lt, le)))
  | inr not_more ↦ not_more
]

module _ {E : Type 0} where
  -- ---- while events are off none of them may be taken: each subscription has one at most

  abbrev keys_in : List (SubKey × E) → List SubKey
  keys_in ws = map (λ (w : SubKey × E). w.0) ws

  count-none : (k : SubKey) (ws : List (SubKey × E)) → is_among k (keys_in ws) ≡ false → count_of k ws ≡ 0
  count-none k [] none = refl
  count-none k (w ∷ ws) none =
      let parts = or_parts (same k w.0) (is_among k (keys_in ws)) none in
      count_by-cons (is_of k) w ws ∙ (λ t. number_of (parts.0 t) + count-none k ws parts.1 t)

  count-one : (k : SubKey) (ws : List (SubKey × E)) → AreApart (keys_in ws) → count_of k ws ≤ 1
  count-one k [] apart = omega arith
  count-one k (w ∷ ws) apart = elim (cases_Bool (same k w.0)) [
    | inl is ↦
        let none : count_of k ws ≡ 0 = count-none k ws (subst (λ (x : SubKey). is_among x (keys_in ws) ≡ false) (sym (same_is k w.0 is)) apart.0) in
        let all : count_of k (w ∷ ws) ≡ number_of true + count_of k ws = count_by-cons (is_of k) w ws ∙ ap (λ (b : Bool). number_of b + count_of k ws) is in
        omega (arith, none, all)
    | inr differs ↦
        let rest = count-one k ws apart.1 in
        let all : count_of k (w ∷ ws) ≡ number_of false + count_of k ws = count_by-cons (is_of k) w ws ∙ ap (λ (b : Bool). number_of b + count_of k ws) differs in
        omega (arith, rest, all)
  ]

  few : (ws vs : List (SubKey × E)) → ((k : SubKey) → count_of k ws ≤ 1) → list_any (λ (w : SubKey × E). nat_lt 1 (count_of w.0 ws)) vs ≡ false
  few ws [] all = refl
  few ws (v ∷ vs) all =
      let none : nat_lt 1 (count_of v.0 ws) ≡ false = (let le = all v.0 in less (count_of v.0 ws) le) in
      (λ t. none t || list_any (λ (w : SubKey × E). nat_lt 1 (count_of w.0 ws)) vs) ∙ few ws vs all

  apart-its : (owed : List Addressee) (v : E) (q : Queue E) → AreApart (keys_of owed) → AreApart (keys_in (its owed v q))
  apart-its owed v q apart =
      let some : List Addressee = filter (λ (a : Addressee). is_among a.key q.subscriptions) owed in
      subst (λ (ks : List SubKey). AreApart ks) (sym (map-both (λ (w : SubKey × E). w.0) (entry_of v) some))
      (apart-some (λ (a : Addressee). a.key) (λ (a : Addressee). is_among a.key q.subscriptions) owed apart)

  off-one : (ws : List (SubKey × E)) → AreApart (keys_in ws) → taken false ws ≡ None
  off-one ws apart = (let none : is_crowded ws ≡ false = few ws ws (λ k. count-one k ws apart) in rw none refl)

  pub off-rests : (on empty : Bool) (a : Addressee) (owed : List Addressee) (v : E) (qs now : List (Queue E)) → IsOwing on empty (a ∷ owed) qs → on ≡ false → with_owed (a ∷ owed) v qs ≡ now → RestBefore now (length now)
  off-rests on empty a owed v qs now h off view =
      let none : AreEmpty qs = h.quiet (h.only_one 0 a refl).0 in
      subst (λ (rs : List (Queue E)). RestBefore rs (length rs)) (sym (laid-out (a ∷ owed) v qs h.apart none) ∙ view)
      (λ i r lt at.
      let m = At-mapped (owing (a ∷ owed) v) qs i r at in
      let waits : r.waiting ≡ its (a ∷ owed) v m.0 = ap (λ (x : Queue E). x.waiting) m.2 ∙ (λ t. none i m.0 m.1 t ++ its (a ∷ owed) v m.0) in
      let is_off : r.events_on ≡ false = ap (λ (x : Queue E). x.events_on) m.2 ∙ h.switched i m.0 m.1 ∙ off in
      (λ t. taken (is_off t) (waits t)) ∙ off-one (its (a ∷ owed) v m.0) (apart-its (a ∷ owed) v m.0 h.apart))

  pub off-takes : (on empty : Bool) (owed : List Addressee) (v : E) (qs now : List (Queue E)) → IsOwing on empty owed qs → on ≡ false → (owed ≡ [] → ⊥) → with_owed owed v qs ≡ now → Takes now None now
  off-takes on empty [] v qs now h off some view = absurd (some refl)
  off-takes on empty (a ∷ owed) v qs now h off some view = (off-rests on empty a owed v qs now h off view, refl)

  -- ---- events are turned on or off

  empty-switched : (on : Bool) (qs : List (Queue E)) → AreEmpty qs → AreEmpty (map (switched on) qs)
  empty-switched on qs empty i q at = (let m = At-mapped (switched on) qs i q at in ap (λ (x : Queue E). x.waiting) m.2 ∙ empty i m.0 m.1)

  had-switched : (on : Bool) (qs : List (Queue E)) (i : ℕ) (k : SubKey) → HasAt (map (switched on) qs) i k → HasAt qs i k
  had-switched on qs i k (q, at, some) =
      let m = At-mapped (switched on) qs i q at in (m.0, m.1, ap (λ (x : Queue E). is_among k x.subscriptions) (sym m.2) ∙ some)

  has-switched : (on : Bool) (qs : List (Queue E)) (i : ℕ) (k : SubKey) → HasAt qs i k → HasAt (map (switched on) qs) i k
  has-switched on qs i k (q, at, some) = (switched on q, At-map (switched on) qs i q at, some)

  pub owing-switched : (on was empty : Bool) (owed : List Addressee) (qs : List (Queue E)) → IsOwing was empty owed qs → IsOwing on empty owed (map (switched on) qs)
  owing-switched on was empty owed qs h = record {
    switched = λ i q at. (let m = At-mapped (switched on) qs i q at in ap (λ (x : Queue E). x.events_on) m.2);
    quiet = λ e. empty-switched on qs (h.quiet e);
    only_one = λ i a at.
        let one = h.only_one i a at in
        (one.0, (has-switched on qs a.queue a.key one.1.0, λ j has. one.1.1 j (had-switched on qs j a.key has)));
    apart = h.apart;
    ordered = h.ordered;
  }

  pub view-switched : (on was empty : Bool) (owed : List Addressee) (v : E) (qs : List (Queue E)) → IsOwing was empty owed qs → with_owed owed v (map (switched on) qs) ≡ map (switched on) (with_owed owed v qs)
  view-switched on was empty [] v qs h = refl
  view-switched on was empty (a ∷ owed) v qs h =
      let none : AreEmpty qs = h.quiet (h.only_one 0 a refl).0 in
      laid-out (a ∷ owed) v (map (switched on) qs) h.apart (empty-switched on qs none)
      ∙ map-both (owing (a ∷ owed) v) (switched on) qs
      ∙ sym (map-both (switched on) (owing (a ∷ owed) v) qs)
      ∙ ap (λ (rs : List (Queue E)). map (switched on) rs) (sym (laid-out (a ∷ owed) v qs h.apart none))

  -- ---- a subscription is taken out

  cancelled-has : (key k : SubKey) (q : Queue E) → same key k ≡ false → is_among k (queue_without (same key) q).subscriptions ≡ is_among k q.subscriptions
  cancelled-has key k q differs = elim (cases_Bool (is_among key q.subscriptions)) [
    | inl some ↦ ap (λ (x : Queue E). is_among k x.subscriptions) (without-one key q some) ∙ among_without k key q.subscriptions differs
    | inr none ↦ ap (λ (x : Queue E). is_among k x.subscriptions) (without-none key q none)
  ]

  empty-without : (key : SubKey) (qs : List (Queue E)) → AreEmpty qs → AreEmpty (without_each (same key) qs)
  empty-without key qs empty i q at =
      let m = At-mapped (queue_without (same key)) qs i q at in
      ap (λ (x : Queue E). x.waiting) m.2 ∙ elim (cases_Bool (is_among key m.0.subscriptions)) [
        | inl some ↦ ap (λ (x : Queue E). x.waiting) (without-one key m.0 some) ∙ ap (λ (ws : List (SubKey × E)). filter (λ (w : SubKey × E). not (is_of key w)) ws) (empty i m.0 m.1)
        | inr none ↦ ap (λ (x : Queue E). x.waiting) (without-none key m.0 none) ∙ empty i m.0 m.1
      ]

  pub owing-without : (key : SubKey) (on empty : Bool) (owed left : List Addressee) (qs : List (Queue E)) → IsOwing on empty owed qs → left ≡ others_of key owed → IsOwing on empty left (without_each (same key) qs)
  owing-without key on empty owed left qs h is = subst (λ (bs : List Addressee). IsOwing on empty bs (without_each (same key) qs)) (sym is) (record {
    switched = on-map on (queue_without (same key)) (without-on key) qs h.switched;
    quiet = λ e. empty-without key qs (h.quiet e);
    only_one = λ i a at.
        let f = filtered-later (λ (b : Addressee). not (same key b.key)) owed i a at in
        let one = h.only_one f.0 a f.2 in
        let differs = differs-at (same key a.key) f.3 in
        let (q, at-q, some) = one.1.0 in (
          one.0,
          (
            (queue_without (same key) q, At-map (queue_without (same key)) qs a.queue q at-q, cancelled-has key a.key q differs ∙ some),
            λ j has.
                let m = At-mapped (queue_without (same key)) qs j has.0 has.1 in
                one.1.1 j (m.0, m.1, sym (cancelled-has key a.key m.0 differs) ∙ ap (λ (x : Queue E). is_among a.key x.subscriptions) (sym m.2) ∙ has.2),
          ),
        );
    apart = apart-some (λ (a : Addressee). a.key) (λ (a : Addressee). not (same key a.key)) owed h.apart;
    ordered = subst AreInOrder (map-id (others_of key owed)) (order-some (λ (a : Addressee). a) (λ (a : Addressee). not (same key a.key)) owed (subst AreInOrder (sym (map-id owed)) h.ordered));
  })
    where
      map-id : (bs : List Addressee) → map (λ (a : Addressee). a) bs ≡ bs
      map-id [] = refl
      map-id (b ∷ bs) = ap (λ (cs : List Addressee). b ∷ cs) (map-id bs)

  -- the updates of a queue that had the subscription
  sift : (key : SubKey) (v : E) (subs : List SubKey) (owed : List Addressee)
      → map (entry_of v) (filter (λ (a : Addressee). is_among a.key (filter (λ (s : SubKey). not (same key s)) subs)) (others_of key owed))
      ≡ filter (λ (w : SubKey × E). not (is_of key w)) (map (entry_of v) (filter (λ (a : Addressee). is_among a.key subs) owed))
  sift key v subs [] = refl
  sift key v subs (a ∷ owed) = by (same key a.key) (is_among a.key subs) refl refl (sift key v subs owed)
    where
      by : (b c : Bool) → same key a.key ≡ b → is_among a.key subs ≡ c
          → map (entry_of v) (filter (λ (x : Addressee). is_among x.key (filter (λ (s : SubKey). not (same key s)) subs)) (others_of key owed))
          ≡ filter (λ (w : SubKey × E). not (is_of key w)) (map (entry_of v) (filter (λ (x : Addressee). is_among x.key subs) owed))
          → map (entry_of v) (filter (λ (x : Addressee). is_among x.key (filter (λ (s : SubKey). not (same key s)) subs)) (others_of key (a ∷ owed)))
          ≡ filter (λ (w : SubKey × E). not (is_of key w)) (map (entry_of v) (filter (λ (x : Addressee). is_among x.key subs) (a ∷ owed)))
      by true true is some rest = rw (is, some, is) rest
      by true false is none rest = rw (is, none) rest
      by false true differs some rest =
          let still : is_among a.key (filter (λ (s : SubKey). not (same key s)) subs) ≡ true = among_without a.key key subs differs ∙ some in
          rw (differs, still, some, differs) (ap (λ (ws : List (SubKey × E)). (a.key, v) ∷ ws) rest)
      by false false differs none rest =
          let still : is_among a.key (filter (λ (s : SubKey). not (same key s)) subs) ≡ false = among_without a.key key subs differs ∙ none in
          rw (differs, still, none) rest

  -- those of one that had it not
  sift-none : (key : SubKey) (v : E) (subs : List SubKey) (owed : List Addressee) → is_among key subs ≡ false
      → map (entry_of v) (filter (λ (a : Addressee). is_among a.key subs) (others_of key owed)) ≡ map (entry_of v) (filter (λ (a : Addressee). is_among a.key subs) owed)
  sift-none key v subs [] none = refl
  sift-none key v subs (a ∷ owed) none = by (same key a.key) (is_among a.key subs) refl refl (sift-none key v subs owed none)
    where
      by : (b c : Bool) → same key a.key ≡ b → is_among a.key subs ≡ c
          → map (entry_of v) (filter (λ (x : Addressee). is_among x.key subs) (others_of key owed)) ≡ map (entry_of v) (filter (λ (x : Addressee). is_among x.key subs) owed)
          → map (entry_of v) (filter (λ (x : Addressee). is_among x.key subs) (others_of key (a ∷ owed))) ≡ map (entry_of v) (filter (λ (x : Addressee). is_among x.key subs) (a ∷ owed))
      by true true is some rest = absurd (both_ways (is_among key subs) none (subst (λ (k : SubKey). is_among k subs ≡ true) (sym (same_is key a.key is)) some))
      by true false is not_there rest = rw (is, not_there) rest
      by false true differs some rest = rw (differs, some) (ap (λ (ws : List (SubKey × E)). (a.key, v) ∷ ws) rest)
      by false false differs not_there rest = rw (differs, not_there) rest

  owing-one : (key : SubKey) (v : E) (owed : List Addressee) (q : Queue E) → q.waiting ≡ [] → owing (others_of key owed) v (queue_without (same key) q) ≡ queue_without (same key) (owing owed v q)
  owing-one key v owed q empty = elim (cases_Bool (is_among key q.subscriptions)) [
    | inl some ↦
        let waits : filter (λ (w : SubKey × E). not (is_of key w)) q.waiting ++ its (others_of key owed) v (cancelled key q)
        ≡ filter (λ (w : SubKey × E). not (is_of key w)) (q.waiting ++ its owed v q) =
        (λ t. filter (λ (w : SubKey × E). not (is_of key w)) (empty t) ++ its (others_of key owed) v (cancelled key q))
        ∙ sift key v q.subscriptions owed
        ∙ (λ t. filter (λ (w : SubKey × E). not (is_of key w)) (sym empty t ++ its owed v q)) in
        ap (owing (others_of key owed) v) (without-one key q some)
        ∙ (λ t. record { waiting = waits t; subscriptions = filter (λ (s : SubKey). not (same key s)) q.subscriptions; events_on = q.events_on })
        ∙ sym (without-one key (owing owed v q) some)
    | inr none ↦
        ap (owing (others_of key owed) v) (without-none key q none)
        ∙ (λ t. record { waiting = q.waiting ++ sift-none key v q.subscriptions owed none t; subscriptions = q.subscriptions; events_on = q.events_on })
        ∙ sym (without-none key (owing owed v q) none)
  ]

  pub view-without : (key : SubKey) (on empty : Bool) (owed left : List Addressee) (v : E) (qs : List (Queue E)) → IsOwing on empty owed qs → left ≡ others_of key owed
      → with_owed left v (without_each (same key) qs) ≡ without_each (same key) (with_owed owed v qs)
  view-without key on empty [] left v qs h is = ap (λ (bs : List Addressee). with_owed bs v (without_each (same key) qs)) is
  view-without key on empty (a ∷ owed) left v qs h is =
      let none : AreEmpty qs = h.quiet (h.only_one 0 a refl).0 in
      let after = owing-without key on empty (a ∷ owed) (others_of key (a ∷ owed)) qs h refl in
      ap (λ (bs : List Addressee). with_owed bs v (without_each (same key) qs)) is
      ∙ laid-out (others_of key (a ∷ owed)) v (without_each (same key) qs) after.apart (empty-without key qs none)
      ∙ map-both (owing (others_of key (a ∷ owed)) v) (queue_without (same key)) qs
      ∙ map-alike (λ (q : Queue E). owing (others_of key (a ∷ owed)) v (queue_without (same key) q)) (λ (q : Queue E). queue_without (same key) (owing (a ∷ owed) v q)) qs (λ i q at. owing-one key v (a ∷ owed) q (none i q at))
      ∙ sym (map-both (queue_without (same key)) (owing (a ∷ owed) v) qs)
      ∙ ap (λ (rs : List (Queue E)). without_each (same key) rs) (sym (laid-out (a ∷ owed) v qs h.apart none))

-- ---- the subscriptions lose the one that is the next

module _ (es : Standings) (qs : List Q) (p : ArePlaced es qs) where
  pub placed-lost : (qs2 : List Q) → LosesNext qs qs2 → ArePlaced es qs2
  placed-lost qs2 (None, t) = subst (λ (rs : List Q). ArePlaced es rs) (sym t.1) p
  placed-lost qs2 (Some (place, key, v), t) = placed-taken es qs p place key v qs2 t

  pub gives-lost : (old : Subscribed) (qs2 : List Q) → whole es qs p ≡ old → LosesNext qs qs2
      → (r : Option (Wanted × Stored)) × GivesUpdate old r (record { subscriptions = subscriptions_in es; queues = qs2 })
  gives-lost old qs2 is (None, t) = (
    None,
    (
      subst (λ (s : Subscribed). RestBefore s.queues (length s.queues)) is t.0,
      (λ i. let new : Subscribed = record { subscriptions = subscriptions_in es; queues = t.1 i } in new) ∙ is,
    ),
  )
  gives-lost old qs2 is (Some (place, key, v), t) = by (lookup (same key) es) refl
    where
      by : (found : Option (Subscription × ℕ)) → lookup (same key) es ≡ found → (r : Option (Wanted × Stored)) × GivesUpdate old r (record { subscriptions = subscriptions_in es; queues = qs2 })
      by None none = absurd (taken-some es qs p place key v qs2 t none)
      by (Some x) one = (Some (x.0.wanted, v), gives-one es qs p place key v qs2 t old x x.0.wanted is one refl)
