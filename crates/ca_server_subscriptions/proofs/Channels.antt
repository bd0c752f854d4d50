-- The subscriptions of an end by the SIDs of their channels.
use Rattle.std.proofs.Common.{◌≡◌, ℕ, zero, suc, ◌-◌, ◌≤◌, ◌==◌, inl, inr, Bool, true, false, not, cond, List, [], ◌∷◌, ◌++◌, length, take, filter, map, slice_get, Option, Some, None, nat_eq, refl, sym, ap, ◌∙◌, subst, arith}
use Rattle.std.specs.Prelude.{IsSome, option_map, remove, unwrap_or}
use Rattle.std.specs.HashMap as hash
use Rattle.std.specs.HashMap.{HashMap}
use Rattle.std.specs.List.Sorted.{IsPartitionPoint, IsPartitionedBy}
use Rattle.std.specs.Map.{lookup}
use Rattle.std.proofs.lemmas.Bool.{and_from, and_parts, both_ways, cases_Bool, eq-eqb, eqb-true}
use Rattle.std.proofs.lemmas.List.{length_push, map-append}
use Rattle.std.proofs.lemmas.List.Elements.{filter-append}
use Rattle.std.proofs.Math.Seq.{take-append_seam}
use Rattle.std.proofs.lemmas.Map.Made.{lookup-map_values}
use Rattle.ca_text.specs.Place.{At}
use Rattle.ca_text.proofs.Places.{At-map, At-mapped, some_is}
use Rattle.ca_queue.specs.declared.entry.SubKey.{SubKey}
use Rattle.ca_queue.specs.Keys.{AreApart, is_among, same}
use Rattle.ca_queue.proofs.Keys.{same_is, same_itself}
use Rattle.ca_model.specs.Server.{key_of}
use Rattle.ca_server_subscriptions.proofs.Dropping.{filtered-later}
use Rattle.ca_server_subscriptions.proofs.Orders.{divided, divided-at, parts-at, stands-before, stands-behind}
use Rattle.ca_server_subscriptions.proofs.Placing.{Entry, Q, keys-filter, keys-of, keys-snoc, other, whole}
use Rattle.ca_server_subscriptions.proofs.Receivers.{any-at}
use Rattle.ca_server_subscriptions.proofs.Sieves.{filter-all}
use Rattle.ca_server_subscriptions.specs.ByChannel.{AreByChannel, IdLines, Ids, id_lines, ids_in, ids_of, line_of, with_id, without_id}
use Rattle.ca_server_subscriptions.specs.Order.{is_before}
use Rattle.ca_server_subscriptions.specs.Subscribed.{ArePlaced, IsOneOf, Standings, Subscribed, has_key, is_of_sid, keys_in, subscriptions_in}

-- ---- what the map of lines says

module _ {V : Type 0} (items : V → List ℕ) where
  abbrev held : Option V → List ℕ
  held o = unwrap_or (option_map items o) []

  abbrev ids : List (ℕ × V) → Ids
  ids es = ids_in (id_lines items es)

  pub found : (es : List (ℕ × V)) (sid : ℕ) (o : Option V) → lookup (nat_eq sid) es ≡ o → ids es sid ≡ held o
  found es sid o is = ap (λ (w : Option (List ℕ)). unwrap_or w []) (lookup-map_values items (nat_eq sid) es) ∙ ap held is

  -- a SID that is not in the map has no line
  pub not-lined : (es : List (ℕ × V)) (sid : ℕ) → (let none : Option V = None in lookup (nat_eq sid) es ≡ none) → line_of (id_lines items es) sid ≡ None
  not-lined es sid is = lookup-map_values items (nat_eq sid) es ∙ ap (option_map items) is

  -- a line that was taken out is no longer there
  pub taken-out : {S : Type 0} (m n : HashMap ℕ V S) (sid : ℕ) → hash.UpdatesBy nat_eq (nat_eq sid) m n None → line_of (id_lines items n.entries) sid ≡ None
  taken-out m n sid u = not-lined n.entries sid u.1

  -- the line that was found is that of its channel
  pub line-is : (es : List (ℕ × V)) (sid : ℕ) (v : V) (lines : IdLines) (all : Standings) → lookup (nat_eq sid) es ≡ Some v → id_lines items es ≡ lines → AreByChannel lines all → items v ≡ ids_of (keys_in all) sid
  line-is es sid v lines all there is are = sym (found es sid (Some v) there) ∙ ap (λ (w : IdLines). ids_in w sid) is ∙ ap (λ (ids : Ids). ids sid) are

  some-there : (o : Option V) (v : V) → o ≡ Some v → IsSome o
  some-there None v is = absurd cc
  some-there (Some x) v is = refl

  -- the line of one channel is another, and all others are as they were
  pub changed : {S : Type 0} (m n : HashMap ℕ V S) (sid : ℕ) (w : Option V) (f : List ℕ → List ℕ) → hash.UpdatesBy nat_eq (nat_eq sid) m n w → held w ≡ f (ids m.entries sid)
      → ids n.entries ≡ (λ other. cond (nat_eq sid other) (f (ids m.entries other)) (ids m.entries other))
  changed m n sid w f h own = λ i other. at other i
    where
      split : (b : Bool) (o : Option V) → held (cond b w o) ≡ cond b (held w) (held o)
      split true o = refl
      split false o = refl

      by : (other : ℕ) (b : Bool) → nat_eq sid other ≡ b → cond b (held w) (ids m.entries other) ≡ cond b (f (ids m.entries other)) (ids m.entries other)
      by other true is = own ∙ ap (λ (n : ℕ). f (ids m.entries n)) (eqb-true sid other is)
      by other false is = refl

      at : (other : ℕ) → ids n.entries other ≡ cond (nat_eq sid other) (f (ids m.entries other)) (ids m.entries other)
      at other =
          found n.entries other (lookup (nat_eq other) n.entries) refl ∙ ap held (h.0 other) ∙ split (nat_eq sid other) (lookup (nat_eq other) m.entries)
          ∙ ap (λ (ks : List ℕ). cond (nat_eq sid other) (held w) ks) (sym (found m.entries other (lookup (nat_eq other) m.entries) refl))
          ∙ by other (nat_eq sid other) refl

  -- the same through what was lent
  pub written : {S : Type 0} (m n : HashMap ℕ V S) (sid : ℕ) (v w : V) (f : List ℕ → List ℕ) → lookup (nat_eq sid) m.entries ≡ Some v → hash.WritesThrough nat_eq (nat_eq sid) m w n → items w ≡ f (items v)
      → ids n.entries ≡ (λ other. cond (nat_eq sid other) (f (ids m.entries other)) (ids m.entries other))
  written m n sid v w f there through did =
      changed m n sid (Some w) f (through.3 (some-there (lookup (nat_eq sid) m.entries) v there)) (did ∙ ap f (sym (found m.entries sid (Some v) there)))

-- a line that is as it was changes nothing
pub unchanged : (sid : ℕ) (ids : Ids) → (λ other. cond (nat_eq sid other) (ids other) (ids other)) ≡ ids
unchanged sid ids = λ i other. by (nat_eq sid other) (ids other) i
  where
    by : (b : Bool) (xs : List ℕ) → cond b xs xs ≡ xs
    by true xs = refl
    by false xs = refl

-- a line that has none
pub none-held : (xs : List ℕ) → length xs ≡ 0 → xs ≡ []
none-held [] none = refl
none-held (x ∷ xs) none = absurd (omega (arith, none))

-- ids without that of this subscription
abbrev less : SubKey → List ℕ → List ℕ
less key ids = filter (λ (id : ℕ). not (key.sub == id)) ids

-- a channel that has no line loses none
pub lost-none : (key : SubKey) (ids : Ids) → ids key.sid ≡ [] → ids ≡ without_id key ids
lost-none key ids none = λ i sid. by sid (is_of_sid sid key) refl i
  where
    by : (sid : ℕ) (b : Bool) → is_of_sid sid key ≡ b → ids sid ≡ cond b (less key (ids sid)) (ids sid)
    by sid true is =
        let empty : ids sid ≡ [] = ap ids (sym (eqb-true key.sid sid is)) ∙ none in
        empty ∙ ap (less key) (sym empty)
    by sid false is = refl

-- ---- of keys

-- of one more
pub ids-snoc : (keys : List SubKey) (key : SubKey) → ids_of (keys ++ key ∷ []) ≡ with_id key (ids_of keys)
ids-snoc keys key = λ i sid. at sid keys i
  where
    at : (sid : ℕ) (ks : List SubKey) → ids_of (ks ++ key ∷ []) sid ≡ with_id key (ids_of ks) sid
    at sid [] = elim (cases_Bool (is_of_sid sid key)) [ inl is ↦ rw is refl | inr other ↦ rw other refl ]
    at sid (k ∷ ks) = by (is_of_sid sid k) (is_of_sid sid key) refl refl (at sid ks)
      where
        by : (a b : Bool) → is_of_sid sid k ≡ a → is_of_sid sid key ≡ b → ids_of (ks ++ key ∷ []) sid ≡ with_id key (ids_of ks) sid → ids_of (k ∷ ks ++ key ∷ []) sid ≡ with_id key (ids_of (k ∷ ks)) sid
        by true true here its rest = rw (here, its) (ap (λ (xs : List ℕ). k.sub ∷ xs) (rest ∙ ap (λ (b : Bool). cond b (ids_of ks sid ++ key.sub ∷ []) (ids_of ks sid)) its))
        by true false here its rest = rw (here, its) (ap (λ (xs : List ℕ). k.sub ∷ xs) (rest ∙ ap (λ (b : Bool). cond b (ids_of ks sid ++ key.sub ∷ []) (ids_of ks sid)) its))
        by false b there its rest = rw there rest

module _ (key : SubKey) where
  abbrev left : List SubKey → List SubKey
  left ks = filter (λ (k : SubKey). not (same key k)) ks

  -- of its own channel
  own : (sid : ℕ) → is_of_sid sid key ≡ true → (ks : List SubKey) → ids_of (left ks) sid ≡ less key (ids_of ks sid)
  own sid its [] = refl
  own sid its (k ∷ ks) = by (same key k) (is_of_sid sid k) refl refl (own sid its ks)
    where
      its-sid : is_of_sid sid k ≡ true → nat_eq key.sid k.sid ≡ true
      its-sid of = eq-eqb key.sid k.sid (eqb-true key.sid sid its ∙ sym (eqb-true k.sid sid of))

      differs : (b : Bool) → (key.sub == k.sub) ≡ b → same key k ≡ false → is_of_sid sid k ≡ true → b ≡ false
      differs true is other of = absurd (both_ways (same key k) other (and_from (nat_eq key.sid k.sid) (nat_eq key.sub k.sub) (its-sid of) is))
      differs false is other of = refl

      by : (a b : Bool) → same key k ≡ a → is_of_sid sid k ≡ b → ids_of (left ks) sid ≡ less key (ids_of ks sid) → ids_of (left (k ∷ ks)) sid ≡ less key (ids_of (k ∷ ks) sid)
      by true true is of rest = (let sub = (and_parts (nat_eq key.sid k.sid) (nat_eq key.sub k.sub) is).1 in rw (is, of, sub) rest)
      by true false is off rest = rw (is, off) rest
      by false true is of rest = (let sub = differs (key.sub == k.sub) refl is of in rw (is, of, sub) (ap (λ (xs : List ℕ). k.sub ∷ xs) rest))
      by false false is off rest = rw (is, off) rest

  -- of another channel
  stay : (sid : ℕ) → is_of_sid sid key ≡ false → (ks : List SubKey) → ids_of (left ks) sid ≡ ids_of ks sid
  stay sid off [] = refl
  stay sid off (k ∷ ks) = by (same key k) (is_of_sid sid k) refl refl (stay sid off ks)
    where
      by : (a b : Bool) → same key k ≡ a → is_of_sid sid k ≡ b → ids_of (left ks) sid ≡ ids_of ks sid → ids_of (left (k ∷ ks)) sid ≡ ids_of (k ∷ ks) sid
      by true b is of rest = (let miss : is_of_sid sid k ≡ false = ap (λ (x : SubKey). is_of_sid sid x) (sym (same_is key k is)) ∙ off in rw (is, miss) rest)
      by false true is of rest = rw (is, of) (ap (λ (xs : List ℕ). k.sub ∷ xs) rest)
      by false false is of rest = rw (is, of) rest

  -- without one subscription
  pub ids-without : (keys : List SubKey) → ids_of (filter (λ (k : SubKey). not (same key k)) keys) ≡ without_id key (ids_of keys)
  ids-without keys = λ i sid. at sid (is_of_sid sid key) refl i
    where
      at : (sid : ℕ) (b : Bool) → is_of_sid sid key ≡ b → ids_of (left keys) sid ≡ without_id key (ids_of keys) sid
      at sid true its = own sid its keys ∙ sym (ap (λ (b : Bool). cond b (less key (ids_of keys sid)) (ids_of keys sid)) its)
      at sid false off = stay sid off keys ∙ sym (ap (λ (b : Bool). cond b (less key (ids_of keys sid)) (ids_of keys sid)) off)

-- an id of a channel is of one of the keys
key-of-id : (keys : List SubKey) (sid i sub : ℕ) → At (ids_of keys sid) i sub → (let key : SubKey = record { sid = sid; sub = sub } in (k : ℕ) × At keys k key)
key-of-id keys sid i sub there =
    let key : SubKey = record { sid = sid; sub = sub } in
    let m = At-mapped (λ (k : SubKey). k.sub) (filter (is_of_sid sid) keys) i sub there in
    let f = filtered-later (is_of_sid sid) keys i m.0 m.1 in
    let is : m.0 ≡ key = (λ i. record { sid = eqb-true m.0.sid sid f.3 i; sub = sym m.2 i }) in
    (f.0, subst (λ (k : SubKey). At keys f.0 k) is f.2)

id-among : (keys : List SubKey) (sid i sub : ℕ) → At (ids_of keys sid) i sub → (let key : SubKey = record { sid = sid; sub = sub } in is_among key keys ≡ true)
id-among keys sid i sub there =
    let key : SubKey = record { sid = sid; sub = sub } in
    let k = key-of-id keys sid i sub there in
    any-at (same key) keys k.0 key k.1 (same_itself key)

none-last : (xs : List ℕ) → (let none : Option ℕ = None in slice_get xs (length xs - 1) ≡ none) → xs ≡ []
none-last [] none = refl
none-last (x ∷ xs) none = (let n : suc (length xs) - 1 ≡ length xs = omega arith in absurd (nothing x xs (subst (λ (k : ℕ). slice_get (x ∷ xs) k ≡ None) n none)))
  where
    nothing : (y : ℕ) (ys : List ℕ) → (let none : Option ℕ = None in slice_get (y ∷ ys) (length ys) ≡ none) → ⊥
    nothing y [] is = cc
    nothing y (z ∷ ys) is = nothing z ys is

-- a channel without ids has no subscription
none-of : (keys : List SubKey) (sid : ℕ) → ids_of keys sid ≡ [] → (i : ℕ) (key : SubKey) → At keys i key → is_of_sid sid key ≡ false
none-of [] sid none i key at = absurd cc
none-of (k ∷ keys) sid none i key at = by (is_of_sid sid k) refl (λ e j there. none-of keys sid e j key there) i at
  where
    by : (b : Bool) → is_of_sid sid k ≡ b → (ids_of keys sid ≡ [] → (j : ℕ) → At keys j key → is_of_sid sid key ≡ false) → (j : ℕ) → At (k ∷ keys) j key → is_of_sid sid key ≡ false
    by true of rest j there = absurd (some (sym (ap (λ (b : Bool). map (λ (x : SubKey). x.sub) (cond b (k ∷ filter (is_of_sid sid) keys) (filter (is_of_sid sid) keys))) of) ∙ none))
      where
        some : k.sub ∷ ids_of keys sid ≡ [] → ⊥
        some is = cc
    by false off rest zero there = ap (λ (x : SubKey). is_of_sid sid x) (sym (some_is k key there)) ∙ off
    by false off rest (suc j) there = rest (sym (ap (λ (b : Bool). map (λ (x : SubKey). x.sub) (cond b (k ∷ filter (is_of_sid sid) keys) (filter (is_of_sid sid) keys))) off) ∙ none) j there

-- ---- the last one of a channel goes again

abbrev pub but_last : List ℕ → List ℕ
but_last ids = take (length ids - 1) ids

but-last-snoc : (ids : List ℕ) (id : ℕ) → but_last (ids ++ id ∷ []) ≡ ids
but-last-snoc ids id =
    let n : length (ids ++ id ∷ []) - 1 ≡ length ids = (let long = length_push ids id in omega (arith, long)) in
    ap (λ (k : ℕ). take k (ids ++ id ∷ [])) n ∙ take-append_seam ids (id ∷ [])

pub taken-back : (key : SubKey) (ids now : Ids) → now ≡ with_id key ids → (λ other. cond (nat_eq key.sid other) (but_last (now other)) (now other)) ≡ ids
taken-back key ids now is = (λ i other. cond (nat_eq key.sid other) (but_last (is i other)) (is i other)) ∙ (λ i other. by other (nat_eq key.sid other) i)
  where
    by : (other : ℕ) (b : Bool) → cond b (but_last (cond b (ids other ++ key.sub ∷ []) (ids other))) (cond b (ids other ++ key.sub ∷ []) (ids other)) ≡ ids other
    by other true = but-last-snoc (ids other) key.sub
    by other false = refl

-- a channel that has no line was not added to
pub not-added : (key : SubKey) (ids now : Ids) → now key.sid ≡ [] → now ≡ with_id key ids → ⊥
not-added key ids now empty is =
    some (ids key.sid)
    (sym (ap (λ (b : Bool). cond b (ids key.sid ++ key.sub ∷ []) (ids key.sid)) (eq-eqb key.sid key.sid refl)) ∙ ap (λ (f : Ids). f key.sid) (sym is) ∙ empty)
  where
    some : (xs : List ℕ) → xs ++ key.sub ∷ [] ≡ [] → ⊥
    some [] none = cc
    some (x ∷ xs) none = cc

-- ---- the place of one in the line of its channel

module _ (key : SubKey) where
  -- all others of its channel are others
  none-goes : (keys : List SubKey) → is_among key keys ≡ false → less key (ids_of keys key.sid) ≡ ids_of keys key.sid
  none-goes keys none = filter-all (λ (id : ℕ). not (key.sub == id)) (ids_of keys key.sid) (λ i id there. ap not (by i id there (key.sub == id) refl))
    where
      by : (i id : ℕ) → At (ids_of keys key.sid) i id → (b : Bool) → (key.sub == id) ≡ b → b ≡ false
      by i id there true is = absurd (both_ways (is_among key keys) none (id-among keys key.sid i key.sub (subst (λ (n : ℕ). At (ids_of keys key.sid) i n) (sym (eqb-true key.sub id is)) there)))
      by i id there false is = refl

  first-goes : (id : ℕ) (ids : List ℕ) → (key.sub == id) ≡ true → less key ids ≡ ids → remove (id ∷ ids) 0 ≡ less key (id ∷ ids)
  first-goes id [] hit all = rw hit refl
  first-goes id (x ∷ ids) hit all = rw hit (sym all)

  later-goes : (id : ℕ) (ids : List ℕ) (i : ℕ) → (key.sub == id) ≡ false → remove ids i ≡ less key ids → remove (id ∷ ids) (suc i) ≡ less key (id ∷ ids)
  later-goes id ids i miss so = rw miss (ap (λ (xs : List ℕ). id ∷ xs) so)

  -- what is left without the one here is all but its id
  pub goes-there : (keys : List SubKey) (i : ℕ) → AreApart keys → At (ids_of keys key.sid) i key.sub → remove (ids_of keys key.sid) i ≡ less key (ids_of keys key.sid)
  goes-there [] i apart there = absurd cc
  goes-there (k ∷ keys) i apart there = by (is_of_sid key.sid k) refl i there (λ j later. goes-there keys j apart.1 later)
    where
      is-it : is_of_sid key.sid k ≡ true → key.sub ≡ k.sub → is_among key keys ≡ false
      is-it of sub =
          let one : k ≡ key = (λ i. record { sid = eqb-true k.sid key.sid of i; sub = sym sub i }) in subst (λ (x : SubKey). is_among x keys ≡ false) one apart.0

      differs : is_of_sid key.sid k ≡ true → is_among key keys ≡ true → (b : Bool) → (key.sub == k.sub) ≡ b → b ≡ false
      differs of among true is = absurd (both_ways (is_among key keys) (is-it of (eqb-true key.sub k.sub is)) among)
      differs of among false is = refl

      by : (b : Bool) → is_of_sid key.sid k ≡ b → (i : ℕ) → At (ids_of (k ∷ keys) key.sid) i key.sub → ((j : ℕ) → At (ids_of keys key.sid) j key.sub → remove (ids_of keys key.sid) j ≡ less key (ids_of keys key.sid))
          → remove (ids_of (k ∷ keys) key.sid) i ≡ less key (ids_of (k ∷ keys) key.sid)
      by false off i there more =
          let shown : ids_of (k ∷ keys) key.sid ≡ ids_of keys key.sid = rw off refl in
          subst (λ (ids : List ℕ). remove ids i ≡ less key ids) (sym shown) (more i (subst (λ (ids : List ℕ). At ids i key.sub) shown there))
      by true of zero there more =
          let shown : ids_of (k ∷ keys) key.sid ≡ k.sub ∷ ids_of keys key.sid = rw of refl in
          let sub : k.sub ≡ key.sub = some_is k.sub key.sub (subst (λ (ids : List ℕ). At ids 0 key.sub) shown there) in
          subst (λ (ids : List ℕ). remove ids 0 ≡ less key ids) (sym shown)
          (first-goes k.sub (ids_of keys key.sid) (eq-eqb key.sub k.sub (sym sub)) (none-goes keys (is-it of (sym sub))))
      by true of (suc i) there more =
          let shown : ids_of (k ∷ keys) key.sid ≡ k.sub ∷ ids_of keys key.sid = rw of refl in
          let later : At (ids_of keys key.sid) i key.sub = subst (λ (ids : List ℕ). At ids (suc i) key.sub) shown there in
          subst (λ (ids : List ℕ). remove ids (suc i) ≡ less key ids) (sym shown)
          (later-goes k.sub (ids_of keys key.sid) i (differs of (id-among keys key.sid i key.sub later) (key.sub == k.sub) refl) (more i later))

at-turn : (xs : List ℕ) (y : ℕ) (ys : List ℕ) → At (xs ++ y ∷ ys) (length xs) y
at-turn [] y ys = refl
at-turn (x ∷ xs) y ys = at-turn xs y ys

module _ (es : Standings) (place : ℕ) (key : SubKey) (here : At (keys_in es) place key) (apart : AreApart (keys_in es)) where
  its : (e : Entry) × At es place e × (key ≡ e.0)
  its = At-mapped (λ (e : Entry). e.0) es place key here

  abbrev e : Entry
  e = its.0

  parts : (ahead : Standings) × (behind : Standings) × (es ≡ ahead ++ e ∷ behind) × (length ahead ≡ place)
  parts = parts-at es place e its.1

  abbrev ahead : Standings
  ahead = parts.0

  abbrev behind : Standings
  behind = parts.1

  -- one of its channel is before it
  abbrev pub is_ahead : ℕ → Bool
  is_ahead sub = is_before es place (record { sid = key.sid; sub = sub })

  abbrev ids-ahead : List ℕ
  ids-ahead = ids_of (keys_in ahead) key.sid

  abbrev ids-after : List ℕ
  ids-after = ids_of (keys_in (e ∷ behind)) key.sid

  line-parts : ids_of (keys_in es) key.sid ≡ ids-ahead ++ ids-after
  line-parts =
      ap (λ (xs : Standings). ids_of (keys_in xs) key.sid) parts.2
      ∙ ap (λ (ks : List SubKey). ids_of ks key.sid) (map-append (λ (e : Entry). e.0) ahead (e ∷ behind))
      ∙ ap (λ (ks : List SubKey). map (λ (k : SubKey). k.sub) ks) (filter-append (is_of_sid key.sid) (keys_in ahead) (keys_in (e ∷ behind)))
      ∙ map-append (λ (k : SubKey). k.sub) (filter (is_of_sid key.sid) (keys_in ahead)) (filter (is_of_sid key.sid) (keys_in (e ∷ behind)))

  its-first : ids-after ≡ key.sub ∷ ids_of (keys_in behind) key.sid
  its-first =
      let own : is_of_sid key.sid e.0 ≡ true = eq-eqb e.0.sid key.sid (ap (λ (k : SubKey). k.sid) (sym its.2)) in
      let shown : ids-after ≡ e.0.sub ∷ ids_of (keys_in behind) key.sid = rw own refl in
      shown ∙ ap (λ (k : SubKey). k.sub ∷ ids_of (keys_in behind) key.sid) (sym its.2)

  passes : (i sub : ℕ) → At ids-ahead i sub → is_ahead sub ≡ true
  passes i sub there =
      let k = key-of-id (keys_in ahead) key.sid i sub there in
      let m = At-mapped (λ (e : Entry). e.0) ahead k.0 (record { sid = key.sid; sub = sub }) k.1 in
      subst (λ (n : ℕ). is_before es n (record { sid = key.sid; sub = sub }) ≡ true) parts.3
      (subst (λ (k : SubKey). is_before es (length ahead) k ≡ true) (sym m.2) (stands-before es ahead e behind parts.2 k.0 m.0 m.1))

  fails : (i sub : ℕ) → At ids-after i sub → is_ahead sub ≡ false
  fails i sub there =
      let k = key-of-id (keys_in (e ∷ behind)) key.sid i sub there in
      let m = At-mapped (λ (e : Entry). e.0) (e ∷ behind) k.0 (record { sid = key.sid; sub = sub }) k.1 in
      subst (λ (n : ℕ). is_before es n (record { sid = key.sid; sub = sub }) ≡ false) parts.3
      (subst (λ (k : SubKey). is_before es (length ahead) k ≡ false) (sym m.2) (stands-behind es ahead e behind parts.2 apart k.0 m.0 m.1))

  -- halving finds it
  pub stands-there : (line : List ℕ) (r : ℕ) → line ≡ ids_of (keys_in es) key.sid → r ≤ length line
      → (IsPartitionedBy is_ahead line → IsPartitionPoint (λ (sub : ℕ). is_ahead sub ≡ true) (λ (sub : ℕ). is_ahead sub ≡ false) line r) → At line r key.sub
  stands-there line r is within point =
      let all : line ≡ ids-ahead ++ ids-after = is ∙ line-parts in
      let lies = subst (λ (ids : List ℕ). IsPartitionedBy is_ahead ids → IsPartitionPoint (λ (sub : ℕ). is_ahead sub ≡ true) (λ (sub : ℕ). is_ahead sub ≡ false) ids r) all point in
      let turn : r ≡ length ids-ahead = divided-at is_ahead ids-ahead ids-after passes fails r 0 (subst (λ (ids : List ℕ). r ≤ length ids) all within) (lies (divided is_ahead ids-ahead ids-after passes fails)) in
      subst (λ (ids : List ℕ). At ids r key.sub) (sym (all ∙ ap (λ (ids : List ℕ). ids-ahead ++ ids) its-first))
      (subst (λ (n : ℕ). At (ids-ahead ++ key.sub ∷ ids_of (keys_in behind) key.sid) n key.sub) (sym turn) (at-turn ids-ahead key.sub (ids_of (keys_in behind) key.sid)))

-- ---- of the subscriptions of an end

module _ (lines : IdLines) (es : Standings) (are : AreByChannel lines es) where
  -- one more
  pub channels-more : (new : IdLines) (grown : Standings) (e : Entry) → grown ≡ es ++ e ∷ [] → ids_in new ≡ with_id e.0 (ids_in lines) → AreByChannel new grown
  channels-more new grown e all did =
      did ∙ ap (with_id e.0) are ∙ sym (ids-snoc (keys_in es) e.0) ∙ ap (λ (ks : List SubKey). ids_of ks) (sym (ap (λ (xs : Standings). keys_in xs) all ∙ keys-snoc es e))

  -- without one
  pub channels-less : (new : IdLines) (left : Standings) (key : SubKey) → left ≡ filter (other key) es → ids_in new ≡ without_id key (ids_in lines) → AreByChannel new left
  channels-less new left key all did =
      did ∙ ap (without_id key) are ∙ sym (ids-without key (keys_in es)) ∙ ap (λ (ks : List SubKey). ids_of ks) (sym (ap (λ (xs : Standings). keys_in xs) all ∙ keys-filter key es))

  module _ (qs : List Q) (p : ArePlaced es qs) (sid : ℕ) (old : Subscribed) (is : whole es qs p ≡ old) where
    pub one-of : (sub : ℕ) → slice_get (ids_in lines sid) (length (ids_in lines sid) - 1) ≡ Some sub → (let key : SubKey = record { sid = sid; sub = sub } in IsOneOf sid old (Some key))
    one-of sub last =
        let key : SubKey = record { sid = sid; sub = sub } in
        let among = id-among (keys_in es) sid (length (ids_in lines sid) - 1) sub (ap (λ (ids : Ids). slice_get (ids sid) (length (ids_in lines sid) - 1)) (sym are) ∙ last) in (
          eq-eqb sid sid refl,
          ap (λ (s : Subscribed). has_key key s) (sym is) ∙ ap (λ (ks : List SubKey). is_among key ks) (keys-of es p.keyed) ∙ among,
        )

    pub none-of-it : (let none : Option ℕ = None in slice_get (ids_in lines sid) (length (ids_in lines sid) - 1) ≡ none) → IsOneOf sid old None
    none-of-it none i x at =
        let empty = none-last (ids_of (keys_in es) sid) (ap (λ (ids : Ids). slice_get (ids sid) (length (ids sid) - 1)) (sym are) ∙ none) in
        let key : At (keys_in es) i (key_of x) =
        subst (λ (ks : List SubKey). At ks i (key_of x)) (keys-of es p.keyed) (At-map key_of (subscriptions_in es) i x (subst (λ (s : Subscribed). At s.subscriptions i x) (sym is) at)) in
        none-of (keys_in es) sid empty i (key_of x) key
