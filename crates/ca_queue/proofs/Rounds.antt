-- The fields of an event queue that is a ring, after each call.
use Rattle.std.proofs.Common.{◌≡◌, ℕ, zero, suc, ◌+◌, ◌-◌, ◌^◌, ◌<◌, ◌≤◌, Bool, true, false, not, ◌&&◌, ◌||◌, cond, List, [], ◌∷◌, ◌++◌, length, take, drop, get_or, set, Option, None, Some, is_some, refl, sym, ap, ◌∙◌, subst, inl, inr, arith, ltb, leb, add-one}
use Rattle.std.specs.List.{list_any, filter, count_by, sum_by, position}
use Rattle.std.specs.Option.{option_map}
use Rattle.std.specs.Prelude.{slice_get, unwrap_or}
use Rattle.std.proofs.lemmas.Bool.{cases_Bool, both_ways, and_parts, and_from, or_parts, or_cases, or_from, or_left, or_right, leb-true, le-leb, ltb-true, ltb-false, lt-ltb}
use Rattle.std.proofs.lemmas.List.{append-nil, append_assoc, drop_all, length-append, length-drop, length-map, length-take, length_push, get_or-map, map-append, map_more, take_all}
use Rattle.std.proofs.lemmas.List.Quantifiers.{position-Some}
use Rattle.std.proofs.lemmas.List.Sums.{sum_by-cons, sum_by_push, length-filter, count_by-le-length}
use Rattle.indexmap.specs.IndexSet.{insert_key}
use Rattle.circular_buffer.specs.Buffer.{Buffer, buffer}
use Rattle.ca_text.specs.Limits.{queue_places, queue_low_places, queue_subscriptions}
use Rattle.ca_queue.specs.declared.entry.SubKey.{SubKey}
use Rattle.ca_queue.specs.declared.lasts.Last.{Last}
use Rattle.ca_queue.specs.Keys.{AreApart, same, is_among}
use Rattle.ca_queue.specs.Waiting.{is_of, has_entry, count_of, free_places, replaces, with_last, after_cancel, front, is_crowded, may_take, taken}
use Rattle.ca_queue.specs.Queue.{Queue, no_queue, added, posted, with_front_taken, cancelled}
use Rattle.ca_queue.specs.Sound.{IsSound}
use Rattle.ca_text.specs.Place.{At}
use Rattle.ca_queue.specs.Ring.{AreInPlaces, AreNoted, HasPlace, HasPlaces, IsAt, IsIndexed, IsMade, IsNoted, IsRing, IsRound, has_room_for_all, having, key_at, keys_of_lasts, last_at, last_index, later, made, next_put, no_key, no_last, puts_after, ring_queue, unplaced, waits, with_back, with_entry_at, with_items, without_front}
use Rattle.ca_queue.proofs.Keys.{same_itself, same_is, other_sym, number_of, count_by-cons, counts_agree, counts_more, apart_push, apart_without}
use Rattle.ca_queue.proofs.Entries.{keys_in, keys_with_last, with_last_at, has_alike, has_behind, has_count, has_push, has_without, length_alike, length_without}
use Rattle.ca_queue.proofs.Crowds.{crowded_keys}
use Rattle.ca_queue.proofs.Soundness.{sound_none, sound_added, sound_posted, finds_place, sound_taken, sound_cancelled, sound_switched}

-- ---- the index

-- room for no less is room
pub room-kept : (a b c a' b' c' : ℕ) → has_room_for_all a b c ≡ true → a ≤ a' → b + c ≤ b' + c' → has_room_for_all a' b' c' ≡ true
room-kept a b c a' b' c' has more_a more_b =
    let parts = and_parts (leb queue_subscriptions a) (leb queue_subscriptions (b + c)) has in
    let one : queue_subscriptions ≤ a' = omega (arith, leb-true queue_subscriptions a parts.0, more_a) in
    let two : queue_subscriptions ≤ b' + c' = omega (arith, leb-true queue_subscriptions (b + c) parts.1, more_b) in
    and_from (leb queue_subscriptions a') (leb queue_subscriptions (b' + c')) (le-leb queue_subscriptions a' one) (le-leb queue_subscriptions (b' + c') two)

-- one more key in the index
inserted : (keys lasts_keys : List SubKey) (key : SubKey) → keys ≡ lasts_keys → is_among key lasts_keys ≡ false → insert_key same keys key ≡ lasts_keys ++ key ∷ []
inserted keys lasts_keys key is new =
    ap (λ (ks : List SubKey). insert_key same ks key) is ∙ ap (λ (b : Bool). cond b lasts_keys (lasts_keys ++ key ∷ [])) new

keys-push : (lasts : List Last) (key : SubKey) → keys_of_lasts (lasts ++ unplaced key ∷ []) ≡ keys_of_lasts lasts ++ key ∷ []
keys-push lasts key = map-append (λ l. l.key) lasts (unplaced key ∷ [])

pub indexed-push : (key : SubKey) (lasts items : List Last) (keys new : List SubKey) (room indexed spare room' indexed' spare' : ℕ) → IsIndexed lasts keys room indexed spare → is_among key (keys_of_lasts lasts) ≡ false → items ≡ lasts ++ unplaced key ∷ [] → new ≡ insert_key same keys key → indexed' ≡ indexed + 1 → has_room_for_all room' indexed' spare' ≡ true → IsIndexed items new room' indexed' spare'
indexed-push key lasts items keys new room indexed spare room' indexed' spare' had fresh items_is new_is more roomy =
    let longer : length items ≡ length lasts + 1 = ap length items_is ∙ length_push lasts (unplaced key) in
    let all : keys_of_lasts items ≡ keys_of_lasts lasts ++ key ∷ [] = ap keys_of_lasts items_is ∙ keys-push lasts key in
    record {
      keyed = new_is ∙ inserted keys (keys_of_lasts lasts) key had.keyed fresh ∙ sym all;
      counted = omega (arith, more, longer, had.counted);
      apart = subst AreApart (sym all) (apart_push key (keys_of_lasts lasts) had.apart fresh);
      roomy = λ some. roomy;
    }

-- a key that is new makes the index longer
pub grown : (key : SubKey) (keys lasts_keys : List SubKey) (indexed indexed' : ℕ) (b : Bool) → keys ≡ lasts_keys → is_among key lasts_keys ≡ false → b ≡ not (is_among key keys) → indexed' ≡ indexed + cond b 1 0 → indexed' ≡ indexed + 1
grown key keys lasts_keys indexed indexed' b is fresh b_is more =
    let new : b ≡ true = b_is ∙ ap (λ (ks : List SubKey). not (is_among key ks)) is ∙ ap not fresh in
    more ∙ ap (λ (t : Bool). indexed + cond t 1 0) new

-- those that are left once one was taken out
pub keys-left : (key : SubKey) (lasts : List Last) → keys_of_lasts (filter (λ l. not (same key l.key)) lasts) ≡ filter (λ k. not (same key k)) (keys_of_lasts lasts)
keys-left key [] = refl
keys-left key (l ∷ lasts) =
    elim (cases_Bool (same key l.key)) [
      | inl is ↦ rw is (keys-left key lasts)
      | inr other ↦ rw other (ap (λ (ks : List SubKey). l.key ∷ ks) (keys-left key lasts))
    ]

pub apart-left : (key : SubKey) (lasts : List Last) → AreApart (keys_of_lasts lasts) → AreApart (keys_of_lasts (filter (λ l. not (same key l.key)) lasts))
apart-left key lasts apart = subst AreApart (sym (keys-left key lasts)) (apart_without key (keys_of_lasts lasts) apart)

length-left : (key : SubKey) (lasts : List Last) → length (filter (λ l. not (same key l.key)) lasts) ≤ length lasts
length-left key lasts =
    let p : Last → Bool = λ l. not (same key l.key) in
    omega (arith, length-filter p lasts, count_by-le-length p lasts)

-- one was taken out, and the index was made again
pub indexed-left : (key : SubKey) (lasts left : List Last) (keys new : List SubKey) (room indexed spare room' indexed' spare' cleared : ℕ) → IsIndexed lasts keys room indexed spare → left ≡ filter (λ l. not (same key l.key)) lasts → room' ≡ room → indexed + spare ≤ cleared → new ≡ keys_of_lasts left → indexed' ≡ length left → cleared ≤ indexed' + spare' → IsIndexed left new room' indexed' spare'
indexed-left key lasts left keys new room indexed spare room' indexed' spare' cleared had left_is room_is more new_is counted kept =
    let few : length left ≤ length lasts = omega (arith, ap length left_is, length-left key lasts) in
    record {
      keyed = new_is;
      counted = counted;
      apart = subst (λ (ls : List Last). AreApart (keys_of_lasts ls)) (sym left_is) (apart-left key lasts had.apart);
      roomy = λ some. room-kept room indexed spare room' indexed' spare' (had.roomy (omega (arith, some, few))) (omega (arith, room_is)) (omega (arith, more, kept));
    }

pub room-left : (key : SubKey) (lasts left : List Last) (keys : List SubKey) (room indexed spare cleared : ℕ) → IsIndexed lasts keys room indexed spare → left ≡ filter (λ l. not (same key l.key)) lasts → indexed + spare ≤ cleared → length left ≤ cleared
room-left key lasts left keys room indexed spare cleared had left_is more =
    omega (arith, ap length left_is, length-left key lasts, had.counted, more)

-- the index found it
pub at-position : (key : SubKey) (keys : List SubKey) (number : ℕ) → position (same key) keys ≡ Some number → IsAt key keys number
at-position key keys number is =
    let first = position-Some (same key) keys number no_key is in
    (same_is key (get_or keys number no_key) first.1, first.0)

pub at-in : (key : SubKey) (keys keys' : List SubKey) (number : ℕ) → keys ≡ keys' → IsAt key keys number → IsAt key keys' number
at-in key keys keys' number is at = subst (λ (ks : List SubKey). IsAt key ks number) is at

keys-set : (key : SubKey) (put : ℕ) (lasts : List Last) (number : ℕ) → IsAt key (keys_of_lasts lasts) number → keys_of_lasts (set lasts number (record { key = key; put = put })) ≡ keys_of_lasts lasts
keys-set key put lasts number at = go lasts number at.0 at.1
  where
    go : (ls : List Last) (n : ℕ) → key ≡ get_or (keys_of_lasts ls) n no_key → n < length (keys_of_lasts ls) → keys_of_lasts (set ls n (record { key = key; put = put })) ≡ keys_of_lasts ls
    go [] n is less = refl
    go (l ∷ ls) zero is less = ap (λ (k : SubKey). k ∷ keys_of_lasts ls) is
    go (l ∷ ls) (suc n) is less = ap (λ (ks : List SubKey). l.key ∷ ks) (go ls n is (omega (arith, less)))

length-set-lasts : (ls : List Last) (n : ℕ) (l : Last) → length (set ls n l) ≡ length ls
length-set-lasts [] n l = refl
length-set-lasts (x ∷ ls) zero l = refl
length-set-lasts (x ∷ ls) (suc n) l = ap suc (length-set-lasts ls n l)

pub indexed-set : (key : SubKey) (number : ℕ) (put : ℕ) (lasts : List Last) (keys : List SubKey) (room indexed spare : ℕ) → IsIndexed lasts keys room indexed spare → IsAt key (keys_of_lasts lasts) number → IsIndexed (set lasts number (record { key = key; put = put })) keys room indexed spare
indexed-set key number put lasts keys room indexed spare had at =
    let new : List Last = set lasts number (record { key = key; put = put }) in
    let alike : keys_of_lasts new ≡ keys_of_lasts lasts = keys-set key put lasts number at in
    let long : length new ≡ length lasts = length-set-lasts lasts number (record { key = key; put = put }) in
    record {
      keyed = had.keyed ∙ sym alike;
      counted = had.counted ∙ sym long;
      apart = subst AreApart (sym alike) had.apart;
      roomy = λ some. had.roomy (omega (arith, some, long));
    }

-- in a list of keys of which none stands twice, one is not among those before it
pub fresh-key : (lasts : List Last) (i : ℕ) (d : Last) → AreApart (keys_of_lasts lasts) → i < length lasts → is_among (get_or lasts i d).key (keys_of_lasts (take i lasts)) ≡ false
fresh-key [] i d apart less = absurd (omega (arith, less))
fresh-key (l ∷ lasts) zero d apart less = refl
fresh-key (l ∷ lasts) (suc i) d apart less =
    or_from (same (get_or lasts i d).key l.key) (is_among (get_or lasts i d).key (keys_of_lasts (take i lasts)))
    (other_sym l.key (get_or lasts i d).key (not-it lasts i apart.0 (omega (arith, less))))
    (fresh-key lasts i d apart.1 (omega (arith, less)))
  where
    not-it : (ls : List Last) (n : ℕ) → is_among l.key (keys_of_lasts ls) ≡ false → n < length ls → same l.key (get_or ls n d).key ≡ false
    not-it [] n none less = absurd (omega (arith, less))
    not-it (x ∷ ls) zero none less = (or_parts (same l.key x.key) (is_among l.key (keys_of_lasts ls)) none).0
    not-it (x ∷ ls) (suc n) none less = not-it ls n ((or_parts (same l.key x.key) (is_among l.key (keys_of_lasts ls)) none).1) (omega (arith, less))

pub indexed-more : (lasts : List Last) (i : ℕ) (d : Last) (keys new : List SubKey) → AreApart (keys_of_lasts lasts) → i < length lasts → keys ≡ keys_of_lasts (take i lasts) → new ≡ insert_key same keys (get_or lasts i d).key → new ≡ keys_of_lasts (take (i + 1) lasts)
indexed-more lasts i d keys new apart less is new_is =
    new_is ∙ inserted keys (keys_of_lasts (take i lasts)) (get_or lasts i d).key is (fresh-key lasts i d apart less) ∙ sym (map_more (λ l. l.key) lasts i d less)

-- ---- puts

pub next-goes : (puts puts' : ℕ) → puts' ≡ next_put puts → puts' < 2 ^ 64
next-goes puts puts' is = omega (arith, is)

-- there was none after the last one
none-after : (puts : ℕ) → puts < 2 ^ 64 → puts_after puts puts ≡ 0
none-after puts goes = omega (arith, goes)

-- one more after each other one
one-after : (puts put : ℕ) → puts < 2 ^ 64 → puts_after puts put < queue_places → puts_after (next_put puts) put ≡ puts_after puts put + 1
one-after puts put goes few = omega (arith, goes, few)

-- ---- where last entries are

module _ {E : Type 0} where
  pub last-push : (k key : SubKey) (entry : E) (q : List (SubKey × E)) → last_index k (q ++ (key, entry) ∷ []) ≡ cond (same k key) (Some (length q)) (last_index k q)
  last-push k key entry [] = by (same k key)
    where
      by : (b : Bool) → later None b ≡ cond b (Some 0) None
      by true = refl
      by false = refl
  last-push k key entry (w ∷ q) = ap (λ (o : Option ℕ). later o (is_of k w)) (last-push k key entry q) ∙ by (same k key)
    where
      by : (b : Bool) → later (cond b (Some (length q)) (last_index k q)) (is_of k w) ≡ cond b (Some (length (w ∷ q))) (last_index k (w ∷ q))
      by true = ap (λ (n : ℕ). Some n) (omega arith)
      by false = refl

  -- it is known from the subscriptions of the entries alone
  last-alike : (k : SubKey) (q r : List (SubKey × E)) → keys_in q ≡ keys_in r → last_index k q ≡ last_index k r
  last-alike k [] [] e = refl
  last-alike k [] (v ∷ r) e = absurd (no-nil e)
    where
      no-nil : [] ≡ v.0 ∷ keys_in r → ⊥
      no-nil e = cc
  last-alike k (w ∷ q) [] e = absurd (no-nil e)
    where
      no-nil : w.0 ∷ keys_in q ≡ [] → ⊥
      no-nil e = cc
  last-alike k (w ∷ q) (v ∷ r) e =
      ap (λ (o : Option ℕ). later o (same k w.0)) (last-alike k q r (tails (keys_in q) (keys_in r) w.0 v.0 e))
      ∙ ap (λ (key : SubKey). later (last_index k r) (same k key)) (heads (keys_in q) (keys_in r) w.0 v.0 e)
    where
      tails : (xs ys : List SubKey) (x y : SubKey) → x ∷ xs ≡ y ∷ ys → xs ≡ ys
      tails xs ys x y e = ap (drop 1) e

      heads : (xs ys : List SubKey) (x y : SubKey) → x ∷ xs ≡ y ∷ ys → x ≡ y
      heads xs ys x y e = ap (λ (ks : List SubKey). get_or ks 0 x) e

  pub last-has : (k : SubKey) (q : List (SubKey × E)) → is_some (last_index k q) ≡ has_entry k q
  last-has k [] = refl
  last-has k (w ∷ q) = by (last_index k q) (is_of k w) ∙ ap (λ (b : Bool). is_of k w || b) (last-has k q)
    where
      by : (o : Option ℕ) (b : Bool) → is_some (later o b) ≡ (b || is_some o)
      by None true = refl
      by None false = refl
      by (Some i) true = refl
      by (Some i) false = refl

  record IsLast (key : SubKey) (q : List (SubKey × E)) (i : ℕ) : Type 0 where
    pub within : i < length q
    pub here : has_entry key (drop i q) ≡ true
    pub behind : has_entry key (drop (suc i) q) ≡ false

  last-is : (key : SubKey) (q : List (SubKey × E)) (i : ℕ) → last_index key q ≡ Some i → IsLast key q i
  last-is key [] i is = absurd (none is)
    where
      none : None ≡ Some i → ⊥
      none e = cc
  last-is key (w ∷ q) i is = by (λ j. last-is key q j) (last_index key q) (is_of key w) refl refl is
    where
      the : (n : ℕ) → Some n ≡ Some i → n ≡ i
      the n e = ap (λ (o : Option ℕ). cond (is_some o) (option_or o) 0) e
        where
          option_or : Option ℕ → ℕ
          option_or None = 0
          option_or (Some m) = m

      at : (n : ℕ) → n ≡ i → IsLast key (w ∷ q) n → IsLast key (w ∷ q) i
      at n e is_last = subst (λ (m : ℕ). IsLast key (w ∷ q) m) e is_last

      by : ((j : ℕ) → last_index key q ≡ Some j → IsLast key q j) → (o : Option ℕ) (b : Bool) → last_index key q ≡ o → is_of key w ≡ b → later o b ≡ Some i → IsLast key (w ∷ q) i
      by before (Some j) b o_is b_is e =
          let rest = before j o_is in
          let last : IsLast key (w ∷ q) (suc j) = record { within = omega (arith, rest.within); here = rest.here; behind = rest.behind } in
          at (suc j) (omega (arith, the (j + 1) e)) last
      by before None true o_is b_is e =
          let none : has_entry key q ≡ false = sym (last-has key q) ∙ ap is_some o_is in
          at 0 (the 0 e) (record { within = omega arith; here = ap (λ (b : Bool). b || has_entry key q) b_is; behind = none })
      by before None false o_is b_is e = absurd (none e)
        where
          none : None ≡ Some i → ⊥
          none e = cc

-- ---- the subscriptions

-- where nothing waits there is nothing to note
pub noted-none : (Z : Type 0) (puts : ℕ) (lasts : List Last) → AreNoted {E = Z} puts [] lasts
noted-none Z puts [] = tt
noted-none Z puts (l ∷ lasts) = (λ i is. absurd (nothing i is), noted-none Z puts lasts)
  where
    nothing : (i : ℕ) → None ≡ Some i → ⊥
    nothing i e = cc

-- one that is after another one is another one
not-it : (k : SubKey) (ks : List SubKey) (m : ℕ) → is_among k ks ≡ false → m < length ks → same k (get_or ks m no_key) ≡ false
not-it k [] m none less = absurd (omega (arith, less))
not-it k (x ∷ ks) zero none less = (or_parts (same k x) (is_among k ks) none).0
not-it k (x ∷ ks) (suc m) none less = not-it k ks m ((or_parts (same k x) (is_among k ks) none).1) (omega (arith, less))

module _ {E : Type 0} where
  pub noted-all : (puts puts' : ℕ) (entries left : List (SubKey × E)) (lasts : List Last) → ((l : Last) → IsNoted puts entries l → IsNoted puts' left l) → AreNoted puts entries lasts → AreNoted puts' left lasts
  noted-all puts puts' entries left [] each noted = tt
  noted-all puts puts' entries left (l ∷ lasts) each noted = (each l noted.0, noted-all puts puts' entries left lasts each noted.1)

  pub noted-at : (puts : ℕ) (entries : List (SubKey × E)) (lasts : List Last) (n : ℕ) → n < length lasts → AreNoted puts entries lasts → IsNoted puts entries (get_or lasts n no_last)
  noted-at puts entries [] n less noted = absurd (omega (arith, less))
  noted-at puts entries (l ∷ lasts) zero less noted = noted.0
  noted-at puts entries (l ∷ lasts) (suc n) less noted = noted-at puts entries lasts n (omega (arith, less)) noted.1

  pub noted-push : (puts : ℕ) (entries : List (SubKey × E)) (lasts : List Last) (l : Last) → AreNoted puts entries lasts → IsNoted puts entries l → AreNoted puts entries (lasts ++ l ∷ [])
  noted-push puts entries [] l noted it = (it, tt)
  noted-push puts entries (x ∷ lasts) l noted it = (noted.0, noted-push puts entries lasts l noted.1 it)

  -- one subscription was written again, of which alone there is another entry
  noted-set : (key : SubKey) (l : Last) (puts puts' : ℕ) (entries left : List (SubKey × E)) (lasts : List Last) (number : ℕ) → AreNoted puts entries lasts → AreApart (keys_of_lasts lasts) → key ≡ get_or (keys_of_lasts lasts) number no_key → number < length (keys_of_lasts lasts) → IsNoted puts' left l → ((x : Last) → same key x.key ≡ false → IsNoted puts entries x → IsNoted puts' left x) → AreNoted puts' left (set lasts number l)
  noted-set key l puts puts' entries left [] number noted apart is less it others = tt
  noted-set key l puts puts' entries left (x ∷ lasts) zero noted apart is less it others =
      (it, all lasts (subst (λ (k : SubKey). is_among k (keys_of_lasts lasts) ≡ false) (sym is) apart.0) noted.1)
    where
      all : (ls : List Last) → is_among key (keys_of_lasts ls) ≡ false → AreNoted puts entries ls → AreNoted puts' left ls
      all [] none noted = tt
      all (y ∷ ls) none noted =
          let parts = or_parts (same key y.key) (is_among key (keys_of_lasts ls)) none in
          (others y parts.0 noted.0, all ls parts.1 noted.1)
  noted-set key l puts puts' entries left (x ∷ lasts) (suc n) noted apart is less it others =
      let it_not : same x.key key ≡ false = subst (λ (k : SubKey). same x.key k ≡ false) (sym is) (not-it x.key (keys_of_lasts lasts) n apart.0 (omega (arith, less))) in
      (others x (other_sym x.key key it_not) noted.0, noted-set key l puts puts' entries left lasts n noted.1 apart.1 is (omega (arith, less)) it others)

  -- an entry was put to the back, and its number noted
  pub noted-put : (key : SubKey) (entry : E) (number puts puts' : ℕ) (entries : List (SubKey × E)) (lasts lasts' : List Last) → AreNoted puts entries lasts → AreApart (keys_of_lasts lasts) → IsAt key (keys_of_lasts lasts) number → puts < 2 ^ 64 → length entries ≤ queue_places → puts' ≡ next_put puts → lasts' ≡ set lasts number (record { key = key; put = next_put puts }) → AreNoted puts' (entries ++ (key, entry) ∷ []) lasts'
  noted-put key entry number puts puts' entries lasts lasts' noted apart at goes fits puts_is lasts_is =
      let left : List (SubKey × E) = entries ++ (key, entry) ∷ [] in
      let l : Last = record { key = key; put = next_put puts } in
      let longer : length left ≡ length entries + 1 = length_push entries (key, entry) in
      let it : IsNoted (next_put puts) left l =
      λ i is.
      let place : i ≡ length entries = some-is i (length entries) (sym is ∙ last-push key key entry entries ∙ ap (λ (b : Bool). cond b (Some (length entries)) (last_index key entries)) (same_itself key)) in
      omega (arith, place, longer, none-after (next_put puts) (next-goes puts (next_put puts) refl)) in
      let others : (x : Last) → same key x.key ≡ false → IsNoted puts entries x → IsNoted (next_put puts) left x =
      λ x other was i is.
      let old = was i (sym (last-push x.key key entry entries ∙ ap (λ (b : Bool). cond b (Some (length entries)) (last_index x.key entries)) (other_sym key x.key other)) ∙ is) in
      omega (arith, old, longer, one-after puts x.put goes (omega (arith, old, fits))) in
      subst (λ (m : ℕ). AreNoted m left lasts') (sym puts_is)
      (subst (λ (ls : List Last). AreNoted (next_put puts) left ls) (sym lasts_is)
      (noted-set key l puts (next_put puts) entries left lasts number noted apart at.0 at.1 it others))
    where
      some-is : (m n : ℕ) → Some m ≡ Some n → m ≡ n
      some-is m n e = ap (λ (o : Option ℕ). unwrap_or o 0) e

  -- the front was taken
  pub noted-rest : (puts : ℕ) (entries : List (SubKey × E)) (lasts : List Last) → AreNoted puts entries lasts → AreNoted puts (drop 1 entries) lasts
  noted-rest puts [] lasts noted = noted
  noted-rest puts (w ∷ rest) lasts noted =
      noted-all puts puts (w ∷ rest) rest lasts
      (λ l was i is.
      let old = was (i + 1) (ap (λ (o : Option ℕ). later o (is_of l.key w)) is) in
      omega (arith, old)) noted

-- ---- whether an entry may be taken

-- of these subscriptions no more have an entry than there are entries, and some have two
-- or more where fewer do
both-tell : (d : SubKey → ℕ) (ks : List SubKey) → (count_by (λ k. ltb 0 (d k)) ks ≤ sum_by d ks) × (list_any (λ k. ltb 1 (d k)) ks ≡ ltb (count_by (λ k. ltb 0 (d k)) ks) (sum_by d ks))
both-tell d [] = (omega arith, refl)
both-tell d (k ∷ ks) =
    let rest = both-tell d ks in
    let a = count_by-cons (λ j. ltb 0 (d j)) k ks in
    let b = sum_by-cons d k ks in
    more (d k) (count_by (λ j. ltb 0 (d j)) ks) (sum_by d ks) (list_any (λ j. ltb 1 (d j)) ks) _ _ a b rest.0 rest.1
  where
    more : (n i m : ℕ) (some : Bool) (i' m' : ℕ) → i' ≡ number_of (ltb 0 n) + i → m' ≡ n + m → i ≤ m → some ≡ ltb i m → (i' ≤ m') × ((ltb 1 n || some) ≡ ltb i' m')
    more zero i m some i' m' i_is m_is fewer is = (omega (arith, i_is, m_is, fewer), is ∙ ap (λ (x : ℕ). ltb x m) (omega (arith, i_is)) ∙ ap (λ (x : ℕ). ltb i' x) (omega (arith, m_is)))
    more (suc zero) i m some i' m' i_is m_is fewer is = (omega (arith, i_is, m_is, fewer), is ∙ one)
      where
        one : ltb i m ≡ ltb i' m'
        one =
            elim (cases_Bool (ltb i m)) [
              | inl less ↦ less ∙ sym (lt-ltb i' m' (omega (arith, i_is, m_is, ltb-true i m less)))
              | inr not_less ↦
                  not_less ∙ elim (cases_Bool (ltb i' m')) [
                    | inl less ↦ absurd (omega (arith, i_is, m_is, ltb-true i' m' less, ltb-false i m not_less))
                    | inr other ↦ sym other
                  ]
            ]
    more (suc (suc n)) i m some i' m' i_is m_is fewer is =
        let one : number_of (ltb 0 (suc (suc n))) ≡ 1 = ap number_of (lt-ltb 0 (suc (suc n)) (omega arith)) in
        (omega (arith, i_is, m_is, fewer, one), or_left (ltb 1 (suc (suc n))) some (lt-ltb 1 (suc (suc n)) (omega arith)) ∙ sym (lt-ltb i' m' (omega (arith, i_is, m_is, fewer, one))))

tells : (c : SubKey → ℕ) (keys : List SubKey) → list_any (λ k. ltb 1 (c k)) keys ≡ ltb (count_by (λ k. ltb 0 (c k)) keys) (sum_by c keys)
tells c keys = (both-tell c keys).1

fewer : (c : SubKey → ℕ) (keys : List SubKey) → count_by (λ k. ltb 0 (c k)) keys ≤ sum_by c keys
fewer c keys = (both-tell c keys).0

module _ {E : Type 0} where
  -- each entry counts at one of the subscriptions
  length-counts : (keys : List SubKey) (q : List (SubKey × E)) → AreApart keys → ((k : SubKey) → has_entry k q ≡ true → is_among k keys ≡ true) → sum_by (λ k. count_of k q) keys ≡ length q
  length-counts keys [] apart known = none keys
    where
      none : (ks : List SubKey) → sum_by (λ k. count_of {E = E} k []) ks ≡ 0
      none [] = refl
      none (k ∷ ks) = omega (arith, sum_by-cons (λ j. count_of {E = E} j []) k ks, none ks)
  length-counts keys (w ∷ q) apart known =
      let there : is_among w.0 keys ≡ true = known w.0 (or_left (same w.0 w.0) (has_entry w.0 q) (same_itself w.0)) in
      let rest = length-counts keys q apart (λ k has. known k (or_right (same k w.0) (has_entry k q) has)) in
      omega (arith, rest, one-more keys, counts_more (λ k. false) (λ k. same k w.0) w.0 keys apart (λ k other. sym (other_sym w.0 k other)) there refl (same_itself w.0), none keys)
    where
      one-more : (ks : List SubKey) → sum_by (λ k. count_of k (w ∷ q)) ks ≡ sum_by (λ k. count_of k q) ks + count_by (λ k. same k w.0) ks
      one-more [] = refl
      one-more (k ∷ ks) =
          omega (arith, one-more ks, sum_by-cons (λ j. count_of j (w ∷ q)) k ks, sum_by-cons (λ j. count_of j q) k ks, count_by-cons (λ j. same j w.0) k ks, count_by-cons (is_of k) w q)

      none : (ks : List SubKey) → count_by (λ (k : SubKey). false) ks ≡ 0
      none [] = refl
      none (k ∷ ks) = omega (arith, none ks, count_by-cons (λ (j : SubKey). false) k ks)

  -- how many subscriptions have an entry, by how many entries they have
  having-counts : (keys : List SubKey) (q : List (SubKey × E)) → having q keys ≡ count_by (λ k. ltb 0 (count_of k q)) keys
  having-counts keys q = counts_agree (λ k. has_entry k q) (λ k. ltb 0 (count_of k q)) keys (λ k. has_count k q)

  -- they are no more than the entries
  pub having-within : (keys : List SubKey) (q : List (SubKey × E)) → AreApart keys → ((k : SubKey) → has_entry k q ≡ true → is_among k keys ≡ true) → having q keys ≤ length q
  having-within keys q apart known =
      omega (arith, having-counts keys q, fewer (λ k. count_of k q) keys, length-counts keys q apart known)

  -- some subscription has two entries or more, where entries wait besides one of each
  pub crowd-tells : (extra puts : ℕ) (lasts : List Last) (on : Bool) (entries : List (SubKey × E)) → IsRound entries lasts on puts extra → on ≡ false → may_take on entries ≡ ltb 0 extra
  crowd-tells extra puts lasts on entries round off =
      let keys = keys_of_lasts lasts in
      let count = having-counts keys entries in
      let long = length-counts keys entries round.sound.apart round.sound.known in
      let crowd : is_crowded entries ≡ ltb (count_by (λ k. ltb 0 (count_of k entries)) keys) (sum_by (λ k. count_of k entries) keys) =
      sym (crowded_keys keys entries round.sound.known) ∙ tells (λ k. count_of k entries) keys in
      ap (λ (b : Bool). b || is_crowded entries) off ∙ crowd
      ∙ besides (count_by (λ k. ltb 0 (count_of k entries)) keys) (sum_by (λ k. count_of k entries) keys) extra (omega (arith, count, long, round.counted off))
    where
      besides : (n m e : ℕ) → e + n ≡ m → ltb n m ≡ ltb 0 e
      besides n m e is =
          elim (cases_Bool (ltb n m)) [
            | inl less ↦ less ∙ sym (lt-ltb 0 e (omega (arith, is, ltb-true n m less)))
            | inr not_less ↦
                not_less ∙ elim (cases_Bool (ltb 0 e)) [
                  | inl some ↦ absurd (omega (arith, is, ltb-true 0 e some, ltb-false n m not_less))
                  | inr none ↦ sym none
                ]
          ]

module _ {E : Type 0} where
  pub crowd-some : (extra puts : ℕ) (lasts : List Last) (on : Bool) (entries : List (SubKey × E)) → IsRound entries lasts on puts extra → on ≡ false → 0 < extra → may_take on entries ≡ true
  crowd-some extra puts lasts on entries round off some = crowd-tells extra puts lasts on entries round off ∙ lt-ltb 0 extra some

  pub crowd-none : (extra puts : ℕ) (lasts : List Last) (on : Bool) (entries : List (SubKey × E)) → IsRound entries lasts on puts extra → on ≡ false → extra ≡ 0 → may_take on entries ≡ false
  crowd-none extra puts lasts on entries round off none = crowd-tells extra puts lasts on entries round off ∙ ap (λ (n : ℕ). ltb 0 n) none

-- ---- each call

module _ {E : Type 0} where
  -- these fields are right, and stand for this queue
  pub record AreRing (ring : Option (Buffer (SubKey × E))) (lasts : List Last) (room on : Bool) (puts extra : ℕ) (q : Queue E) : Type 0 where
    pub kept : IsRing ring lasts room on puts extra
    pub is : ring_queue (waits ring) lasts on ≡ q

  are-ring : (ring : Option (Buffer (SubKey × E))) (lasts : List Last) (room on : Bool) (puts extra : ℕ) (entries : List (SubKey × E)) (q : Queue E) → waits ring ≡ entries → ring_queue entries lasts on ≡ q → IsSound q → puts < 2 ^ 64 → AreNoted puts entries lasts → (on ≡ false → extra + having entries (keys_of_lasts lasts) ≡ length entries) → IsMade ring lasts room → AreRing ring lasts room on puts extra q
  are-ring ring lasts room on puts extra entries q waits_is is sound goes noted counted made =
      let all : ring_queue (waits ring) lasts on ≡ q = ap (λ (es : List (SubKey × E)). ring_queue es lasts on) waits_is ∙ is in
      record {
        kept = record {
          round = record {
            sound = subst IsSound (sym all) sound;
            goes_round = goes;
            noted = subst (λ (es : List (SubKey × E)). AreNoted puts es lasts) (sym waits_is) noted;
            counted = λ off. ap (λ (es : List (SubKey × E)). extra + having es (keys_of_lasts lasts)) waits_is ∙ counted off ∙ sym (ap length waits_is);
          };
          made = made;
        };
        is = all;
      }

  none-last : (key : SubKey) (q : List (SubKey × E)) → has_entry key q ≡ false → last_index key q ≡ None
  none-last key q none = by (last_index key q) refl
    where
      by : (o : Option ℕ) → last_index key q ≡ o → last_index key q ≡ None
      by None is = is
      by (Some i) is = absurd (both_ways (has_entry key q) none (sym (last-has key q) ∙ ap is_some is))

  no-entry : (key : SubKey) (lasts : List Last) (on : Bool) (entries : List (SubKey × E)) → IsSound (ring_queue entries lasts on) → is_among key (keys_of_lasts lasts) ≡ false → has_entry key entries ≡ false
  no-entry key lasts on entries sound fresh =
      elim (cases_Bool (has_entry key entries)) [
        | inl has ↦ absurd (both_ways (is_among key (keys_of_lasts lasts)) fresh (sound.known key has))
        | inr none ↦ none
      ]

  waits-made : (ring : Option (Buffer (SubKey × E))) → waits (made ring) ≡ waits ring
  waits-made None = refl
  waits-made (Some b) = refl

  places-made : (ring : Option (Buffer (SubKey × E))) → HasPlaces ring → HasPlaces (made ring)
  places-made None places = refl
  places-made (Some b) places = places

  some-made : (ring : Option (Buffer (SubKey × E))) → is_some (made ring) ≡ true
  some-made None = refl
  some-made (Some b) = refl

  pub none-added : (on : Bool) → IsRing {E = E} None [] false on 0 0
  none-added on = record {
    round = record { sound = sound_switched on no_queue sound_none; goes_round = omega arith; noted = tt; counted = λ off. refl };
    made = record { places = tt; made = λ some. absurd (omega (arith, some)); roomy = λ some. absurd (both_ways false refl some) };
  }

  -- a subscription with no entry counts for none
  having-push : (key : SubKey) (keys : List SubKey) (entries : List (SubKey × E)) → has_entry key entries ≡ false → having entries (keys ++ key ∷ []) ≡ having entries keys
  having-push key keys entries none =
      let nothing : number_of (has_entry key entries) ≡ 0 = ap number_of none in
      omega (arith, nothing, sum_by_push (λ k. number_of (has_entry k entries)) keys key)

  pub added-one : (key : SubKey) (ring : Option (Buffer (SubKey × E))) (lasts new : List Last) (room room' on : Bool) (puts extra : ℕ) → IsRing ring lasts room on puts extra → length lasts < queue_subscriptions → is_among key (keys_of_lasts lasts) ≡ false → new ≡ lasts ++ unplaced key ∷ [] → room' ≡ true → AreRing (made ring) new room' on puts extra (added key (ring_queue (waits ring) lasts on))
  added-one key ring lasts new room room' on puts extra had few fresh new_is room_is =
      let entries = waits ring in
      let keys : keys_of_lasts new ≡ keys_of_lasts lasts ++ key ∷ [] = ap keys_of_lasts new_is ∙ keys-push lasts key in
      let none = no-entry key lasts on entries had.round.sound fresh in
      let nowhere : last_index key entries ≡ None = none-last key entries none in
      let shorter : length (keys_of_lasts lasts) ≡ length lasts = length-map lasts (λ l. l.key) in
      let count : having entries (keys_of_lasts new) ≡ having entries (keys_of_lasts lasts) = ap (having entries) keys ∙ having-push key (keys_of_lasts lasts) entries none in
      are-ring (made ring) new room' on puts extra entries (added key (ring_queue entries lasts on)) (waits-made ring)
      (ap (λ (ks : List SubKey). let q : Queue E = record { waiting = entries; subscriptions = ks; events_on = on } in q) keys)
      (sound_added key (ring_queue entries lasts on) (omega (arith, few, shorter)) fresh had.round.sound)
      had.round.goes_round
      (subst (λ (ls : List Last). AreNoted puts entries ls) (sym new_is) (noted-push puts entries lasts (unplaced key) had.round.noted (λ i is. absurd (nothing i (sym nowhere ∙ is)))))
      (λ off. omega (arith, count, had.round.counted off))
      (record { places = places-made ring had.made.places; made = λ some. some-made ring; roomy = λ some. room_is })
    where
      nothing : (i : ℕ) → None ≡ Some i → ⊥
      nothing i e = cc

  -- ---- where the last entry of a subscription is

  -- as many puts after its last one as entries after its last one
  pub behind-at : (key : SubKey) (number puts put behind : ℕ) (lasts : List Last) (entries : List (SubKey × E)) → AreNoted puts entries lasts → number < length lasts → key ≡ key_at lasts number → put ≡ last_at lasts number → behind ≡ puts_after puts put → (i : ℕ) → last_index key entries ≡ Some i → i + 1 + behind ≡ length entries
  behind-at key number puts put behind lasts entries noted less it put_is behind_is i is =
      ap (λ (n : ℕ). i + 1 + n) (behind_is ∙ ap (puts_after puts) put_is)
      ∙ noted-at puts entries lasts number less noted i (ap (λ (k : SubKey). last_index k entries) (sym it) ∙ is)

  pub behind-is : (key : SubKey) (number puts put behind : ℕ) (lasts : List Last) (entries : List (SubKey × E)) → AreNoted puts entries lasts → IsAt key (keys_of_lasts lasts) number → put ≡ last_at lasts number → behind ≡ puts_after puts put → (i : ℕ) → last_index key entries ≡ Some i → i + 1 + behind ≡ length entries
  behind-is key number puts put behind lasts entries noted at put_is behind_is =
      let less : number < length lasts = omega (arith, at.1, length-map lasts (λ l. l.key)) in
      behind-at key number puts put behind lasts entries noted less (at.0 ∙ get_or-map (λ l. l.key) lasts number no_last no_key less) put_is behind_is

  -- with n after it, it would be before the front
  pub last-before : (key : SubKey) (behind : ℕ) (entries : List (SubKey × E)) → ((i : ℕ) → last_index key entries ≡ Some i → i + 1 + behind ≡ length entries) → length entries ≤ behind → None ≡ last_index key entries
  last-before key behind entries is_behind more = by (last_index key entries) refl
    where
      by : (o : Option ℕ) → last_index key entries ≡ o → None ≡ last_index key entries
      by None is = sym is
      by (Some i) is = absurd (omega (arith, is_behind i is, more))

  key-there : (key : SubKey) (q : List (SubKey × E)) (n : ℕ) (w : SubKey × E) → At q n w → same key w.0 ≡ true → has_entry key q ≡ true
  key-there key [] n w at is = absurd (nothing at)
    where
      nothing : None ≡ Some w → ⊥
      nothing e = cc
  key-there key (v ∷ q) zero w at is =
      or_left (same key v.0) (has_entry key q) (ap (λ (o : Option (SubKey × E)). same key (unwrap_or o v).0) at ∙ is)
  key-there key (v ∷ q) (suc n) w at is = or_right (same key v.0) (has_entry key q) (key-there key q n w at is)

  -- the last entry is one of its subscription
  last-same : (key : SubKey) (q : List (SubKey × E)) (n : ℕ) (w : SubKey × E) → At q n w → has_entry key (drop n q) ≡ true → has_entry key (drop (suc n) q) ≡ false → same key w.0 ≡ true
  last-same key [] n w at here behind = absurd (nothing at)
    where
      nothing : None ≡ Some w → ⊥
      nothing e = cc
  last-same key (v ∷ q) zero w at here behind =
      elim (or_cases (same key v.0) (has_entry key q) here) [
        | inl is ↦ ap (λ (o : Option (SubKey × E)). same key (unwrap_or o v).0) (sym at) ∙ is
        | inr more ↦ absurd (both_ways (has_entry key q) behind more)
      ]
  last-same key (v ∷ q) (suc n) w at here behind = last-same key q n w at here behind

  -- an entry of it is there
  pub last-there : (key : SubKey) (behind n : ℕ) (w : SubKey × E) (entries : List (SubKey × E)) → ((i : ℕ) → last_index key entries ≡ Some i → i + 1 + behind ≡ length entries) → n + 1 + behind ≡ length entries → At entries n w → same key w.0 ≡ true → Some n ≡ last_index key entries
  last-there key behind n w entries is_behind n_is at is = by (last_index key entries) refl
    where
      by : (o : Option ℕ) → last_index key entries ≡ o → Some n ≡ last_index key entries
      by None none = absurd (both_ways (has_entry key entries) (sym (last-has key entries) ∙ ap is_some none) (key-there key entries n w at is))
      by (Some i) it = ap (λ (m : ℕ). Some m) (omega (arith, is_behind i it, n_is)) ∙ sym it

  -- one of another is there
  pub last-nowhere : (key : SubKey) (behind n : ℕ) (w : SubKey × E) (entries : List (SubKey × E)) → ((i : ℕ) → last_index key entries ≡ Some i → i + 1 + behind ≡ length entries) → n + 1 + behind ≡ length entries → At entries n w → same key w.0 ≡ false → None ≡ last_index key entries
  last-nowhere key behind n w entries is_behind n_is at other = by (last_index key entries) refl
    where
      by : (o : Option ℕ) → last_index key entries ≡ o → None ≡ last_index key entries
      by None none = sym none
      by (Some i) it =
          let last : IsLast key entries n = subst (λ (m : ℕ). IsLast key entries m) (omega (arith, is_behind i it, n_is)) (last-is key entries i it) in
          absurd (both_ways (same key w.0) other (last-same key entries n w at last.here last.behind))

  -- one more was counted, if it has an entry
  pub having-step : (entries : List (SubKey × E)) (lasts : List Last) (n : ℕ) (last : Option ℕ) → n < length lasts → last ≡ last_index (key_at lasts n) entries → having entries (take (suc n) (keys_of_lasts lasts)) ≡ having entries (take n (keys_of_lasts lasts)) + cond (is_some last) 1 0
  having-step entries [] n last less is = absurd (omega (arith, less))
  having-step entries (l ∷ lasts) zero last less is =
      let it : number_of (has_entry l.key entries) ≡ cond (is_some last) 1 0 = ap number_of (sym (ap is_some is ∙ last-has l.key entries)) in
      omega (arith, it, count_by-cons (λ k. has_entry k entries) l.key [])
  having-step entries (l ∷ lasts) (suc n) last less is =
      omega (arith, having-step entries lasts n last (omega (arith, less)) is, count_by-cons (λ k. has_entry k entries) l.key (take (suc n) (keys_of_lasts lasts)), count_by-cons (λ k. has_entry k entries) l.key (take n (keys_of_lasts lasts)))

  pub having-next : (entries : List (SubKey × E)) (lasts : List Last) (n counted more : ℕ) (last : Option ℕ) (key : SubKey) → n < length lasts → key ≡ key_at lasts n → last ≡ last_index key entries → counted ≡ having entries (take n (keys_of_lasts lasts)) → more ≡ cond (is_some last) 1 0 → counted + more ≡ having entries (take (n + 1) (keys_of_lasts lasts))
  having-next entries lasts n counted more last key less key_is is count more_is =
      let step = having-step entries lasts n last less (is ∙ ap (λ (k : SubKey). last_index k entries) key_is) in
      let next : having entries (take (n + 1) (keys_of_lasts lasts)) ≡ having entries (take (suc n) (keys_of_lasts lasts)) = ap (λ (m : ℕ). having entries (take m (keys_of_lasts lasts))) (add-one n) in
      omega (arith, step, next, count, more_is)

  pub having-all : (entries : List (SubKey × E)) (lasts : List Last) (n : ℕ) → n ≡ length lasts → having entries (take n (keys_of_lasts lasts)) ≡ having entries (keys_of_lasts lasts)
  having-all entries lasts n is =
      ap (having entries) (take_all n (keys_of_lasts lasts) (omega (arith, is, length-map lasts (λ l. l.key))))

  -- ---- posts

  pub record Replaces (key : SubKey) (on : Bool) (entries : List (SubKey × E)) (i : ℕ) : Type 0 where
    pub within : i < length entries
    pub here : has_entry key (drop i entries) ≡ true
    pub behind : has_entry key (drop (suc i) entries) ≡ false
    pub goes : replaces on key entries ≡ true

  pub post-replaces : (key : SubKey) (i : ℕ) (on : Bool) (entries : List (SubKey × E)) → Some i ≡ cond (leb (queue_places - length entries) queue_low_places || not on) (last_index key entries) None → Replaces key on entries i
  post-replaces key i on entries is = by (leb (queue_places - length entries) queue_low_places || not on) (last_index key entries) refl refl is
    where
      nothing : Some i ≡ None → ⊥
      nothing e = cc

      the : (m : ℕ) → Some i ≡ Some m → m ≡ i
      the m e = ap (λ (o : Option ℕ). unwrap_or o 0) (sym e)

      by : (b : Bool) (o : Option ℕ) → (leb (queue_places - length entries) queue_low_places || not on) ≡ b → last_index key entries ≡ o → Some i ≡ cond b o None → Replaces key on entries i
      by false o b_is o_is e = absurd (nothing e)
      by true None b_is o_is e = absurd (nothing e)
      by true (Some j) b_is o_is e =
          let last_one : IsLast key entries i = subst (λ (m : ℕ). IsLast key entries m) (the j e) (last-is key entries j o_is) in
          let has : has_entry key entries ≡ true = sym (last-has key entries) ∙ ap is_some o_is in
          record { within = last_one.within; here = last_one.here; behind = last_one.behind; goes = and_from (has_entry key entries) (leb (free_places entries) queue_low_places || not on) has b_is }

  pub post-appends : (key : SubKey) (on : Bool) (entries : List (SubKey × E)) → None ≡ cond (leb (queue_places - length entries) queue_low_places || not on) (last_index key entries) None → replaces on key entries ≡ false
  post-appends key on entries is = by (leb (queue_places - length entries) queue_low_places || not on) (last_index key entries) refl refl is
    where
      something : (m : ℕ) → None ≡ Some m → ⊥
      something m e = cc

      not-and : (a b : Bool) → b ≡ false → (a && b) ≡ false
      not-and true b none = none
      not-and false b none = refl

      by : (b : Bool) (o : Option ℕ) → (leb (queue_places - length entries) queue_low_places || not on) ≡ b → last_index key entries ≡ o → None ≡ cond b o None → replaces on key entries ≡ false
      by true (Some j) b_is o_is e = absurd (something j e)
      by true None b_is o_is e = ap (λ (b : Bool). b && (leb (free_places entries) queue_low_places || not on)) (sym (last-has key entries) ∙ ap is_some o_is)
      by false o b_is o_is e = not-and (has_entry key entries) (leb (free_places entries) queue_low_places || not on) b_is

  waits-at : (i : ℕ) (w : SubKey × E) (ring : Option (Buffer (SubKey × E))) → waits (option_map (with_entry_at i w) ring) ≡ set (waits ring) i w
  waits-at i w None = refl
  waits-at i w (Some b) = refl

  waits-back : (w : SubKey × E) (ring : Option (Buffer (SubKey × E))) → is_some ring ≡ true → waits (option_map (with_back w) ring) ≡ waits ring ++ w ∷ []
  waits-back w None some = absurd (both_ways false refl some)
  waits-back w (Some b) some = refl

  waits-front : (ring : Option (Buffer (SubKey × E))) → waits (option_map without_front ring) ≡ drop 1 (waits ring)
  waits-front None = refl
  waits-front (Some b) = refl

  -- a ring that was changed is as made as it was
  made-still : (f : Buffer (SubKey × E) → Buffer (SubKey × E)) (ring : Option (Buffer (SubKey × E))) (lasts new : List Last) (room room' : Bool) → ((b : Buffer (SubKey × E)) → (f b).capacity ≡ b.capacity) → IsMade ring lasts room → length new ≤ length lasts → room' ≡ room → IsMade (option_map f ring) new room'
  made-still f None lasts new room room' same_capacity had fewer room_is =
      record { places = tt; made = λ some. had.made (omega (arith, some, fewer)); roomy = λ some. room_is ∙ had.roomy some }
  made-still f (Some b) lasts new room room' same_capacity had fewer room_is =
      record { places = same_capacity b ∙ had.places; made = λ some. had.made (omega (arith, some, fewer)); roomy = λ some. room_is ∙ had.roomy some }

  pub replaced-one : (key : SubKey) (entry : E) (i : ℕ) (ring new : Option (Buffer (SubKey × E))) (lasts : List Last) (room on : Bool) (puts extra : ℕ) → IsRing ring lasts room on puts extra → is_among key (keys_of_lasts lasts) ≡ true → Replaces key on (waits ring) i → new ≡ option_map (with_entry_at i (key, entry)) ring → AreRing new lasts room on puts extra (posted key entry (ring_queue (waits ring) lasts on))
  replaced-one key entry i ring new lasts room on puts extra had there goes new_is =
      let entries = waits ring in
      let q : Queue E = ring_queue entries lasts on in
      let left : List (SubKey × E) = with_last key entry entries in
      let alike : keys_in entries ≡ keys_in left = sym (keys_with_last key entry entries) in
      let long : length left ≡ length entries = length_alike left entries (sym alike) in
      let count : having left (keys_of_lasts lasts) ≡ having entries (keys_of_lasts lasts) =
      counts_agree (λ k. has_entry k left) (λ k. has_entry k entries) (keys_of_lasts lasts) (λ k. has_alike k left entries (sym alike)) in
      let waits_is : waits new ≡ left = ap waits new_is ∙ waits-at i (key, entry) ring ∙ with_last_at key entry entries i goes.here goes.behind in
      are-ring new lasts room on puts extra left (posted key entry q) waits_is
      (ap (λ (b : Bool). let r : Queue E = record { waiting = cond b left (entries ++ (key, entry) ∷ []); subscriptions = keys_of_lasts lasts; events_on = on } in r) (sym goes.goes))
      (sound_posted key entry q there had.round.sound)
      had.round.goes_round
      (noted-all puts puts entries left lasts (λ l was j is. omega (arith, was j (last-alike l.key entries left alike ∙ is), long)) had.round.noted)
      (λ off. omega (arith, count, long, had.round.counted off))
      (subst (λ (r : Option (Buffer (SubKey × E))). IsMade r lasts room) (sym new_is) (made-still (with_entry_at i (key, entry)) ring lasts lasts room room (λ b. refl) had.made (omega arith) refl))

  -- a queue with a subscription has its ring
  pub has-ring : (key : SubKey) (ring : Option (Buffer (SubKey × E))) (lasts : List Last) (room : Bool) → IsMade ring lasts room → is_among key (keys_of_lasts lasts) ≡ true → is_some ring ≡ true
  has-ring key ring [] room made there = absurd (both_ways false refl there)
  has-ring key ring (l ∷ lasts) room made there = made.made (omega arith)

  pub has-place : (key : SubKey) (ring : Option (Buffer (SubKey × E))) (lasts : List Last) (room on : Bool) (puts extra : ℕ) → IsRing ring lasts room on puts extra → is_among key (keys_of_lasts lasts) ≡ true → replaces on key (waits ring) ≡ false → HasPlace ring
  has-place key ring lasts room on puts extra had there goes =
      by ring (has-ring key ring lasts room had.made there) had.made.places (finds_place key (ring_queue (waits ring) lasts on) there goes had.round.sound)
    where
      by : (r : Option (Buffer (SubKey × E))) → is_some r ≡ true → HasPlaces r → length (waits r) < queue_places → HasPlace r
      by None some places less = absurd (both_ways false refl some)
      by (Some b) some places less = omega (arith, places, less)

  -- while events are off a post goes to the back only where its subscription has no entry
  none-before : (key : SubKey) (on : Bool) (entries : List (SubKey × E)) → on ≡ false → replaces on key entries ≡ false → has_entry key entries ≡ false
  none-before key on entries off goes =
      elim (cases_Bool (has_entry key entries)) [
        | inl has ↦
            absurd (both_ways (replaces on key entries) goes (and_from (has_entry key entries) (leb (free_places entries) queue_low_places || not on) has (or_right (leb (free_places entries) queue_low_places) (not on) (ap not off))))
        | inr none ↦ none
      ]

  having-more : (key : SubKey) (entry : E) (keys : List SubKey) (entries : List (SubKey × E)) → AreApart keys → is_among key keys ≡ true → has_entry key entries ≡ false → having (entries ++ (key, entry) ∷ []) keys ≡ having entries keys + 1
  having-more key entry keys entries apart there none =
      counts_more (λ k. has_entry k entries) (λ k. has_entry k (entries ++ (key, entry) ∷ [])) key keys apart
      (λ k other. sym (has_push k key entry entries ∙ or_same (has_entry k entries) (same k key) (other_sym key k other)))
      there none (has_push key key entry entries ∙ or_right (has_entry key entries) (same key key) (same_itself key))
    where
      or_same : (a b : Bool) → b ≡ false → (a || b) ≡ a
      or_same true b none = refl
      or_same false b none = none

  pub appended-one : (key : SubKey) (entry : E) (number puts puts' extra : ℕ) (ring new : Option (Buffer (SubKey × E))) (lasts lasts' : List Last) (room room' on : Bool) → IsRing ring lasts room on puts extra → is_among key (keys_of_lasts lasts) ≡ true → IsAt key (keys_of_lasts lasts) number → replaces on key (waits ring) ≡ false → new ≡ option_map (with_back (key, entry)) ring → lasts' ≡ set lasts number (record { key = key; put = next_put puts }) → room' ≡ room → puts' ≡ next_put puts → AreRing new lasts' room' on puts' extra (posted key entry (ring_queue (waits ring) lasts on))
  appended-one key entry number puts puts' extra ring new lasts lasts' room room' on had there at goes new_is lasts_is room_is puts_is =
      let entries = waits ring in
      let q : Queue E = ring_queue entries lasts on in
      let left : List (SubKey × E) = entries ++ (key, entry) ∷ [] in
      let l : Last = record { key = key; put = next_put puts } in
      let waits_is : waits new ≡ left = ap waits new_is ∙ waits-back (key, entry) ring (has-ring key ring lasts room had.made there) in
      let keys : keys_of_lasts lasts' ≡ keys_of_lasts lasts = ap keys_of_lasts lasts_is ∙ keys-set key (next_put puts) lasts number at in
      let long : length lasts' ≡ length lasts = ap length lasts_is ∙ length-set-lasts lasts number l in
      let count : having left (keys_of_lasts lasts') ≡ having left (keys_of_lasts lasts) = ap (having left) keys in
      are-ring new lasts' room' on puts' extra left (posted key entry q) waits_is
      (ap (λ (ks : List SubKey). let r : Queue E = record { waiting = left; subscriptions = ks; events_on = on } in r) keys
      ∙ ap (λ (b : Bool). let r : Queue E = record { waiting = cond b (with_last key entry entries) left; subscriptions = keys_of_lasts lasts; events_on = on } in r) (sym goes))
      (sound_posted key entry q there had.round.sound)
      (next-goes puts puts' puts_is)
      (noted-put key entry number puts puts' entries lasts lasts' had.round.noted had.round.sound.apart at had.round.goes_round had.round.sound.fits puts_is lasts_is)
      (λ off. omega (arith, count, having-more key entry (keys_of_lasts lasts) entries had.round.sound.apart there (none-before key on entries off goes), length_push entries (key, entry), had.round.counted off))
      (subst (λ (r : Option (Buffer (SubKey × E))). IsMade r lasts' room') (sym new_is) (made-still (with_back (key, entry)) ring lasts lasts' room room' (λ b. refl) had.made (omega (arith, long)) room_is))

  -- the same, of the number that a look-up found
  pub appended-found : (key : SubKey) (entry : E) (number puts puts' extra : ℕ) (ring new : Option (Buffer (SubKey × E))) (lasts found lasts' : List Last × Bool) (on : Bool) → IsRing ring lasts.0 lasts.1 on puts extra → is_among key (keys_of_lasts lasts.0) ≡ true → found ≡ lasts → IsAt key (keys_of_lasts found.0) number → replaces on key (waits ring) ≡ false → new ≡ option_map (with_back (key, entry)) ring → lasts' ≡ (set found.0 number (record { key = key; put = next_put puts }), found.1) → puts' ≡ next_put puts → AreRing new lasts'.0 lasts'.1 on puts' extra (posted key entry (ring_queue (waits ring) lasts.0 on))
  appended-found key entry number puts puts' extra ring new lasts found lasts' on had there found_is at goes new_is lasts_is puts_is =
      let l : Last = record { key = key; put = next_put puts } in
      appended-one key entry number puts puts' extra ring new lasts.0 lasts'.0 lasts.1 lasts'.1 on had there
      (subst (λ (ls : List Last × Bool). IsAt key (keys_of_lasts ls.0) number) found_is at) goes new_is
      (ap (λ (p : List Last × Bool). p.0) lasts_is ∙ ap (λ (ls : List Last × Bool). set ls.0 number l) found_is)
      (ap (λ (p : List Last × Bool). p.1) lasts_is ∙ ap (λ (ls : List Last × Bool). ls.1) found_is) puts_is

  -- ---- takes

  pub head-is : (w : SubKey × E) (q : List (SubKey × E)) → Some w ≡ slice_get q 0 → q ≡ w ∷ drop 1 q
  head-is w [] e = absurd (nothing e)
    where
      nothing : Some w ≡ None → ⊥
      nothing e = cc
  head-is w (v ∷ q) e = ap (λ (x : SubKey × E). x ∷ q) (sym (ap (λ (o : Option (SubKey × E)). unwrap_or o v) e))

  -- the front's subscription was added
  pub front-known : (w : SubKey × E) (lasts : List Last) (on : Bool) (puts extra : ℕ) (entries : List (SubKey × E)) → IsRound entries lasts on puts extra → Some w ≡ slice_get entries 0 → is_among w.0 (keys_of_lasts lasts) ≡ true
  front-known w lasts on puts extra entries round front_is =
      round.sound.known w.0 (ap (has_entry w.0) (head-is w entries front_is) ∙ or_left (same w.0 w.0) (has_entry w.0 (drop 1 entries)) (same_itself w.0))

  -- how many entries wait besides one of each subscription, once the front was taken
  pub extra-left : (w : SubKey × E) (extra extra' : ℕ) (last : Option ℕ) (keys : List SubKey) (rest : List (SubKey × E)) → AreApart keys → is_among w.0 keys ≡ true → last ≡ last_index w.0 rest → extra + having (w ∷ rest) keys ≡ length (w ∷ rest) → 0 < extra → extra' ≡ extra - cond (is_some last) 1 0 → extra' + having rest keys ≡ length rest
  extra-left w extra extra' last keys rest apart there last_is was some extra_is =
      elim (cases_Bool (has_entry w.0 rest)) [
        | inl has ↦
            let one : cond (is_some last) 1 0 ≡ 1 = ap number_of (ap is_some last_is ∙ last-has w.0 rest ∙ has) in
            let same_count : having (w ∷ rest) keys ≡ having rest keys =
            counts_agree (λ k. has_entry k (w ∷ rest)) (λ k. has_entry k rest) keys (λ k. still k has) in
            omega (arith, one, same_count, was, some, extra_is)
        | inr none ↦
            let zero_left : cond (is_some last) 1 0 ≡ 0 = ap number_of (ap is_some last_is ∙ last-has w.0 rest ∙ none) in
            let one_less : having (w ∷ rest) keys ≡ having rest keys + 1 =
            counts_more (λ k. has_entry k rest) (λ k. has_entry k (w ∷ rest)) w.0 keys apart
            (λ k other. sym (ap (λ (b : Bool). b || has_entry k rest) (other_sym w.0 k other))) there none (or_left (same w.0 w.0) (has_entry w.0 rest) (same_itself w.0)) in
            omega (arith, zero_left, one_less, was, extra_is)
      ]
    where
      still : (k : SubKey) → has_entry w.0 rest ≡ true → has_entry k (w ∷ rest) ≡ has_entry k rest
      still k has =
          elim (cases_Bool (same k w.0)) [
            | inl is ↦
                let there : has_entry k rest ≡ true = ap (λ (s : SubKey). has_entry s rest) (same_is k w.0 is) ∙ has in
                or_left (same k w.0) (has_entry k rest) is ∙ sym there
            | inr other ↦ ap (λ (b : Bool). b || has_entry k rest) other
          ]

  pub may-on : (on : Bool) (entries : List (SubKey × E)) → on ≡ true → may_take on entries ≡ true
  may-on on entries is_on = or_left on (is_crowded entries) is_on

  -- the front was taken, or there was none
  pub taken-one : (puts extra extra' : ℕ) (ring new : Option (Buffer (SubKey × E))) (lasts : List Last) (room on : Bool) → IsRing ring lasts room on puts extra → may_take on (waits ring) ≡ true → new ≡ option_map without_front ring → (on ≡ false → extra' + having (drop 1 (waits ring)) (keys_of_lasts lasts) ≡ length (drop 1 (waits ring))) → AreRing new lasts room on puts extra' (with_front_taken (ring_queue (waits ring) lasts on))
  taken-one puts extra extra' ring new lasts room on had may new_is counted =
      let entries = waits ring in
      let q : Queue E = ring_queue entries lasts on in
      are-ring new lasts room on puts extra' (drop 1 entries) (with_front_taken q) (ap waits new_is ∙ waits-front ring)
      (ap (λ (b : Bool). let r : Queue E = record { waiting = cond b (drop 1 entries) entries; subscriptions = keys_of_lasts lasts; events_on = on } in r) (sym may))
      (sound_taken q had.round.sound)
      had.round.goes_round
      (noted-rest puts entries lasts had.round.noted)
      counted
      (subst (λ (r : Option (Buffer (SubKey × E))). IsMade r lasts room) (sym new_is) (made-still without_front ring lasts lasts room room (λ b. refl) had.made (omega arith) refl))

  -- one was taken while events are on
  pub taken-on : (puts extra : ℕ) (ring new : Option (Buffer (SubKey × E))) (lasts : List Last) (room on : Bool) → IsRing ring lasts room on puts extra → on ≡ true → new ≡ option_map without_front ring → AreRing new lasts room on puts extra (with_front_taken (ring_queue (waits ring) lasts on))
  taken-on puts extra ring new lasts room on had is_on new_is =
      taken-one puts extra extra ring new lasts room on had (may-on on (waits ring) is_on) new_is (λ off. absurd (both_ways on off is_on))

  -- one was taken while events are off
  pub taken-off : (w : SubKey × E) (puts extra extra' : ℕ) (last : Option ℕ) (ring new : Option (Buffer (SubKey × E))) (lasts found : List Last × Bool) (on : Bool) → IsRing ring lasts.0 lasts.1 on puts extra → found ≡ lasts → on ≡ false → 0 < extra → Some w ≡ slice_get (waits ring) 0 → new ≡ option_map without_front ring → last ≡ last_index w.0 (waits new) → extra' ≡ extra - cond (is_some last) 1 0 → AreRing new found.0 found.1 on puts extra' (with_front_taken (ring_queue (waits ring) lasts.0 on))
  taken-off w puts extra extra' last ring new lasts found on had found_is off some front_is new_is last_is extra_is =
      let entries = waits ring in
      let rest : List (SubKey × E) = drop 1 entries in
      let front : entries ≡ w ∷ rest = head-is w entries front_is in
      let there : is_among w.0 (keys_of_lasts lasts.0) ≡ true = front-known w lasts.0 on puts extra entries had.round front_is in
      let last_left : last ≡ last_index w.0 rest = last_is ∙ ap (λ (es : List (SubKey × E)). last_index w.0 es) (ap waits new_is ∙ waits-front ring) in
      let was : extra + having (w ∷ rest) (keys_of_lasts lasts.0) ≡ length (w ∷ rest) =
      subst (λ (es : List (SubKey × E)). extra + having es (keys_of_lasts lasts.0) ≡ length es) front (had.round.counted off) in
      subst (λ (ls : List Last × Bool). AreRing new ls.0 ls.1 on puts extra' (with_front_taken (ring_queue (waits ring) lasts.0 on))) (sym found_is)
      (taken-one puts extra extra' ring new lasts.0 lasts.1 on had
      (crowd-some extra puts lasts.0 on entries had.round off some) new_is
      (λ _. extra-left w extra extra' last (keys_of_lasts lasts.0) rest had.round.sound.apart there last_left was some extra_is))

  -- the numbers are right for those that are left
  pub noted-left : (puts : ℕ) (ring new : Option (Buffer (SubKey × E))) (lasts found : List Last × Bool) → AreNoted puts (waits ring) lasts.0 → found ≡ lasts → new ≡ option_map without_front ring → AreNoted puts (waits new) found.0
  noted-left puts ring new lasts found noted found_is new_is =
      subst (λ (ls : List Last × Bool). AreNoted puts (waits new) ls.0) (sym found_is)
      (subst (λ (es : List (SubKey × E)). AreNoted puts es lasts.0) (sym (ap waits new_is ∙ waits-front ring)) (noted-rest puts (waits ring) lasts.0 noted))

  front-is : (entries : List (SubKey × E)) → slice_get entries 0 ≡ front entries
  front-is [] = refl
  front-is (w ∷ entries) = refl

  pub gives-on : (on : Bool) (entries : List (SubKey × E)) → on ≡ true → slice_get entries 0 ≡ taken on entries
  gives-on on entries is_on =
      front-is entries ∙ ap (λ (b : Bool). cond b (front entries) None) (sym (may-on on entries is_on))

  pub gives-front : (w : SubKey × E) (on : Bool) (entries : List (SubKey × E)) → Some w ≡ slice_get entries 0 → may_take on entries ≡ true → Some w ≡ taken on entries
  gives-front w on entries front_is may =
      ap front (sym (head-is w entries front_is)) ∙ ap (λ (b : Bool). cond b (front entries) None) (sym may)

  -- ---- cancels

  -- the subscriptions of the entries that stay are left
  pub known-left : (key : SubKey) (lasts left : List Last) (on : Bool) (entries : List (SubKey × E)) → IsSound (ring_queue entries lasts on) → left ≡ filter (λ l. not (same key l.key)) lasts → (k : SubKey) → has_entry k (after_cancel key entries) ≡ true → is_among k (keys_of_lasts left) ≡ true
  known-left key lasts left on entries sound left_is k has =
      ap (λ (ls : List Last). is_among k (keys_of_lasts ls)) left_is ∙ ap (is_among k) (keys-left key lasts)
      ∙ (sound_cancelled key (ring_queue entries lasts on) sound).known k has

  -- one more entry came round
  after-one : (key : SubKey) (done : List (SubKey × E)) (w : SubKey × E) → after_cancel key (done ++ w ∷ []) ≡ after_cancel key done ++ cond (same key w.0) [] (w ∷ [])
  after-one key [] w = by (same key w.0)
    where
      by : (b : Bool) → cond (not b) (w ∷ []) [] ≡ cond b [] (w ∷ [])
      by true = refl
      by false = refl
  after-one key (v ∷ done) w =
      elim (cases_Bool (same key v.0)) [
        | inl is ↦ rw is (after-one key done w)
        | inr other ↦ rw other (ap (λ (vs : List (SubKey × E)). v ∷ vs) (after-one key done w))
      ]

  split-at : (es : List (SubKey × E)) (i : ℕ) (w : SubKey × E) (more : List (SubKey × E)) → i < length es → Some w ≡ slice_get (drop i es ++ more) 0 → (drop i es ≡ w ∷ drop (suc i) es) × (take (suc i) es ≡ take i es ++ w ∷ [])
  split-at [] i w more less e = absurd (omega (arith, less))
  split-at (v ∷ es) zero w more less e =
      let is : v ≡ w = sym (ap (λ (o : Option (SubKey × E)). unwrap_or o v) e) in
      (ap (λ (x : SubKey × E). x ∷ es) is, ap (λ (x : SubKey × E). x ∷ []) is)
  split-at (v ∷ es) (suc i) w more less e =
      let rest = split-at es i w more (omega (arith, less)) e in
      (rest.0, ap (λ (xs : List (SubKey × E)). v ∷ xs) rest.1)

  waits-left : (key : SubKey) (ring : Option (Buffer (SubKey × E))) → waits (option_map (with_items (after_cancel key (waits ring))) ring) ≡ after_cancel key (waits ring)
  waits-left key None = refl
  waits-left key (Some b) = refl

  pub cancelled-one : (key : SubKey) (ring new : Option (Buffer (SubKey × E))) (lasts left lasts' : List Last) (room room' room'' on : Bool) (puts puts' extra extra' : ℕ) → IsRing ring lasts room on puts extra → left ≡ filter (λ l. not (same key l.key)) lasts → (room ≡ true → room' ≡ true) → new ≡ option_map (with_items (after_cancel key (waits ring))) ring → keys_of_lasts lasts' ≡ keys_of_lasts left → room'' ≡ room' → AreNoted puts' (after_cancel key (waits ring)) lasts' → puts' < 2 ^ 64 → extra' + having (waits new) (keys_of_lasts lasts') ≡ length (waits new) → AreRing new lasts' room'' on puts' extra' (cancelled key (ring_queue (waits ring) lasts on))
  cancelled-one key ring new lasts left lasts' room room' room'' on puts puts' extra extra' had left_is roomy new_is keys room_is noted goes counted =
      let entries = waits ring in
      let rest : List (SubKey × E) = after_cancel key entries in
      let q : Queue E = ring_queue entries lasts on in
      let waits_is : waits new ≡ rest = ap waits new_is ∙ waits-left key ring in
      let those : keys_of_lasts lasts' ≡ filter (λ k. not (same key k)) (keys_of_lasts lasts) = keys ∙ ap keys_of_lasts left_is ∙ keys-left key lasts in
      let fewer_lasts : length lasts' ≤ length lasts =
      omega (arith, ap length keys, length-map lasts' (λ l. l.key), length-map left (λ l. l.key), ap length left_is, length-left key lasts) in
      let was : IsMade ring lasts room' = record { places = had.made.places; made = had.made.made; roomy = λ some. roomy (had.made.roomy some) } in
      are-ring new lasts' room'' on puts' extra' rest (cancelled key q) waits_is
      (ap (λ (ks : List SubKey). let r : Queue E = record { waiting = rest; subscriptions = ks; events_on = on } in r) those)
      (sound_cancelled key q had.round.sound)
      goes
      noted
      (λ off. subst (λ (es : List (SubKey × E)). extra' + having es (keys_of_lasts lasts') ≡ length es) waits_is counted)
      (subst (λ (r : Option (Buffer (SubKey × E))). IsMade r lasts' room'') (sym new_is) (made-still (with_items rest) ring lasts lasts' room' room'' (λ b. refl) was fewer_lasts room_is))

  -- what is left is known as it was
  pub known-now : (key : SubKey) (ring new : Option (Buffer (SubKey × E))) (keys keys' : List SubKey) → new ≡ option_map (with_items (after_cancel key (waits ring))) ring → keys' ≡ keys → ((k : SubKey) → has_entry k (after_cancel key (waits ring)) ≡ true → is_among k keys ≡ true) → (k : SubKey) → has_entry k (waits new) ≡ true → is_among k keys' ≡ true
  known-now key ring new keys keys' new_is keys_is known k has =
      ap (is_among k) keys_is ∙ known k (sym (ap (has_entry k) (ap waits new_is ∙ waits-left key ring)) ∙ has)

  pub noted-now : (key : SubKey) (puts : ℕ) (ring new : Option (Buffer (SubKey × E))) (lasts : List Last) → new ≡ option_map (with_items (after_cancel key (waits ring))) ring → AreNoted puts (after_cancel key (waits ring)) lasts → AreNoted puts (waits new) lasts
  noted-now key puts ring new lasts new_is noted =
      subst (λ (es : List (SubKey × E)). AreNoted puts es lasts) (sym (ap waits new_is ∙ waits-left key ring)) noted

  -- ---- events

  pub switched-one : (ring : Option (Buffer (SubKey × E))) (lasts : List Last) (room on now : Bool) (puts extra extra' : ℕ) → IsRing ring lasts room on puts extra → extra' + having (waits ring) (keys_of_lasts lasts) ≡ length (waits ring) → IsRing ring lasts room now puts extra'
  switched-one ring lasts room on now puts extra extra' had counted = record {
    round = record {
      sound = sound_switched now (ring_queue (waits ring) lasts on) had.round.sound;
      goes_round = had.round.goes_round;
      noted = had.round.noted;
      counted = λ off. counted;
    };
    made = had.made;
  }

  -- ---- once round the ring

  -- what the ring has once n entries came round: those that did not yet, and then those that stayed
  abbrev pub turned : SubKey → ℕ → List (SubKey × E) → List (SubKey × E)
  turned key n es = drop n es ++ after_cancel key (take n es)

  pub turn-begins : (ring : Option (Buffer (SubKey × E))) → ring ≡ option_map (with_items (waits ring ++ [])) ring
  turn-begins None = refl
  turn-begins (Some b) = ap (λ (es : List (SubKey × E)). Some (buffer es b.capacity)) (sym (append-nil b.items))

  waits-turned : (key : SubKey) (n : ℕ) (ring : Option (Buffer (SubKey × E))) → n < length (waits ring) → waits (option_map (with_items (turned key n (waits ring))) ring) ≡ turned key n (waits ring)
  waits-turned key n None less = absurd (omega (arith, less))
  waits-turned key n (Some b) less = refl

  waits-same : (xs : List (SubKey × E)) (ring : Option (Buffer (SubKey × E))) → 0 < length (waits ring) → waits (option_map (with_items xs) ring) ≡ xs
  waits-same xs None less = absurd (omega (arith, less))
  waits-same xs (Some b) less = refl

  -- the entry at the front is the next of those that were there
  pub next-is : (key : SubKey) (n : ℕ) (w : SubKey × E) (ring now : Option (Buffer (SubKey × E))) → n < length (waits ring) → now ≡ option_map (with_items (turned key n (waits ring))) ring → Some w ≡ slice_get (waits now) 0 → (drop n (waits ring) ≡ w ∷ drop (suc n) (waits ring)) × (take (suc n) (waits ring) ≡ take n (waits ring) ++ w ∷ [])
  next-is key n w ring now less now_is front_is =
      split-at (waits ring) n w (after_cancel key (take n (waits ring))) less
      (front_is ∙ ap (λ (r : Option (Buffer (SubKey × E))). slice_get (waits r) 0) now_is ∙ ap (λ (es : List (SubKey × E)). slice_get es 0) (waits-turned key n ring less))

  -- it was taken out
  pub popped-is : (key : SubKey) (n : ℕ) (w : SubKey × E) (ring now new : Option (Buffer (SubKey × E))) → now ≡ option_map (with_items (turned key n (waits ring))) ring → drop n (waits ring) ≡ w ∷ drop (suc n) (waits ring) → new ≡ option_map without_front now → new ≡ option_map (with_items (drop (suc n) (waits ring) ++ after_cancel key (take n (waits ring)))) ring
  popped-is key n w ring now new now_is next new_is =
      new_is ∙ ap (option_map without_front) now_is ∙ twice ring
      ∙ ap (λ (es : List (SubKey × E)). option_map (with_items (drop 1 (es ++ after_cancel key (take n (waits ring))))) ring) next
    where
      twice : (r : Option (Buffer (SubKey × E))) → option_map without_front (option_map (with_items (turned key n (waits ring))) r) ≡ option_map (with_items (drop 1 (turned key n (waits ring)))) r
      twice None = refl
      twice (Some b) = refl

  -- which entries stayed, once one more came round
  pub stays-one : (key : SubKey) (b : Bool) (n : ℕ) (w : SubKey × E) (es : List (SubKey × E)) → take (suc n) es ≡ take n es ++ w ∷ [] → same key w.0 ≡ b → after_cancel key (take (suc n) es) ≡ after_cancel key (take n es) ++ cond b [] (w ∷ [])
  stays-one key b n w es next is =
      ap (after_cancel key) next ∙ after-one key (take n es) w ∙ ap (λ (t : Bool). after_cancel key (take n es) ++ cond t [] (w ∷ [])) is

  pub length-after : (key : SubKey) (n : ℕ) (es : List (SubKey × E)) → length (after_cancel key (take n es)) ≤ n
  length-after key n es = omega (arith, length_without key (take n es), length-take n es)

  pub put-back : (key : SubKey) (n : ℕ) (w : SubKey × E) (ring popped : Option (Buffer (SubKey × E))) → n < length (waits ring) → AreInPlaces ring → popped ≡ option_map (with_items (drop (suc n) (waits ring) ++ after_cancel key (take n (waits ring)))) ring → HasPlace popped
  put-back key n w ring popped less fits popped_is = subst HasPlace (sym popped_is) (by ring less fits)
    where
      by : (r : Option (Buffer (SubKey × E))) → n < length (waits r) → AreInPlaces r → HasPlace (option_map (with_items (drop (suc n) (waits r) ++ after_cancel key (take n (waits r)))) r)
      by None less fits = absurd (omega (arith, less))
      by (Some b) less fits =
          omega (arith, fits.0, fits.1, less, length-append (drop (suc n) b.items) (after_cancel key (take n b.items)), length-drop (suc n) b.items, length-after key n b.items)

  pub pushed-is : (key : SubKey) (n : ℕ) (w : SubKey × E) (ring popped new : Option (Buffer (SubKey × E))) → popped ≡ option_map (with_items (drop (suc n) (waits ring) ++ after_cancel key (take n (waits ring)))) ring → new ≡ option_map (with_back w) popped → after_cancel key (take (suc n) (waits ring)) ≡ after_cancel key (take n (waits ring)) ++ w ∷ [] → new ≡ option_map (with_items (turned key (suc n) (waits ring))) ring
  pushed-is key n w ring popped new popped_is new_is stays =
      new_is ∙ ap (option_map (with_back w)) popped_is ∙ twice ring
      ∙ ap (λ (es : List (SubKey × E)). option_map (with_items es) ring)
      (append_assoc (drop (suc n) (waits ring)) (after_cancel key (take n (waits ring))) (w ∷ []) ∙ ap (λ (es : List (SubKey × E)). drop (suc n) (waits ring) ++ es) (sym stays))
    where
      twice : (r : Option (Buffer (SubKey × E))) → option_map (with_back w) (option_map (with_items (drop (suc n) (waits ring) ++ after_cancel key (take n (waits ring)))) r) ≡ option_map (with_items ((drop (suc n) (waits ring) ++ after_cancel key (take n (waits ring))) ++ w ∷ [])) r
      twice None = refl
      twice (Some b) = refl

  pub turn-ends : (key : SubKey) (n : ℕ) (es : List (SubKey × E)) → n ≡ length es → (turned key n es ≡ after_cancel key es) × (after_cancel key (take n es) ≡ after_cancel key es)
  turn-ends key n es is =
      let all : take n es ≡ es = ap (λ (m : ℕ). take m es) is ∙ take_all (length es) es (omega arith) in
      let none : drop n es ≡ [] = ap (λ (m : ℕ). drop m es) is ∙ drop_all (length es) es (omega arith) in
      (ap (λ (xs : List (SubKey × E)). xs ++ after_cancel key (take n es)) none ∙ ap (after_cancel key) all, ap (after_cancel key) all)

  -- there is an entry at the front
  pub some-next : (key : SubKey) (n : ℕ) (ring now : Option (Buffer (SubKey × E))) → n < length (waits ring) → now ≡ option_map (with_items (turned key n (waits ring))) ring → None ≡ slice_get (waits now) 0 → ⊥
  some-next key n ring now less now_is gone =
      one (waits ring) n less
      (gone ∙ ap (λ (r : Option (Buffer (SubKey × E))). slice_get (waits r) 0) now_is ∙ ap (λ (es : List (SubKey × E)). slice_get es 0) (waits-turned key n ring less))
    where
      nothing : (v : SubKey × E) → None ≡ Some v → ⊥
      nothing v e = cc

      one : (es : List (SubKey × E)) (m : ℕ) → m < length es → None ≡ slice_get (drop m es ++ after_cancel key (take n (waits ring))) 0 → ⊥
      one [] m less e = absurd (omega (arith, less))
      one (v ∷ es) zero less e = nothing v e
      one (v ∷ es) (suc m) less e = one es m (omega (arith, less)) e

  -- its subscription is left
  pub known-one : (key : SubKey) (n : ℕ) (w : SubKey × E) (es : List (SubKey × E)) (keys keys' : List SubKey) → ((k : SubKey) → has_entry k (after_cancel key es) ≡ true → is_among k keys ≡ true) → drop n es ≡ w ∷ drop (suc n) es → same key w.0 ≡ false → keys' ≡ keys → is_among w.0 keys' ≡ true
  known-one key n w es keys keys' known next other keys_is =
      let here : has_entry w.0 (drop n es) ≡ true = ap (has_entry w.0) next ∙ or_left (same w.0 w.0) (has_entry w.0 (drop (suc n) es)) (same_itself w.0) in
      let left : has_entry w.0 (after_cancel key es) ≡ true = has_without w.0 key es other ∙ has_behind w.0 es n here in
      ap (is_among w.0) keys_is ∙ known w.0 left

  -- one more entry came round: what the ring has, and the numbers of the last puts
  pub record Turned (key : SubKey) (n : ℕ) (ring now : Option (Buffer (SubKey × E))) (old lasts : List Last × Bool) (puts : ℕ) : Type 0 where
    pub in_ring : now ≡ option_map (with_items (turned key n (waits ring))) ring
    pub keys : keys_of_lasts lasts.0 ≡ keys_of_lasts old.0
    pub room : lasts.1 ≡ old.1
    pub noted : AreNoted puts (after_cancel key (take n (waits ring))) lasts.0
    pub goes : puts < 2 ^ 64

  pub turn-stays : (key : SubKey) (n number puts puts' : ℕ) (w : SubKey × E) (ring now popped new : Option (Buffer (SubKey × E))) (old lasts lasts' : List Last × Bool) → Turned key n ring now old lasts puts → n < length (waits ring) → AreInPlaces ring → AreApart (keys_of_lasts old.0) → Some w ≡ slice_get (waits now) 0 → popped ≡ option_map without_front now → same key w.0 ≡ false → IsAt w.0 (keys_of_lasts lasts.0) number → puts' ≡ next_put puts → lasts' ≡ (set lasts.0 number (record { key = w.0; put = next_put puts }), lasts.1) → new ≡ option_map (with_back w) popped → Turned key (n + 1) ring new old lasts' puts'
  turn-stays key n number puts puts' w ring now popped new old lasts lasts' had less fits apart front_is popped_is other at puts_is lasts_is new_is =
      let es = waits ring in
      let done : List (SubKey × E) = after_cancel key (take n es) in
      let next = next-is key n w ring now less had.in_ring front_is in
      let stays : after_cancel key (take (suc n) es) ≡ done ++ w ∷ [] = stays-one key false n w es next.1 other in
      let few : length done ≤ queue_places = omega (arith, less, fits.1, length-after key n es) in
      let lasts_are : lasts'.0 ≡ set lasts.0 number (record { key = w.0; put = next_put puts }) = ap (λ (p : List Last × Bool). p.0) lasts_is in
      let apart_now : AreApart (keys_of_lasts lasts.0) = subst AreApart (sym had.keys) apart in
      let noted : AreNoted puts' (done ++ w ∷ []) lasts'.0 =
      noted-put w.0 w.1 number puts puts' done lasts.0 lasts'.0 had.noted apart_now at had.goes few puts_is lasts_are in
      let all : Turned key (suc n) ring new old lasts' puts' = record {
        in_ring = pushed-is key n w ring popped new (popped-is key n w ring now popped had.in_ring next.0 popped_is) new_is stays;
        keys = ap keys_of_lasts lasts_are ∙ keys-set w.0 (next_put puts) lasts.0 number at ∙ had.keys;
        room = ap (λ (p : List Last × Bool). p.1) lasts_is ∙ had.room;
        noted = subst (λ (xs : List (SubKey × E)). AreNoted puts' xs lasts'.0) (sym stays) noted;
        goes = next-goes puts puts' puts_is;
      } in
      subst (λ (m : ℕ). Turned key m ring new old lasts' puts') (sym (add-one n)) all

  pub turn-goes : (key : SubKey) (n puts : ℕ) (w : SubKey × E) (ring now popped : Option (Buffer (SubKey × E))) (old lasts : List Last × Bool) → Turned key n ring now old lasts puts → n < length (waits ring) → Some w ≡ slice_get (waits now) 0 → popped ≡ option_map without_front now → same key w.0 ≡ true → Turned key (n + 1) ring popped old lasts puts
  turn-goes key n puts w ring now popped old lasts had less front_is popped_is is =
      let es = waits ring in
      let next = next-is key n w ring now less had.in_ring front_is in
      let goes : after_cancel key (take (suc n) es) ≡ after_cancel key (take n es) = stays-one key true n w es next.1 is ∙ append-nil (after_cancel key (take n es)) in
      let all : Turned key (suc n) ring popped old lasts puts = record {
        in_ring = popped-is key n w ring now popped had.in_ring next.0 popped_is ∙ ap (λ (xs : List (SubKey × E)). option_map (with_items (drop (suc n) es ++ xs)) ring) (sym goes);
        keys = had.keys;
        room = had.room;
        noted = subst (λ (xs : List (SubKey × E)). AreNoted puts xs lasts.0) (sym goes) had.noted;
        goes = had.goes;
      } in
      subst (λ (m : ℕ). Turned key m ring popped old lasts puts) (sym (add-one n)) all
