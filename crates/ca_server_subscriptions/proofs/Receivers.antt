-- The subscriptions of an end by the names of their records.
use Rattle.std.proofs.Common.{◌≡◌, ℕ, zero, suc, ◌+◌, ◌<◌, ◌≤◌, ◌||◌, inl, inr, Bool, true, false, not, cond, List, [], ◌∷◌, ◌++◌, length, drop, filter, map, slice_get, slice_index_or, Option, Some, None, Ok, refl, sym, ap, ◌∙◌, subst, arith}
use Rattle.std.specs.Prelude.{slice_set}
use Rattle.std.specs.List.{fold, list_any}
use Rattle.std.specs.Map.{lookup}
use Rattle.std.specs.Str.{bytes_eq}
use Rattle.std.proofs.lemmas.Slice.Eq.{bytes_eq-Decides}
use Rattle.std.proofs.lemmas.Bool.{both_ways, cases_Bool, or_parts, or_right}
use Rattle.ca_text.specs.Place.{At}
use Rattle.ca_text.proofs.Places.{At-mapped, At-one, At-snoc, At-within, some_is}
use Rattle.ca_queue.specs.declared.entry.SubKey.{SubKey}
use Rattle.ca_queue.specs.Circuit.{Begins, HasAt, queue_posted, queue_without, without_each}
use Rattle.ca_queue.specs.Keys.{AreApart, is_among, same}
use Rattle.ca_queue.specs.Queue.{added, posted}
use Rattle.ca_queue.specs.Sound.{IsSound}
use Rattle.ca_queue.specs.Waiting.{has_entry, is_of, after_post}
use Rattle.ca_queue.proofs.Circuits.{set-here}
use Rattle.ca_queue.proofs.Keys.{among_push, same_is, same_itself}
use Rattle.ca_model.specs.Server.{Subscription, concerns, key_of}
use Rattle.ca_model.specs.Speech.{Stored, share_bit}
use Rattle.ca_server_subscriptions.proofs.Placing.{Entry, Q, alike-posted, all-other, filtered-at, has-none, other, placed-alike}
use Rattle.ca_server_subscriptions.proofs.Sieves.{each-none, without-one}
use Rattle.ca_server_subscriptions.specs.ByRecord.{Adds, AreByRecord, ArePlacedIn, Drops, IsOnlyOne, Lines, Receiver, is_masked, receiver_of, receivers_in, receivers_of, without}
use Rattle.ca_server_subscriptions.specs.Subscribed.{AreAskable, ArePlaced, IsAskable, Standings, is_on, keys_in, subscriptions_in}

-- ---- those on a record

-- of one more
pub receivers-snoc : (name : List ℕ) (es : Standings) (e : Entry) → receivers_of name (es ++ e ∷ []) ≡ receivers_of name es ++ cond (is_on name e.1.0) (receiver_of e ∷ []) []
receivers-snoc name [] e = elim (cases_Bool (is_on name e.1.0)) [ inl on ↦ rw on refl | inr off ↦ rw off refl ]
receivers-snoc name (x ∷ es) e =
    elim (cases_Bool (is_on name x.1.0)) [
      | inl on ↦ rw on (ap (λ (rs : List Receiver). receiver_of x ∷ rs) (receivers-snoc name es e))
      | inr off ↦ rw off (receivers-snoc name es e)
    ]

-- without one subscription
pub receivers-without : (name : List ℕ) (key : SubKey) (es : Standings) → receivers_of name (filter (other key) es) ≡ without key (receivers_of name es)
receivers-without name key [] = refl
receivers-without name key (e ∷ es) = by (same key e.0) (is_on name e.1.0) refl refl (receivers-without name key es)
  where
    by : (a b : Bool) → same key e.0 ≡ a → is_on name e.1.0 ≡ b → receivers_of name (filter (other key) es) ≡ without key (receivers_of name es)
        → receivers_of name (filter (other key) (e ∷ es)) ≡ without key (receivers_of name (e ∷ es))
    by true true is on rest = rw (is, on, is) rest
    by true false is off rest = rw (is, off) rest
    by false true is on rest = rw (is, on, is) (ap (λ (rs : List Receiver). receiver_of e ∷ rs) rest)
    by false false is off rest = rw (is, off) rest

-- whether there is one
pub any-on : (name : List ℕ) (es : Standings) → list_any (is_on name) (subscriptions_in es) ≡ list_any (λ (r : Receiver). true) (receivers_of name es)
any-on name [] = refl
any-on name (e ∷ es) = elim (cases_Bool (is_on name e.1.0)) [ inl on ↦ rw on refl | inr off ↦ rw off (any-on name es) ]

-- whether a post concerns one
pub any-concerned : (name : List ℕ) (mask : ℕ) (es : Standings) → list_any (concerns name mask) (subscriptions_in es) ≡ list_any (is_masked mask) (receivers_of name es)
any-concerned name mask [] = refl
any-concerned name mask (e ∷ es) =
    elim (cases_Bool (is_on name e.1.0)) [
      | inl on ↦ rw on (ap (λ (b : Bool). share_bit mask e.1.0.mask || b) (any-concerned name mask es))
      | inr off ↦ rw off (any-concerned name mask es)
    ]

-- ---- a post

-- what a post does to them is what it does to those that it concerns
pub posts-all : (name : List ℕ) (mask : ℕ) (v : Stored) (es : Standings) (qs : List Q) → ((i : ℕ) (e : Entry) → At es i e → e.0 ≡ key_of e.1.0)
    → fold (λ (rs : List Q) (r : Receiver). map (queue_posted r.key v) rs) qs (filter (is_masked mask) (receivers_of name es))
    ≡ fold (λ (rs : List Q) (x : Subscription). map (queue_posted (key_of x) v) rs) qs (filter (concerns name mask) (subscriptions_in es))
posts-all name mask v [] qs keyed = refl
posts-all name mask v (e ∷ es) qs keyed =
    by (is_on name e.1.0) (share_bit mask e.1.0.mask) refl refl (λ rs. posts-all name mask v es rs (λ i x at. keyed (suc i) x at))
  where
    by : (a b : Bool) → is_on name e.1.0 ≡ a → share_bit mask e.1.0.mask ≡ b
        → ((rs : List Q) → fold (λ (zs : List Q) (r : Receiver). map (queue_posted r.key v) zs) rs (filter (is_masked mask) (receivers_of name es))
        ≡ fold (λ (zs : List Q) (x : Subscription). map (queue_posted (key_of x) v) zs) rs (filter (concerns name mask) (subscriptions_in es)))
        → fold (λ (rs : List Q) (r : Receiver). map (queue_posted r.key v) rs) qs (filter (is_masked mask) (receivers_of name (e ∷ es)))
        ≡ fold (λ (rs : List Q) (x : Subscription). map (queue_posted (key_of x) v) rs) qs (filter (concerns name mask) (subscriptions_in (e ∷ es)))
    by true true on masked rest =
        rw (on, masked)
        (rest (map (queue_posted e.0 v) qs)
        ∙ ap (λ (k : SubKey). fold (λ (rs : List Q) (x : Subscription). map (queue_posted (key_of x) v) rs) (map (queue_posted k v) qs) (filter (concerns name mask) (subscriptions_in es))) (keyed 0 e refl))
    by true false on masked rest = rw (on, masked) (rest qs)
    by false b off masked rest = rw off (rest qs)

-- one of those on a record is in the queue that it names
pub receiver-has : (es : Standings) (qs : List Q) (name : List ℕ) (i : ℕ) (r : Receiver) → ArePlaced es qs → At (receivers_of name es) i r → HasAt qs r.queue r.key
receiver-has es qs name i r p at =
    let m = At-mapped receiver_of (filter (λ (e : Entry). is_on name e.1.0) es) i r at in
    let f = filtered-at (λ (e : Entry). is_on name e.1.0) es i m.0 m.1 in
    subst (λ (x : Receiver). HasAt qs x.queue x.key) (sym m.2) (p.placed f.0 m.0 f.1)

pub has-in : (rs : List Receiver) (qs now : List Q) (i : ℕ) (r : Receiver) → ArePlacedIn rs qs → ((es : Standings) → ArePlaced es qs → ArePlaced es now) → At rs i r → HasAt now r.queue r.key
has-in rs qs now i r (es, name, p, are) still at = receiver-has es now name i r (still es p) (subst (λ (xs : List Receiver). At xs i r) are at)

pub placed-posted : (es : Standings) (qs now : List Q) (key : SubKey) (v : Stored) (b : Bool) → now ≡ cond b (map (queue_posted key v) qs) qs → ArePlaced es qs → ArePlaced es now
placed-posted es qs now key v true is p = subst (λ (rs : List Q). ArePlaced es rs) (sym is) (placed-alike es qs (map (queue_posted key v) qs) (alike-posted key v qs) p)
placed-posted es qs now key v false is p = subst (λ (rs : List Q). ArePlaced es rs) (sym is) p

pub drop-at : {A : Type 0} (xs : List A) (i : ℕ) (x : A) → At xs i x → drop i xs ≡ x ∷ drop (suc i) xs
drop-at [] i x at = absurd cc
drop-at (y ∷ xs) zero x at = ap (λ (z : _). z ∷ xs) (some_is y x at)
drop-at (y ∷ xs) (suc i) x at = drop-at xs i x at

-- one more got its update
pub posts-next : (rs : List Receiver) (i : ℕ) (r : Receiver) (mask : ℕ) (v : Stored) (qs now whole : List Q) → At rs i r
    → fold (λ (zs : List Q) (x : Receiver). map (queue_posted x.key v) zs) qs (filter (is_masked mask) (drop i rs)) ≡ whole
    → now ≡ cond (is_masked mask r) (map (queue_posted r.key v) qs) qs
    → fold (λ (zs : List Q) (x : Receiver). map (queue_posted x.key v) zs) now (filter (is_masked mask) (drop (i + 1) rs)) ≡ whole
posts-next rs i r mask v qs now whole at was did =
    by (is_masked mask r) refl
  where
    more : suc i ≡ i + 1
    more = omega arith

    parts : fold (λ (zs : List Q) (x : Receiver). map (queue_posted x.key v) zs) qs (filter (is_masked mask) (r ∷ drop (suc i) rs)) ≡ whole
    parts = ap (λ (xs : List Receiver). fold (λ (zs : List Q) (x : Receiver). map (queue_posted x.key v) zs) qs (filter (is_masked mask) xs)) (sym (drop-at rs i r at)) ∙ was

    turned : fold (λ (zs : List Q) (x : Receiver). map (queue_posted x.key v) zs) now (filter (is_masked mask) (drop (suc i) rs)) ≡ whole
        → fold (λ (zs : List Q) (x : Receiver). map (queue_posted x.key v) zs) now (filter (is_masked mask) (drop (i + 1) rs)) ≡ whole
    turned is = subst (λ (n : ℕ). fold (λ (zs : List Q) (x : Receiver). map (queue_posted x.key v) zs) now (filter (is_masked mask) (drop n rs)) ≡ whole) more is

    by : (b : Bool) → is_masked mask r ≡ b → fold (λ (zs : List Q) (x : Receiver). map (queue_posted x.key v) zs) now (filter (is_masked mask) (drop (i + 1) rs)) ≡ whole
    by true is = turned
        (ap (λ (zs : List Q). fold (λ (zs : List Q) (x : Receiver). map (queue_posted x.key v) zs) zs (filter (is_masked mask) (drop (suc i) rs)))
        (did ∙ ap (λ (b : Bool). cond b (map (queue_posted r.key v) qs) qs) is)
        ∙ ap (λ (b : Bool). fold (λ (zs : List Q) (x : Receiver). map (queue_posted x.key v) zs) qs (cond b (r ∷ filter (is_masked mask) (drop (suc i) rs)) (filter (is_masked mask) (drop (suc i) rs)))) (sym is)
        ∙ parts)
    by false is = turned
        (ap (λ (zs : List Q). fold (λ (zs : List Q) (x : Receiver). map (queue_posted x.key v) zs) zs (filter (is_masked mask) (drop (suc i) rs)))
        (did ∙ ap (λ (b : Bool). cond b (map (queue_posted r.key v) qs) qs) is)
        ∙ ap (λ (b : Bool). fold (λ (zs : List Q) (x : Receiver). map (queue_posted x.key v) zs) qs (cond b (r ∷ filter (is_masked mask) (drop (suc i) rs)) (filter (is_masked mask) (drop (suc i) rs)))) (sym is)
        ∙ parts)

pub drop-all : {A : Type 0} (xs : List A) (i : ℕ) → length xs ≡ i → drop i xs ≡ []
drop-all [] zero all = refl
drop-all [] (suc i) all = refl
drop-all (x ∷ xs) zero all = absurd (omega (arith, all))
drop-all (x ∷ xs) (suc i) all = drop-all xs i (omega (arith, all))

pub any-at : {A : Type 0} (test : A → Bool) (xs : List A) (i : ℕ) (x : A) → At xs i x → test x ≡ true → list_any test xs ≡ true
any-at test [] i x at hit = absurd cc
any-at test (y ∷ xs) zero x at hit = ap (λ (b : Bool). b || list_any test xs) (ap test (some_is y x at) ∙ hit)
any-at test (y ∷ xs) (suc i) x at hit = or_right (test y) (list_any test xs) (any-at test xs i x at hit)

-- ---- a subscription that was begun is taken out again

pub filter-snoc : {A : Type 0} (f : A → Bool) (xs : List A) (y : A) → list_any f xs ≡ false → f y ≡ true → filter (λ (x : A). not (f x)) (xs ++ y ∷ []) ≡ xs
filter-snoc f [] y none hit = rw hit refl
filter-snoc f (x ∷ xs) y none hit =
    let parts = or_parts (f x) (list_any f xs) none in rw parts.0 (ap (λ (ys : List _). x ∷ ys) (filter-snoc f xs y parts.1 hit))

map-set : {A B : Type 0} (f : A → B) (xs : List A) (i : ℕ) (y : A) → map f (slice_set xs i y) ≡ slice_set (map f xs) i (f y)
map-set f [] i y = refl
map-set f (x ∷ xs) zero y = refl
map-set f (x ∷ xs) (suc i) y = ap (λ (ys : List _). f x ∷ ys) (map-set f xs i y)

set-same : {A : Type 0} (xs : List A) (i : ℕ) (x : A) → At xs i x → slice_set xs i x ≡ xs
set-same [] i x at = refl
set-same (y ∷ xs) zero x at = ap (λ (z : _). z ∷ xs) (sym (some_is y x at))
set-same (y ∷ xs) (suc i) x at = ap (λ (ys : List _). y ∷ ys) (set-same xs i x at)

module _ (q : Q) (key : SubKey) (v : Stored) (s : IsSound q) (new : is_among key q.subscriptions ≡ false) where
  idle : has_entry key q.waiting ≡ false
  idle = by (has_entry key q.waiting) refl
    where
      by : (b : Bool) → has_entry key q.waiting ≡ b → b ≡ false
      by true has = absurd (both_ways _ new (s.known key has))
      by false has = refl

  joined-has : is_among key (posted key v (added key q)).subscriptions ≡ true
  joined-has = among_push key key q.subscriptions ∙ or_right (is_among key q.subscriptions) (same key key) (same_itself key)

  waits : after_post q.events_on key v q.waiting ≡ q.waiting ++ (key, v) ∷ []
  waits = rw idle refl

  gone-again : queue_without (same key) (posted key v (added key q)) ≡ q
  gone-again =
      let w : filter (λ (x : SubKey × Stored). not (is_of key x)) (after_post q.events_on key v q.waiting) ≡ q.waiting =
      ap (λ (xs : List (SubKey × Stored)). filter (λ (x : SubKey × Stored). not (is_of key x)) xs) waits ∙ filter-snoc (is_of key) q.waiting (key, v) idle (same_itself key) in
      let k = filter-snoc (same key) q.subscriptions key new (same_itself key) in
      without-one key (posted key v (added key q)) joined-has
      ∙ (λ i. record { waiting = w i; subscriptions = k i; events_on = q.events_on })

module _ (es : Standings) (qs now : List Q) (key : SubKey) (v : Stored) (place : ℕ) (p : ArePlaced es qs) (new : is_among key (keys_in es) ≡ false) (b : Begins qs key v (Ok place) now) where
  none : is_among key b.0.subscriptions ≡ false
  none = has-none es qs key p new place b.0 b.1.0

  sound : IsSound b.0
  sound = p.sound place b.0 b.1.0

  pub begun-has : HasAt now place key
  begun-has = (
    posted key v (added key b.0),
    subst (λ (rs : List Q). At rs place (posted key v (added key b.0))) (sym b.2) (set-here qs place (posted key v (added key b.0)) (At-within qs place b.0 b.1.0)),
    joined-has b.0 key v sound none,
  )

  pub begun-gone : without_each (same key) now ≡ qs
  begun-gone =
      ap (λ (rs : List Q). without_each (same key) rs) b.2
      ∙ map-set (queue_without (same key)) qs place (posted key v (added key b.0))
      ∙ (λ i. slice_set (each-none key qs (has-none es qs key p new) i) place (gone-again b.0 key v sound none i))
      ∙ set-same qs place b.0 b.1.0

-- ---- one more

pub lines-more : (lines new : Lines) (es grown : Standings) (e : Entry) (name : List ℕ) (r : Receiver) → e.1.0.name ≡ name → r ≡ receiver_of e → grown ≡ es ++ e ∷ [] → Adds name r lines new
    → AreByRecord lines es → AreByRecord new grown
lines-more lines new es grown e name r of is all adds were other = by (bytes_eq other name) refl ∙ ap (receivers_of other) (sym all)
  where
    own : receivers_in new name ≡ receivers_of name (es ++ e ∷ [])
    own =
        let on : is_on name e.1.0 ≡ true = (bytes_eq-Decides e.1.0.name name).1 of in
        adds.own ∙ (λ i. were name i ++ is i ∷ [])
        ∙ ap (λ (b : Bool). receivers_of name es ++ cond b (receiver_of e ∷ []) []) (sym on)
        ∙ sym (receivers-snoc name es e)

    off : bytes_eq other name ≡ false → (b : Bool) → is_on other e.1.0 ≡ b → b ≡ false
    off miss true hit = absurd (both_ways (bytes_eq other name) miss ((bytes_eq-Decides other name).1 (sym ((bytes_eq-Decides e.1.0.name other).0 hit) ∙ of)))
    off miss false hit = refl

    end : (rs : List Receiver) → rs ++ [] ≡ rs
    end [] = refl
    end (x ∷ rs) = ap (λ (ys : List Receiver). x ∷ ys) (end rs)

    by : (b : Bool) → bytes_eq other name ≡ b → receivers_in new other ≡ receivers_of other (es ++ e ∷ [])
    by true hit = subst (λ (t : List ℕ). receivers_in new t ≡ receivers_of t (es ++ e ∷ [])) (sym ((bytes_eq-Decides other name).0 hit)) own
    by false miss =
        adds.stay other miss ∙ were other
        ∙ sym (end (receivers_of other es))
        ∙ ap (λ (b : Bool). receivers_of other es ++ cond b (receiver_of e ∷ []) []) (sym (off miss (is_on other e.1.0) refl))
        ∙ sym (receivers-snoc other es e)

-- ---- one fewer

-- those on another record stay
receivers-stay : (other-name : List ℕ) (key : SubKey) (es : Standings) (v : Subscription × ℕ) → AreApart (keys_in es) → lookup (same key) es ≡ Some v → is_on other-name v.0 ≡ false
    → receivers_of other-name (filter (other key) es) ≡ receivers_of other-name es
receivers-stay name key [] v apart is off = refl
receivers-stay name key (e ∷ es) v apart is off = by (same key e.0) (is_on name e.1.0) refl refl (λ found. receivers-stay name key es v apart.1 found off)
  where
    by : (a b : Bool) → same key e.0 ≡ a → is_on name e.1.0 ≡ b → (lookup (same key) es ≡ Some v → receivers_of name (filter (other key) es) ≡ receivers_of name es)
        → receivers_of name (filter (other key) (e ∷ es)) ≡ receivers_of name (e ∷ es)
    by true b hit on rest =
        let one : e.1 ≡ v = some_is e.1 v (sym (ap (λ (b : Bool). cond b (Some e.1) (lookup (same key) es)) hit) ∙ is) in
        let miss : is_on name e.1.0 ≡ false = ap (λ (w : Subscription × ℕ). is_on name w.0) one ∙ off in
        let none : is_among key (keys_in es) ≡ false = subst (λ (k : SubKey). is_among k (keys_in es) ≡ false) (sym (same_is key e.0 hit)) apart.0 in
        rw (hit, miss) (ap (receivers_of name) (all-other key es none))
    by false true differs on rest =
        rw (differs, on) (ap (λ (rs : List Receiver). receiver_of e ∷ rs) (rest (sym (ap (λ (b : Bool). cond b (Some e.1) (lookup (same key) es)) differs) ∙ is)))
    by false false differs on rest = rw (differs, on) (rest (sym (ap (λ (b : Bool). cond b (Some e.1) (lookup (same key) es)) differs) ∙ is))

pub lines-less : (lines new : Lines) (es left : Standings) (name : List ℕ) (key : SubKey) (v : Subscription × ℕ) → AreApart (keys_in es) → lookup (same key) es ≡ Some v → v.0.name ≡ name → left ≡ filter (other key) es
    → Drops name key lines new → AreByRecord lines es → AreByRecord new left
lines-less lines new es left name key v apart is of all drops were any = by (bytes_eq any name) refl ∙ ap (receivers_of any) (sym all)
  where
    own : receivers_in new name ≡ receivers_of name (filter (other key) es)
    own = drops.own ∙ ap (without key) (were name) ∙ sym (receivers-without name key es)

    off : bytes_eq any name ≡ false → (b : Bool) → is_on any v.0 ≡ b → b ≡ false
    off miss true hit = absurd (both_ways (bytes_eq any name) miss ((bytes_eq-Decides any name).1 (sym ((bytes_eq-Decides v.0.name any).0 hit) ∙ of)))
    off miss false hit = refl

    by : (b : Bool) → bytes_eq any name ≡ b → receivers_in new any ≡ receivers_of any (filter (other key) es)
    by true hit = subst (λ (t : List ℕ). receivers_in new t ≡ receivers_of t (filter (other key) es)) (sym ((bytes_eq-Decides any name).0 hit)) own
    by false miss = drops.stay any miss ∙ were any ∙ sym (receivers-stay any key es v apart is (off miss (is_on any v.0) refl))

pub index-at : {A : Type 0} (xs : List A) (i : ℕ) (x : A) → i < length xs → x ≡ slice_index_or xs i x → At xs i x
index-at [] i x lt is = absurd (omega (arith, lt))
index-at (y ∷ xs) zero x lt is = ap (λ (z : _). Some z) (sym is)
index-at (y ∷ xs) (suc i) x lt is = index-at xs i x (omega (arith, lt)) is

-- whether there is one, by the first
pub some-first : (rs : List Receiver) (r : Receiver) → slice_get rs 0 ≡ Some r → list_any (λ (x : Receiver). true) rs ≡ true
some-first [] r is = absurd cc
some-first (x ∷ rs) r is = refl

pub none-first : (rs : List Receiver) → (let none : Option Receiver = None in slice_get rs 0 ≡ none) → rs ≡ []
none-first [] is = refl
none-first (x ∷ rs) is = absurd cc

-- ---- an update can be made for each

pub askable-more : (es grown : Standings) (e : Entry) → grown ≡ es ++ e ∷ [] → IsAskable e.1.0.wanted → AreAskable es → AreAskable grown
askable-more es grown e all is were i x at = elim (At-snoc es e i x (subst (λ (xs : Standings). At xs i x) all at)) [
  | inl old ↦ were i x old
  | inr last ↦ subst (λ (y : Entry). IsAskable y.1.0.wanted) (sym last.1) is
]

pub askable-left : (key : SubKey) (es left : Standings) → left ≡ filter (other key) es → AreAskable es → AreAskable left
askable-left key es left all were i x at =
    let f = filtered-at (other key) es i x (subst (λ (xs : Standings). At xs i x) all at) in were f.0 x f.1

-- ---- the only one on a record

pub none-only_one : (es : Standings) → IsOnlyOne None es
none-only_one es place e is at = absurd (nothing place is)
  where
    nothing : (n : ℕ) → (let none : Option ℕ = None in none ≡ Some n) → ⊥
    nothing n is = cc

some-on : (name : List ℕ) (es : Standings) (place : ℕ) (e : Entry) → At es place e → is_on name e.1.0 ≡ true → 1 ≤ length (receivers_of name es)
some-on name [] place e at on = absurd cc
some-on name (x ∷ es) zero e at on = (let here : is_on name x.1.0 ≡ true = ap (λ (y : Entry). is_on name y.1.0) (some_is x e at) ∙ on in rw here (omega arith))
some-on name (x ∷ es) (suc place) e at on =
    elim (cases_Bool (is_on name x.1.0)) [
      | inl here ↦ rw here (omega arith)
      | inr there ↦ rw there (some-on name es place e at on)
    ]

none-left : (rs : List Receiver) → length rs ≡ 0 → rs ≡ []
none-left [] none = refl
none-left (r ∷ rs) none = absurd (omega (arith, none))

one-on : (name : List ℕ) (es : Standings) (place : ℕ) (e : Entry) → At es place e → is_on name e.1.0 ≡ true → length (receivers_of name es) ≡ 1 → receivers_of name es ≡ receiver_of e ∷ []
one-on name [] place e at on one = absurd cc
one-on name (x ∷ es) zero e at on one =
    let is : x ≡ e = some_is x e at in
    let here : is_on name x.1.0 ≡ true = ap (λ (y : Entry). is_on name y.1.0) is ∙ on in
    let shown : receivers_of name (x ∷ es) ≡ receiver_of x ∷ receivers_of name es = rw here refl in
    let rest : length (receivers_of name es) ≡ 0 = (let n : suc (length (receivers_of name es)) ≡ 1 = sym (ap (λ (rs : List Receiver). length rs) shown) ∙ one in omega (arith, n)) in
    shown ∙ (λ i. receiver_of (is i) ∷ none-left (receivers_of name es) rest i)
one-on name (x ∷ es) (suc place) e at on one = by (is_on name x.1.0) refl (one-on name es place e at on)
  where
    by : (b : Bool) → is_on name x.1.0 ≡ b → (length (receivers_of name es) ≡ 1 → receivers_of name es ≡ receiver_of e ∷ []) → receivers_of name (x ∷ es) ≡ receiver_of e ∷ []
    by true here rest =
        let shown : receivers_of name (x ∷ es) ≡ receiver_of x ∷ receivers_of name es = rw here refl in
        let more = some-on name es place e at on in
        let n : suc (length (receivers_of name es)) ≡ 1 = sym (ap (λ (rs : List Receiver). length rs) shown) ∙ one in
        absurd (omega (arith, n, more))
    by false there rest =
        let shown : receivers_of name (x ∷ es) ≡ receivers_of name es = rw there refl in
        shown ∙ rest (sym (ap (λ (rs : List Receiver). length rs) shown) ∙ one)

pub only_one-found : (name : List ℕ) (es : Standings) (place : ℕ) (e : Entry) → At es place e → is_on name e.1.0 ≡ true → length (receivers_of name es) ≡ 1 → IsOnlyOne (Some place) es
only_one-found name es place e at on one p x is there =
    let same_place : place ≡ p = some_is place p is in
    let own : x ≡ e = At-one es place x e (subst (λ (n : ℕ). At es n x) (sym same_place) there) at in
    subst (λ (y : Entry). receivers_of y.1.0.name es ≡ receiver_of y ∷ []) (sym own)
    (subst (λ (t : List ℕ). receivers_of t es ≡ receiver_of e ∷ []) (sym ((bytes_eq-Decides e.1.0.name name).0 on)) (one-on name es place e at on one))

pub only_one-on : (only_one : Option ℕ) (name : List ℕ) (es : Standings) (place : ℕ) (e : Entry) → IsOnlyOne only_one es → only_one ≡ Some place → At es place e → is_on name e.1.0 ≡ true → receivers_of name es ≡ receiver_of e ∷ []
only_one-on only_one name es place e s is at on = subst (λ (t : List ℕ). receivers_of t es ≡ receiver_of e ∷ []) ((bytes_eq-Decides e.1.0.name name).0 on) (s place e is at)

module _ (name : List ℕ) (es : Standings) (r : Receiver) (are : receivers_of name es ≡ r ∷ []) where
  pub only_one-is-on : list_any (is_on name) (subscriptions_in es) ≡ true
  only_one-is-on = any-on name es ∙ ap (λ (rs : List Receiver). list_any (λ (x : Receiver). true) rs) are
