-- What a subscriber saw is a subsequence of its record's posts.
use Rattle.std.proofs.Common.{◌≡◌, ℕ, zero, suc, ◌+◌, ◌<◌, Bool, true, false, cond, eqb, List, [], ◌∷◌, ◌++◌, length, take, drop, Option, Some, None, refl, sym, ap, ◌∙◌, subst, arith}
use Rattle.std.specs.Prelude.{filter, filter_map, map, option_to_list, slice_get}
use Rattle.std.specs.List.{cons_option}
use Rattle.std.proofs.lemmas.Bool.{eqb-true, eq-eqb}
use Rattle.std.proofs.lemmas.List.Elements.{filter_map-append}
use Rattle.ca_dbr.specs.declared.value.Outcome.{Outcome}
use Rattle.ca_text.specs.Place.{At}
use Rattle.ca_text.proofs.Places.{some_is, At-after, At-append, At-one}
use Rattle.ca_queue.specs.Order.{last_from, last_of}
use Rattle.ca_records.specs.Record.{RecordState}
use Rattle.ca_records.specs.Rules.{Rule}
use Rattle.ca_requests.specs.Meaning.{Means}
use Rattle.ca_wire.specs.Fields.{Fields}
use Rattle.ca_wire.specs.Messages.{mask_in}
use Rattle.ca_model.specs.Speech.{In, Stored, share_bit}
use Rattle.ca_model.specs.History.{Cause, Reply, Removal, Update, Added, Circuit, Entry, Sent, Step, Told, World}
use Rattle.ca_model.specs.Updates.{Shows}
use Rattle.ca_model.specs.Channels.{OfCircuits, updates}
use Rattle.ca_model.specs.Headline.{Follows}
use Rattle.ca_model.specs.Causes.{Accepted}
use Rattle.ca_model.specs.Known.{IsDue, IsSafe}
use Rattle.ca_model.specs.Posts.{matching, post_in}
use Rattle.ca_laws_parts.specs.Rising.{EndsIn, Rises}
use Rattle.ca_laws_parts.specs.Seen.{SeeParts, SeesPosts, is_update, is_update_of, updates_of}
use Rattle.ca_laws_parts.specs.Subsequence.{IsSubsequence}
use Rattle.ca_laws_parts.proofs.UpdatesNumbers.{AreBelow, At-take, greatest-last, none_at, part-front, part-take, pick, pick-at, pick-last, pick-length, pick-part}

-- ---- the numbers of one EVENT_ADD's updates

abbrev number_in : Cause → Option ℕ
number_in (Update number) = Some number
number_in cause = None

abbrev number_for : (k : ℕ) → ℕ × Cause → Option ℕ
number_for k u = cond (eqb u.0 k) (number_in u.1) None

-- the numbers of the updates of the EVENT_ADD at place k
abbrev numbers : (k : ℕ) → List (ℕ × Cause) → List ℕ
numbers k us = filter_map (number_for k) us

abbrev placed : Told → ℕ × Cause
placed t = (t.place, t.cause)

-- a number stands for an update
from-number : (k : ℕ) (us : List (ℕ × Cause)) (i a : ℕ) → At (numbers k us) i a → (j : ℕ) × At us j (k, Update a)
from-number k [] i a at = absurd (none_at i a at)
from-number k (u ∷ us) i a at = go (eqb u.0 k) refl u.1 refl i at (λ j h. from-number k us j a h)
  where
    go : (b : Bool) → eqb u.0 k ≡ b → (w : Cause) → u.1 ≡ w → (i : ℕ) → At (cons_option (cond b (number_in w) None) (numbers k us)) i a
        → ((i : ℕ) → At (numbers k us) i a → (j : ℕ) × At us j (k, Update a)) → (j : ℕ) × At (u ∷ us) j (k, Update a)
    go true is (Update n) cause zero h rest =
        (0, ap (λ (x : ℕ × Cause). Some x) (λ l. (eqb-true u.0 k is l, (cause ∙ ap Update (some_is n a h)) l)))
    go true is (Update n) cause (suc i) h rest = (let r = rest i h in (suc r.0, r.1))
    go true is Reply cause i h rest = (let r = rest i h in (suc r.0, r.1))
    go true is Removal cause i h rest = (let r = rest i h in (suc r.0, r.1))
    go false is w cause i h rest = (let r = rest i h in (suc r.0, r.1))

abbrev AreRising : (k : ℕ) → List (ℕ × Cause) → Type 0
AreRising k us = (i j a b : ℕ) → i < j → At us i (k, Update a) → At us j (k, Update b) → a < b

later-rise : (k : ℕ) (u : ℕ × Cause) (us : List (ℕ × Cause)) → AreRising k (u ∷ us) → AreRising k us
later-rise k u us rise i j a b lt p q = rise (suc i) (suc j) a b (omega (arith, lt)) p q

rises-numbers : (k : ℕ) (us : List (ℕ × Cause)) → AreRising k us → Rises (numbers k us)
rises-numbers k [] rise i j a b lt p q = absurd (none_at i a p)
rises-numbers k (u ∷ us) rise i j a b lt p q =
    go (eqb u.0 k) refl u.1 refl i j lt p q (λ l m less x y. rises-numbers k us (later-rise k u us rise) l m a b less x y)
  where
    go : (c : Bool) → eqb u.0 k ≡ c → (w : Cause) → u.1 ≡ w → (i j : ℕ) → i < j → At (cons_option (cond c (number_in w) None) (numbers k us)) i a → At (cons_option (cond c (number_in w) None) (numbers k us)) j b
        → ((i j : ℕ) → i < j → At (numbers k us) i a → At (numbers k us) j b → a < b) → a < b
    go true is (Update n) cause zero zero lt p q rest = absurd (omega (arith, lt))
    go true is (Update n) cause zero (suc j) lt p q rest =
        let r = from-number k us j b q in
        rise 0 (suc r.0) a b (omega arith) (ap (λ (x : ℕ × Cause). Some x) (λ l. (eqb-true u.0 k is l, (cause ∙ ap Update (some_is n a p)) l))) r.1
    go true is (Update n) cause (suc i) zero lt p q rest = absurd (omega (arith, lt))
    go true is (Update n) cause (suc i) (suc j) lt p q rest = rest i j (omega (arith, lt)) p q
    go true is Reply cause i j lt p q rest = rest i j lt p q
    go true is Removal cause i j lt p q rest = rest i j lt p q
    go false is w cause i j lt p q rest = rest i j lt p q

-- an update has its number
to-number : (k : ℕ) (us : List (ℕ × Cause)) (j a : ℕ) → At us j (k, Update a) → (i : ℕ) × At (numbers k us) i a
to-number k [] j a at = absurd (none_at j (k, Update a) at)
to-number k (u ∷ us) zero a at =
    let is : u ≡ (k, Update a) = some_is u (k, Update a) at in
    let e : number_for k u ≡ Some a =
    ap (λ (x : ℕ × Cause). number_for k x) is ∙ ap (λ (b : Bool). cond b (Some a) None) (eq-eqb k k refl) in
    (0, ap (λ (o : Option ℕ). let xs : List ℕ = cons_option o (numbers k us) in slice_get xs 0) e)
to-number k (u ∷ us) (suc j) a at = (let r = to-number k us j a at in go (number_for k u) r.0 r.1)
  where
    go : (o : Option ℕ) (i : ℕ) → At (numbers k us) i a → (i : ℕ) × At (cons_option o (numbers k us)) i a
    go (Some n) i h = (suc i, h)
    go None i h = (i, h)

-- as many as updates
count-numbers : (k : ℕ) (us : List (ℕ × Cause)) → length (numbers k us) ≡ length (filter (is_update_of k) us)
count-numbers k [] = refl
count-numbers k (u ∷ us) = go (eqb u.0 k) u.1 (count-numbers k us)
  where
    go : (b : Bool) (w : Cause) → length (numbers k us) ≡ length (filter (is_update_of k) us) → length (cons_option (cond b (number_in w) None) (numbers k us)) ≡ length (cond (cond b (is_update w) false) (u ∷ filter (is_update_of k) us) (filter (is_update_of k) us))
    go true (Update n) e = ap (λ (l : ℕ). suc l) e
    go true Reply e = e
    go true Removal e = e
    go false w e = e

count-sent : (k : ℕ) (down : List Told) → length (numbers k (map placed down)) ≡ length (updates_of k down)
count-sent k [] = refl
count-sent k (t ∷ down) = go (eqb t.place k) t.cause (count-sent k down)
  where
    go : (b : Bool) (w : Cause) → length (numbers k (map placed down)) ≡ length (updates_of k down) → length (cons_option (cond b (number_in w) None) (numbers k (map placed down))) ≡ length (cond (cond b (is_update w) false) (t ∷ updates_of k down) (updates_of k down))
    go true (Update n) e = ap (λ (l : ℕ). suc l) e
    go true Reply e = e
    go true Removal e = e
    go false w e = e

-- an update that was sent, with its number
abbrev SentAs : (k : ℕ) → List Told → (i : ℕ) → Told → Type 0
SentAs k down i t = (a j : ℕ) × At (numbers k (map placed down)) i a × At down j t × (t.place ≡ k) × (t.cause ≡ Update a)

sent-as : (k : ℕ) (down : List Told) (i : ℕ) (t : Told) → At (updates_of k down) i t → SentAs k down i t
sent-as k [] i t at = absurd (none_at i t at)
sent-as k (u ∷ down) i t at = go (eqb u.place k) refl u.cause refl i at (λ l h. sent-as k down l t h)
  where
    go : (b : Bool) → eqb u.place k ≡ b → (w : Cause) → u.cause ≡ w → (i : ℕ) → At (cond (cond b (is_update w) false) (u ∷ updates_of k down) (updates_of k down)) i t → ((i : ℕ) → At (updates_of k down) i t → SentAs k down i t)
        → (a j : ℕ) × At (cons_option (cond b (number_in w) None) (numbers k (map placed down))) i a × At (u ∷ down) j t × (t.place ≡ k) × (t.cause ≡ Update a)
    go true is (Update n) cause zero h rest =
        let e : u ≡ t = some_is u t h in
        (n, 0, refl, h, ap (λ (x : Told). x.place) (sym e) ∙ eqb-true u.place k is, ap (λ (x : Told). x.cause) (sym e) ∙ cause)
    go true is (Update n) cause (suc i) h rest = (let r = rest i h in (r.0, suc r.1, r.2, r.3, r.4, r.5))
    go true is Reply cause i h rest = (let r = rest i h in (r.0, suc r.1, r.2, r.3, r.4, r.5))
    go true is Removal cause i h rest = (let r = rest i h in (r.0, suc r.1, r.2, r.3, r.4, r.5))
    go false is w cause i h rest = (let r = rest i h in (r.0, suc r.1, r.2, r.3, r.4, r.5))

-- ---- the first of the posts

last-there : {A : Type 0} (o : Option A) (xs : List A) (i : ℕ) (x : A) → At xs i x → (v : A) × (last_from o xs ≡ Some v)
last-there o [] i x at = absurd (none_at i x at)
last-there o (y ∷ []) i x at = (y, refl)
last-there o (y ∷ z ∷ xs) i x at = last-there (Some y) (z ∷ xs) 0 z refl

mapped-in : {A B : Type 0} (f : A → Option B) (xs : List A) (i : ℕ) (x : A) (v : B) → At xs i x → f x ≡ Some v → (j : ℕ) × At (filter_map f xs) j v
mapped-in f [] i x v at is = absurd (none_at i x at)
mapped-in {A} {B} f (y ∷ xs) zero x v at is =
    (0, ap (λ (o : Option B). let ys : List B = cons_option o (filter_map f xs) in slice_get ys 0) (ap f (some_is y x at) ∙ is))
mapped-in {A} {B} f (y ∷ xs) (suc i) x v at is = (let r = mapped-in f xs i x v at is in go (f y) r.0 r.1)
  where
    go : (o : Option B) (j : ℕ) → At (filter_map f xs) j v → (j : ℕ) × At (cons_option o (filter_map f xs)) j v
    go (Some n) j h = (suc j, h)
    go None j h = (j, h)

first-post : (y : List Entry) (r : ℕ) (st : RecordState) → In y (Added r st) → (v : Stored) × (last_of (filter_map (post_in r (λ bits. true)) y) ≡ Some v)
first-post y r st h =
    let v : Stored = record { value = st.value; meta = st.meta } in
    let e : post_in r (λ bits. true) (Added r st) ≡ Some v = ap (λ (b : Bool). cond b (Some v) None) (eq-eqb r r refl) in
    let there = mapped-in (post_in r (λ bits. true)) y h.0 (Added r st) v h.1 e in
    last-there None (filter_map (post_in r (λ bits. true)) y) there.0 v there.1

value-then : (c : Circuit) (y : List Entry) (k r : ℕ) (s : Sent) (h : Step) → Accepted c y k r s h → (v : Stored) × (last_of (filter_map (post_in r (λ bits. true)) (take h.logged y)) ≡ Some v)
value-then c y k r s h ok =
    let acted = ok.5 in
    let has = acted.6.0.9 in
    let g = acted.6.0.2 in
    let in_it : In (take acted.1.logged y) (Added r has.0) = (has.1.0, At-take g.logged (take acted.1.logged y) has.1.0 (Added r has.0) has.1.1) in
    let same : acted.1 ≡ h = At-one c.handled k acted.1 h acted.5 ok.4 in
    first-post (take h.logged y) r has.0 (subst (λ (z : Step). In (take z.logged y) (Added r has.0)) same in_it)

-- ---- all together

module _ (Due : ℕ → Circuit → List Entry → Fields → List Fields → Option Fields → List Entry → Type 0) (Means : Fields → Outcome → Type 0) where
  sees-posts : (c : Circuit) (y : List Entry) (k r : ℕ) (s : Sent) (h : Step) → Accepted c y k r s h → Follows Due Shows Means c y k r s (matching y h.logged r (mask_in s.message)) → SeesPosts c y k r s h
  sees-posts c y k r s h ok f =
      let posts : List Stored = matching y h.logged r (mask_in s.message) in
      let down : List ℕ = numbers k (map placed c.down) in
      let wait : List ℕ = numbers k c.queued in
      let split : numbers k (updates c) ≡ down ++ wait = filter_map-append (number_for k) (map placed c.down) c.queued in
      let below : AreBelow (numbers k (updates c)) (length posts) = λ i a at. f.matches a (from-number k (updates c) i a at) in
      let rise : Rises (numbers k (updates c)) = rises-numbers k (updates c) f.rising in
      let below_both : AreBelow (down ++ wait) (length posts) = subst (λ (ns : List ℕ). AreBelow ns (length posts)) split below in
      let below_down : AreBelow down (length posts) = λ i a at. below_both i a (At-append down wait i a at) in
      let below_wait : AreBelow wait (length posts) = λ i a at. below_both (length down + i) a (At-after down wait i a at) in
      let parts : pick posts (numbers k (updates c)) ≡ pick posts down ++ pick posts wait =
      ap (λ (ns : List ℕ). pick posts ns) split ∙ filter_map-append (λ (n : ℕ). slice_get posts n) down wait in
      let whole : IsSubsequence (pick posts down ++ pick posts wait) posts =
      subst (λ (xs : List Stored). IsSubsequence xs posts) parts (pick-part posts (numbers k (updates c)) below rise) in
      let first = value-then c y k r s h ok in
      record {
        sent = pick posts down;
        queued = pick posts wait;
        each = pick-length posts down below_down ∙ count-sent k c.down;
        shows = λ i t v at here.
            let a = sent-as k c.down i t at in
            let b = pick-at posts down i v below_down here in
            let shown = f.shows a.1 a.0 t a.3 a.4 a.5 in
            let number : b.0 ≡ a.0 = At-one down i b.0 a.0 b.1 a.2 in
            let value : shown.0 ≡ v = At-one posts a.0 shown.0 v shown.1 (subst (λ (n : ℕ). At posts n v) number b.2) in
            subst (λ (z : Stored). Shows s.message z t.message) value shown.2;
        wait = pick-length posts wait below_wait ∙ count-numbers k c.queued;
        posts = posts;
        are = refl;
        first = first.0;
        was = first.1;
        begins = ap (λ (o : Option Stored). option_to_list o ++ filter_map (post_in r (share_bit (mask_in s.message))) (drop h.logged y)) first.1;
        part = whole;
        read = λ n. part-take n (pick posts down) posts (part-front (pick posts down) (pick posts wait) posts whole);
        newest = λ lasts.
            let newest = f.newest lasts in
            let there = to-number k (updates c) newest.1.0 newest.0 newest.1.1 in
            let ends : EndsIn (numbers k (updates c)) newest.0 =
            greatest-last (numbers k (updates c)) newest.0 there.0 rise (λ i a at. (let lt : a < length posts = below i a at in let e : newest.0 + 1 ≡ length posts = newest.2 in omega (arith, lt, e))) there.1 in
            ap (λ (xs : List Stored). last_of xs) (sym parts) ∙ pick-last posts (numbers k (updates c)) newest.0 newest.2 ends;
      }

pub safe-sees : (ports : ℕ → ℕ) (rules : ℕ → List Rule) (w : World) → IsSafe ports rules w → OfCircuits w SeeParts
safe-sees ports rules w safe n c at =
    let f = safe.sees.0 n c at in
    (f.0, f.1, f.2, λ k r s h ok. sees-posts (IsDue ports rules) Means c f.1 k r s h ok (f.3 k r s h ok))
