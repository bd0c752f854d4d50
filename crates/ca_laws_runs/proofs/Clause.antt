-- The statement's clause of updates, of each subscription that is at an open end.
use Rattle.std.proofs.Common.{◌≡◌, ℕ, zero, suc, ◌<◌, Bool, true, false, cond, eqb, eq-eqb, eqb-true, ne_eqb, ◌||◌, List, [], ◌∷◌, ◌++◌, length, Option, Some, None, refl, sym, ap, subst, ◌∙◌, append-nil, arith}
use Rattle.std.specs.Prelude.{filter_map, map}
use Rattle.std.specs.List.{cons_option}
use Rattle.std.proofs.lemmas.List.Elements.{filter_map-append}
use Rattle.ca_dbr.specs.declared.value.Outcome.{Outcome}
use Rattle.ca_queue.specs.declared.entry.SubKey.{SubKey}
use Rattle.ca_queue.specs.Images.{images, queue_images}
use Rattle.ca_queue.specs.Keys.{is_among, same}
use Rattle.ca_queue.specs.Queue.{Queue}
use Rattle.ca_queue.specs.Waiting.{entries_of}
use Rattle.ca_queue.proofs.Keys.{same_is, same_itself}
use Rattle.ca_text.specs.Place.{At}
use Rattle.ca_text.proofs.Places.{some_is, At-last, At-mapped, At-one}
use Rattle.ca_wire.specs.Fields.{Fields}
use Rattle.ca_wire.specs.Messages.{mask_in}
use Rattle.ca_model.specs.History.{Cause, Circuit, Entry, Removal, Reply, Told, Update}
use Rattle.ca_model.specs.Server.{ServerEnd, Subscription}
use Rattle.ca_model.specs.Speech.{In, Stored}
use Rattle.ca_model.specs.Updates.{Shows, ShowsTo}
use Rattle.ca_model.specs.Channels.{updates}
use Rattle.ca_model.specs.Headline as headline
use Rattle.ca_model.specs.Posts.{matching}
use Rattle.ca_model.specs.ServerEvents.{number_of}
use Rattle.ca_model.specs.World.{Joined, RecordSide, Standing, World, circuit_of, port_of, rules_of, waiting_in}
use Rattle.ca_laws_parts.specs.InStep.{Numbered, number_in}
use Rattle.ca_laws_parts.specs.Rising.{Rises}
use Rattle.ca_laws_parts.proofs.WritesLists.{beside-right, both-at, none_at}
use Rattle.ca_model.specs.Known.{IsDue}
use Rattle.ca_requests.specs.Meaning as meaning
use Rattle.ca_laws_runs.specs.Clause.{StandingFollow}
use Rattle.ca_laws_runs.specs.Follows.{AllFollow, Follows, Stands, posts_by}
use Rattle.ca_laws_runs.specs.Holds.{Counts, sent_numbers, stamp_of}
use Rattle.ca_laws_runs.specs.Holds as number
use Rattle.ca_laws_runs.proofs.Counting.{key-once, rising-below}
use Rattle.ca_laws_runs.proofs.PostFollowing.{logged-is}

-- ---- numbers of one EVENT_ADD

abbrev number-of : (k : ℕ) → ℕ × Cause → Option ℕ
number-of k u = cond (eqb u.0 k) (number.number_of u.1) None

abbrev numbers : (k : ℕ) → List (ℕ × Cause) → List ℕ
numbers k us = filter_map (number-of k) us

to-number : (k : ℕ) (us : List (ℕ × Cause)) (j a : ℕ) → At us j (k, Update a) → (i : ℕ) × At (numbers k us) i a
to-number k [] j a at = absurd (none_at j (k, Update a) at)
to-number k (u ∷ us) zero a at =
    let is : u ≡ (k, Update a) = some_is u (k, Update a) at in
    let e : number-of k u ≡ Some a = ap (λ (x : ℕ × Cause). number-of k x) is ∙ ap (λ (b : Bool). cond b (Some a) None) (eq-eqb k k refl) in
    (0, subst (λ (o : Option ℕ). At (cons_option o (numbers k us)) 0 a) (sym e) refl)
to-number k (u ∷ us) (suc j) a at = (let r = to-number k us j a at in go (number-of k u) r.0 r.1)
  where
    go : (o : Option ℕ) (i : ℕ) → At (numbers k us) i a → (i : ℕ) × At (cons_option o (numbers k us)) i a
    go (Some n) i h = (suc i, h)
    go None i h = (i, h)

from-number : (k : ℕ) (us : List (ℕ × Cause)) (i a : ℕ) → At (numbers k us) i a → (j : ℕ) × At us j (k, Update a)
from-number k [] i a at = absurd (none_at i a at)
from-number k (u ∷ us) i a at = go (eqb u.0 k) refl u.1 refl i at (λ j h. from-number k us j a h)
  where
    go : (b : Bool) → eqb u.0 k ≡ b → (w : Cause) → u.1 ≡ w → (i : ℕ) → At (cons_option (cond b (number.number_of w) None) (numbers k us)) i a
        → ((i : ℕ) → At (numbers k us) i a → (j : ℕ) × At us j (k, Update a)) → (j : ℕ) × At (u ∷ us) j (k, Update a)
    go true is (Update n) cause zero h rest =
        (0, ap (λ (x : ℕ × Cause). Some x) (λ l. (eqb-true u.0 k is l, (cause ∙ ap Update (some_is n a h)) l)))
    go true is (Update n) cause (suc i) h rest = (let r = rest i h in (suc r.0, r.1))
    go true is Reply cause i h rest = (let r = rest i h in (suc r.0, r.1))
    go true is Removal cause i h rest = (let r = rest i h in (suc r.0, r.1))
    go false is w cause i h rest = (let r = rest i h in (suc r.0, r.1))

-- numbers that rise are of updates in order
rises-rest : (x : ℕ) (xs : List ℕ) → Rises (x ∷ xs) → Rises xs
rises-rest x xs rise i j a b lt p q = rise (suc i) (suc j) a b (omega (arith, lt)) p q

in-order : (k : ℕ) (us : List (ℕ × Cause)) → Rises (numbers k us) → (i j a b : ℕ) → i < j → At us i (k, Update a) → At us j (k, Update b) → a < b
in-order k [] rise i j a b lt p q = absurd (none_at i (k, Update a) p)
in-order k (u ∷ us) rise i zero a b lt p q = absurd (omega (arith, lt))
in-order k (u ∷ us) rise zero (suc j) a b lt p q =
    let is : u ≡ (k, Update a) = some_is u (k, Update a) p in
    let e : number-of k u ≡ Some a = ap (λ (x : ℕ × Cause). number-of k x) is ∙ ap (λ (y : Bool). cond y (Some a) None) (eq-eqb k k refl) in
    let later = to-number k us j b q in
    subst (λ (o : Option ℕ). Rises (cons_option o (numbers k us))) e rise 0 (suc later.0) a b (omega arith) refl later.1
in-order k (u ∷ us) rise (suc i) (suc j) a b lt p q = go (number-of k u) rise (λ r. in-order k us r i j a b (omega (arith, lt)) p q)
  where
    go : (o : Option ℕ) → Rises (cons_option o (numbers k us)) → (Rises (numbers k us) → a < b) → a < b
    go (Some n) r rest = rest (rises-rest n (numbers k us) r)
    go None r rest = rest r

-- ---- what was sent, and what waits

sent-are : (k : ℕ) (down : List Told) → numbers k (map (λ (t : Told). let u : ℕ × Cause = (t.place, t.cause) in u) down) ≡ sent_numbers k down
sent-are k [] = refl
sent-are k (t ∷ down) = ap (λ (l : List ℕ). cons_option (cond (eqb t.place k) (number.number_of t.cause) None) l) (sent-are k down)

-- of a queue in which the place is that of this key alone
queue-numbers : (k : ℕ) (key : SubKey) (q : List (SubKey × Numbered)) → ((w : SubKey × Numbered) → In q w → eqb w.1.place k ≡ same key w.0)
    → numbers k (map (λ (w : SubKey × (ℕ × Cause)). w.1) (images number_in q)) ≡ map (λ (n : Numbered). n.number) (entries_of key q)
queue-numbers k key [] alike = refl
queue-numbers k key (w ∷ q) alike =
    ap (λ (b : Bool). cons_option (cond b (Some w.1.number) None) (numbers k (map (λ (x : SubKey × (ℕ × Cause)). x.1) (images number_in q)))) (alike w (0, refl))
    ∙ go (same key w.0) (queue-numbers k key q (λ x at. alike x (suc at.0, at.1)))
  where
    go : (b : Bool) → numbers k (map (λ (x : SubKey × (ℕ × Cause)). x.1) (images number_in q)) ≡ map (λ (n : Numbered). n.number) (entries_of key q)
        → cons_option (cond b (Some w.1.number) None) (numbers k (map (λ (x : SubKey × (ℕ × Cause)). x.1) (images number_in q))) ≡ map (λ (n : Numbered). n.number) (cond b (w.1 ∷ entries_of key q) (entries_of key q))
    go true rest = ap (λ (l : List ℕ). w.1.number ∷ l) rest
    go false rest = rest

-- and of all queues: those of the one that has the key
all-numbers : (k : ℕ) (key : SubKey) (qs : List (Queue Numbered)) (home : ℕ) (q : Queue Numbered) → At qs home q → ((i : ℕ) (x : Queue Numbered) → At qs i x → (w : SubKey × Numbered) → In x.waiting w → eqb w.1.place k ≡ same key w.0)
    → ((i : ℕ) (x : Queue Numbered) → At qs i x → (i ≡ home → ⊥) → entries_of key x.waiting ≡ []) → numbers k (waiting_in (map (queue_images number_in) qs)) ≡ map (λ (n : Numbered). n.number) (entries_of key q.waiting)
all-numbers k key [] home q at alike others = absurd (none_at home q at)
all-numbers k key (x ∷ qs) home q at alike others = split ∙ go home at others (λ h a o. all-numbers k key qs h q a (λ i z there. alike (suc i) z there) o)
  where
    mine : List ℕ
    mine = map (λ (n : Numbered). n.number) (entries_of key x.waiting)

    rest : List ℕ
    rest = numbers k (waiting_in (map (queue_images number_in) qs))

    split : numbers k (waiting_in (map (queue_images number_in) (x ∷ qs))) ≡ mine ++ rest
    split =
        filter_map-append (number-of k) (map (λ (w : SubKey × (ℕ × Cause)). w.1) (images number_in x.waiting)) (waiting_in (map (queue_images number_in) qs))
        ∙ ap (λ (l : List ℕ). l ++ rest) (queue-numbers k key x.waiting (alike 0 x refl))

    tail-none : (zs : List (Queue Numbered)) → ((i : ℕ) (z : Queue Numbered) → At zs i z → (w : SubKey × Numbered) → In z.waiting w → eqb w.1.place k ≡ same key w.0) → ((i : ℕ) (z : Queue Numbered) → At zs i z → entries_of key z.waiting ≡ [])
        → numbers k (waiting_in (map (queue_images number_in) zs)) ≡ []
    tail-none [] each none = refl
    tail-none (z ∷ zs) each none =
        filter_map-append (number-of k) (map (λ (w : SubKey × (ℕ × Cause)). w.1) (images number_in z.waiting)) (waiting_in (map (queue_images number_in) zs))
        ∙ ap (λ (l : List ℕ). l ++ numbers k (waiting_in (map (queue_images number_in) zs))) (queue-numbers k key z.waiting (each 0 z refl) ∙ ap (λ (l : List Numbered). map (λ (n : Numbered). n.number) l) (none 0 z refl))
        ∙ tail-none zs (λ i y there. each (suc i) y there) (λ i y there. none (suc i) y there)

    go : (h : ℕ) → At (x ∷ qs) h q → ((i : ℕ) (z : Queue Numbered) → At (x ∷ qs) i z → (i ≡ h → ⊥) → entries_of key z.waiting ≡ [])
        → ((h : ℕ) → At qs h q → ((i : ℕ) (z : Queue Numbered) → At qs i z → (i ≡ h → ⊥) → entries_of key z.waiting ≡ []) → rest ≡ map (λ (n : Numbered). n.number) (entries_of key q.waiting))
        → mine ++ rest ≡ map (λ (n : Numbered). n.number) (entries_of key q.waiting)
    go zero a o more =
        ap (λ (l : List ℕ). mine ++ l) (tail-none qs (λ i z there. alike (suc i) z there) (λ i z there. o (suc i) z there (λ e. absurd (omega (arith, e)))))
        ∙ append-nil mine ∙ ap (λ (z : Queue Numbered). map (λ (n : Numbered). n.number) (entries_of key z.waiting)) (some_is x q a)
    go (suc h) a o more =
        ap (λ (l : List Numbered). map (λ (n : Numbered). n.number) l ++ rest) (o 0 x refl (λ e. absurd (omega (arith, e))))
        ∙ more h a (λ i z there apart. o (suc i) z there (λ e. apart (let f : suc i ≡ suc h = e in omega (arith, f))))

-- ---- a subscription that stands

clash : (b : Bool) → b ≡ true → b ≡ false → ⊥
clash true e f = cc
clash false e f = cc

standing-of : (ss : List Standing) (k : SubKey) → is_among k (map (λ (s : Standing). s.key) ss) ≡ true → (i : ℕ) × (s : Standing) × At ss i s × (same k s.key ≡ true)
standing-of [] k among = absurd cc
standing-of (x ∷ ss) k among = go (same k x.key) refl among (λ h. standing-of ss k h)
  where
    go : (b : Bool) → same k x.key ≡ b → b || is_among k (map (λ (s : Standing). s.key) ss) ≡ true → (is_among k (map (λ (s : Standing). s.key) ss) ≡ true → (i : ℕ) × (s : Standing) × At ss i s × (same k s.key ≡ true)) → (i : ℕ) × (s : Standing) × At (x ∷ ss) i s × (same k s.key ≡ true)
    go true is more rest = (0, x, refl, is)
    go false is more rest = (let r = rest more in (suc r.0, r.1, r.2, r.3))

entry-in : (q : List (SubKey × Numbered)) (w : SubKey × Numbered) → In q w → (i : ℕ) × At (entries_of w.0 q) i w.1
entry-in [] w (i, at) = absurd (none_at i w at)
entry-in (x ∷ q) w (zero, at) =
    let is : x ≡ w = some_is x w at in
    subst (λ (z : SubKey × Numbered). (i : ℕ) × At (entries_of z.0 (x ∷ q)) i z.1) is
    (0, subst (λ (b : Bool). At (cond b (x.1 ∷ entries_of x.0 q) (entries_of x.0 q)) 0 x.1) (sym (same_itself x.0)) refl)
entry-in (x ∷ q) w (suc i, at) = (let r = entry-in q w (i, at) in go (same w.0 x.0) r)
  where
    go : (b : Bool) → ((i : ℕ) × At (entries_of w.0 q) i w.1) → (i : ℕ) × At (cond b (x.1 ∷ entries_of w.0 q) (entries_of w.0 q)) i w.1
    go true r = (suc r.0, r.1)
    go false r = r

module _ (Due : ℕ → Circuit → List Entry → Fields → List Fields → Option Fields → List Entry → Type 0) (Means : Fields → Outcome → Type 0) where
  -- Each subscription that stands follows its record, as the statement says of its EVENT_ADD.
  pub clause-of : (log : List Entry) (rs : List RecordSide) (e : ServerEnd) (c : Joined) (p : Follows log rs e c) (i : ℕ) (sub : Subscription) (st : Standing) (a : At e.subscriptions i sub) (b : At c.standing i st) (s : Stands log rs e c sub st)
      → headline.Follows Due Shows Means (circuit_of c) log st.place (number_of sub.name rs) s.s (matching log s.h.logged (number_of sub.name rs) (mask_in s.s.message))
  clause-of log rs e c p i sub st a b s = record {
    rising = in-order st.place (updates (circuit_of c)) (subst (λ (l : List ℕ). Rises l) (sym numbers-are) n.numbers.rising.rise);
    matches = λ x there.
        let m = to-number st.place (updates (circuit_of c)) there.0 x there.1 in
        let lt : x < st.posts = rising-below stamp st.key gone st.posts n.numbers.q n.numbers.rising m.0 x (subst (λ (l : List ℕ). At l m.0 x) numbers-are m.1) in
        let is : st.posts ≡ length (posts_by log rs c.lists.handled sub st.place) = n.counts in
        let same_posts : length (posts_by log rs c.lists.handled sub st.place) ≡ length posts = ap (λ (l : List Stored). length l) posts-are in
        omega (arith, lt, is, same_posts);
    shows = λ j x t at there cause.
        let v = n.shows j x t at there cause in
        (v.0, subst (λ (l : List Stored). At l x v.0) posts-are v.1, subst (λ (z : Subscription). ShowsTo z.wanted v.0 t.message) s.by v.2);
    newest = λ lasts.
        let newest : ℕ = n.numbers.rising.newest in
        let whole : gone ++ n.numbers.rising.wait ≡ n.numbers.rising.ends.front ++ newest ∷ [] = n.numbers.rising.ends.is in
        let last : At (numbers st.place (updates (circuit_of c))) (length n.numbers.rising.ends.front) newest = subst (λ (l : List ℕ). At l (length n.numbers.rising.ends.front) newest) (sym (numbers-are ∙ whole)) (At-last n.numbers.rising.ends.front newest) in
        (newest, from-number st.place (updates (circuit_of c)) (length n.numbers.rising.ends.front) newest last, sym n.numbers.rising.next_is ∙ n.counts ∙ ap (λ (l : List Stored). length l) posts-are);
  }
    where
      posts : List Stored
      posts = matching log s.h.logged (number_of sub.name rs) (mask_in s.s.message)

      n : Counts (posts_by log rs c.lists.handled) c.lists.down p.holds.both sub st
      n = both-at (Counts (posts_by log rs c.lists.handled) c.lists.down p.holds.both) e.subscriptions c.standing i sub st p.holds.each a b

      posts-are : posts_by log rs c.lists.handled sub st.place ≡ posts
      posts-are =
          ap (λ (l : ℕ). matching log l (number_of sub.name rs) sub.mask) (logged-is c.lists.handled st.place s.h s.handled)
          ∙ ap (λ (z : Subscription). matching log s.h.logged (number_of sub.name rs) z.mask) s.by

      stamp : ℕ → Numbered
      stamp = stamp_of n.other (posts_by log rs c.lists.handled sub st.place) st.place

      gone : List ℕ
      gone = sent_numbers st.place c.lists.down

      -- what waits under a key is of the one that is under it
      placed-at : (k : ℕ) (x : Queue Numbered) → At p.holds.both k x → (w : SubKey × Numbered) → In x.waiting w → (j : ℕ) × (z : Standing) × At c.standing j z × (same w.0 z.key ≡ true) × (w.1.place ≡ z.place)
      placed-at k x at w there =
          let x_has : is_among w.0 x.subscriptions ≡ true = member (is_among w.0 x.subscriptions) refl in
          let st2 = standing-of c.standing w.0 (p.holds.seats k x w.0 at x_has) in
          let m = beside-right (Counts (posts_by log rs c.lists.handled) c.lists.down p.holds.both) e.subscriptions c.standing st2.0 st2.1 p.holds.each st2.2 in
          let key : w.0 ≡ (st2.1).key = same_is w.0 (st2.1).key st2.3 in
          let home : k ≡ m.2.numbers.home = m.2.numbers.elsewhere k x at (subst (λ (y : SubKey). is_among y x.subscriptions ≡ true) key x_has) in
          let queue : m.2.numbers.q ≡ x = At-one p.holds.both m.2.numbers.home m.2.numbers.q x m.2.numbers.at (subst (λ (y : ℕ). At p.holds.both y x) home at) in
          let entry = entry-in x.waiting w there in
          let stamped : At (map (stamp_of m.2.other (posts_by log rs c.lists.handled m.0 (st2.1).place) (st2.1).place) m.2.numbers.rising.wait) entry.0 w.1 =
          subst (λ (l : List Numbered). At l entry.0 w.1) (ap (λ (y : Queue Numbered). entries_of (st2.1).key y.waiting) (sym queue) ∙ m.2.numbers.rising.are) (subst (λ (y : SubKey). At (entries_of y x.waiting) entry.0 w.1) key entry.1) in
          let of = At-mapped (stamp_of m.2.other (posts_by log rs c.lists.handled m.0 (st2.1).place) (st2.1).place) m.2.numbers.rising.wait entry.0 w.1 stamped in
          (st2.0, st2.1, st2.2, st2.3, ap (λ (y : Numbered). y.place) of.2)
        where
          none-at-all : (j : ℕ) → At (entries_of w.0 x.waiting) j w.1 → entries_of w.0 x.waiting ≡ [] → ⊥
          none-at-all j h is = none_at j w.1 (subst (λ (l : List Numbered). At l j w.1) is h)

          member : (y : Bool) → is_among w.0 x.subscriptions ≡ y → is_among w.0 x.subscriptions ≡ true
          member true is = is
          member false is = (let r = entry-in x.waiting w there in absurd (none-at-all r.0 r.1 (p.holds.tidy k x w.0 at is)))

      alike : (k : ℕ) (x : Queue Numbered) → At p.holds.both k x → (w : SubKey × Numbered) → In x.waiting w → eqb w.1.place st.place ≡ same st.key w.0
      alike k x at w there = go (same st.key w.0) refl (placed-at k x at w there)
        where
          go : (y : Bool) → same st.key w.0 ≡ y → (j : ℕ) × (z : Standing) × At c.standing j z × (same w.0 z.key ≡ true) × (w.1.place ≡ z.place) → eqb w.1.place st.place ≡ y
          go true is z =
              let one : i ≡ z.0 = key-once c.standing i z.0 st z.1 p.holds.apart b z.2 (ap (λ (y : SubKey). same y (z.1).key) (same_is st.key w.0 is) ∙ z.3) in
              let same_st : st ≡ z.1 = At-one c.standing z.0 st z.1 (subst (λ (y : ℕ). At c.standing y st) one b) z.2 in
              eq-eqb w.1.place st.place (z.4 ∙ ap (λ (y : Standing). y.place) (sym same_st))
          go false is z =
              ne_eqb w.1.place st.place
              (λ places.
              let one : i ≡ z.0 = p.holds.lone i z.0 st z.1 b z.2 (sym places ∙ z.4) in
              let same_st : st ≡ z.1 = At-one c.standing z.0 st z.1 (subst (λ (y : ℕ). At c.standing y st) one b) z.2 in
              clash (same st.key w.0) (ap (λ (y : Standing). same y.key w.0) same_st ∙ ap (λ (y : SubKey). same y w.0) (sym (same_is w.0 (z.1).key z.3)) ∙ same_itself w.0) is)

      elsewhere : (k : ℕ) (x : Queue Numbered) → At p.holds.both k x → (k ≡ n.numbers.home → ⊥) → entries_of st.key x.waiting ≡ []
      elsewhere k x at apart = go (is_among st.key x.subscriptions) refl
        where
          go : (y : Bool) → is_among st.key x.subscriptions ≡ y → entries_of st.key x.waiting ≡ []
          go true is = absurd (apart (n.numbers.elsewhere k x at is))
          go false is = p.holds.tidy k x st.key at is

      stamped-numbers : (ns : List ℕ) → map (λ (x : Numbered). x.number) (map stamp ns) ≡ ns
      stamped-numbers [] = refl
      stamped-numbers (x ∷ ns) = ap (λ (l : List ℕ). x ∷ l) (stamped-numbers ns)

      numbers-are : numbers st.place (updates (circuit_of c)) ≡ gone ++ n.numbers.rising.wait
      numbers-are =
          filter_map-append (number-of st.place) (map (λ (t : Told). let u : ℕ × Cause = (t.place, t.cause) in u) c.lists.down) (waiting_in c.queues)
          ∙ ap (λ (l : List ℕ). l ++ numbers st.place (waiting_in c.queues)) (sent-are st.place c.lists.down)
          ∙ ap (λ (l : List ℕ). gone ++ l)
          (ap (λ (qs : List (Queue (ℕ × Cause))). numbers st.place (waiting_in qs)) p.holds.numbers_are
          ∙ all-numbers st.place st.key p.holds.both n.numbers.home n.numbers.q n.numbers.at alike elsewhere
          ∙ ap (λ (l : List Numbered). map (λ (x : Numbered). x.number) l) n.numbers.rising.are
          ∙ stamped-numbers n.numbers.rising.wait)

pub standing-follow : (w : World) → AllFollow w → StandingFollow w
standing-follow w all n c y e log i sub st at there opened has logged a b =
    let p = all n c y e log at there opened has logged in
    let s = both-at (Stands log y.records e c) e.subscriptions c.standing i sub st p.placed a b in
    (s.s, s.h, s.sent, s.asks, s.handled, clause-of (IsDue (port_of w) (rules_of w)) meaning.Means log y.records e c p i sub st a b s)
