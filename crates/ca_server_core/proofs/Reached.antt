-- A post that goes from one circuit that watches a record to the next has reached all.
use Rattle.std.proofs.Common.{◌≡◌, ℕ, zero, suc, ◌+◌, ◌<◌, ◌≤◌, ◌⊎◌, inl, inr, Bool, true, false, cond, nat_eq, ◌||◌, ◌&&◌, List, [], ◌∷◌, length, slice_get, Option, Some, None, filter, map, refl, sym, ap, ◌∙◌, subst, arith}
use Rattle.std.specs.List.{fold, list_any}
use Rattle.std.specs.Str.{bytes_eq}
use Rattle.std.proofs.lemmas.Bool.{eq-eqb, eqb-true}
use Rattle.std.proofs.lemmas.Slice.Eq.{bytes_eq-Decides}
use Rattle.ca_arena.specs.declared.handle.Handle.{Handle}
use Rattle.ca_ids.specs.Table.{Table, same_handle, under, with_changed, with_each}
use Rattle.ca_queue.specs.Circuit.{queue_posted}
use Rattle.ca_queue.specs.Queue.{Queue}
use Rattle.ca_records.specs.declared.puts.Put.{Put}
use Rattle.ca_records.specs.Puts.{Record, withdrawn}
use Rattle.ca_records.specs.Record.{RecordState}
use Rattle.ca_records.specs.Store.{HasAt, Store, records_of}
use Rattle.ca_text.specs.Place.{At}
use Rattle.ca_text.proofs.Places.{At-one, At-within, some_is}
use Rattle.ca_server_watchers.specs.Watching.{AreApart, IsAmong, LeavesAt, OthersStay, Watched, line_of, watching}
use Rattle.ca_model.specs.Ends as why
use Rattle.ca_model.specs.Server.{Ended, Open, ServerCircuit, ServerEnd, Subscription, concerns, key_of, with_post}
use Rattle.ca_model.specs.ServerSteps.{is_concerned, reached}
use Rattle.ca_model.specs.Speech.{In, Stored, share_bit}
use Rattle.ca_server_core.specs.Covering.{Covers, watches_under}
use Rattle.ca_server_circuit.specs.Ending.{KeepsPlaces, WithdrawsAll}
use Rattle.ca_server_circuit.specs.Posting.{PostsAt, posted}
use Rattle.ca_server_core.specs.Reaching.{PostsIn, ReachesAll, ReachesFrom, ReachesNext, ReachesOne}
use Rattle.ca_server_circuit.specs.Sound.{EndIsSound}
use Rattle.ca_server_core.specs.Sound.{IsSound}
use Rattle.ca_server_circuit.specs.Subscribing.{events_of}
use Rattle.ca_server_subscriptions.specs.Subscribed.{HasRoom, is_on}
use Rattle.ca_server_circuit.proofs.Cleared.{is-same, same-is}
use Rattle.ca_server_core.proofs.Closing.{sound-ended}
use Rattle.ca_server_core.proofs.Covered.{covers-left, covers-thinned, thins-changed, thins-ended}
use Rattle.ca_server_core.proofs.Each.{each-back, each-ext, each-one-more, under-each, withdrawn-both}
use Rattle.ca_server_core.proofs.Servers.{became, stayed}
use Rattle.ca_server_core.proofs.Sounds.{sound-changed}
use Rattle.ca_server_core.proofs.Stepped.{each-same, none-gone}
use Rattle.ca_server_circuit.proofs.Walking.{keeps-both, keeps-same}

abbrev Circuits : Type 0
Circuits = Table ServerCircuit

both : {A : Type 0} (b : Bool) → b ≡ true → b ≡ false → A
both true p q = absurd cc
both false p q = absurd cc

-- the circuit is one of these
abbrev is_listed : Handle → List Handle → Bool
is_listed h ds = list_any (same_handle h) ds

or-false : (a b : Bool) → (a || b) ≡ false → (a ≡ false) × (b ≡ false)
or-false true b is = absurd cc
or-false false b is = (refl, is)

or-true : (a b : Bool) → (a || b) ≡ true → (a ≡ true) ⊎ (b ≡ true)
or-true true b is = inl refl
or-true false b is = inr is

or-right : (a b : Bool) → b ≡ true → (a || b) ≡ true
or-right true b is = refl
or-right false b is = is

or-left : (a b : Bool) → a ≡ true → (a || b) ≡ true
or-left true b is = refl
or-left false b is = absurd cc

-- ---- who is not concerned is as before

no-filter : {A : Type 0} (test : A → Bool) (xs : List A) → list_any test xs ≡ false → filter test xs ≡ []
no-filter test [] none = refl
no-filter {A} test (x ∷ xs) none =
    let parts = or-false (test x) (list_any test xs) none in
    ap (λ (b : Bool). cond b (x ∷ filter test xs) (filter test xs)) parts.0 ∙ no-filter test xs parts.1

pub unreached : (name : List ℕ) (mask : ℕ) (v : Stored) (gone : Handle → Bool) (h : Handle) (c : ServerCircuit) → gone h ≡ false → is_concerned name mask c ≡ false → reached name mask v gone h c ≡ c
unreached name mask v gone h (Open e) stays none =
    ap (λ (b : Bool). cond b (Ended why.OutOfMemory e.link.output) (Open (with_post name mask v e))) stays
    ∙ ap (λ (ss : List Subscription). let new : ServerEnd = record e { queues = fold (λ (qs : List (Queue Stored)) (s : Subscription). map (queue_posted (key_of s) v) qs) e.queues ss } in Open new) (no-filter (concerns name mask) e.subscriptions none)
unreached name mask v gone h (Ended w left) stays none = refl

module _ (name : List ℕ) (mask : ℕ) (v : Stored) where
  abbrev passed : List Handle → (Handle → Bool) → Handle → ServerCircuit → ServerCircuit
  passed ds gone h c = cond (is_listed h ds) (reached name mask v gone h c) c

  -- the post has reached these circuits, but for those that ended
  pub record Walked (ds : List Handle) (gone : Handle → Bool) (t : Circuits) (s : Store) (after : Circuits) (u : Store) : Type 0 where
    pub may : (h : Handle) → gone h ≡ true → (c : ServerCircuit) × (under t h ≡ Some c) × (is_concerned name mask c ≡ true)
    pub only : (h : Handle) → gone h ≡ true → is_listed h ds ≡ true
    pub circuits : after ≡ with_each (passed ds gone) t
    pub records : records_of u ≡ withdrawn (λ (p : Put). gone p.circuit) (records_of s)
    pub rules : u.rules ≡ s.rules
    pub stamp : u.stamp ≡ s.stamp
    pub places : KeepsPlaces s u

  no-true : {A : Type 0} → false ≡ true → A
  no-true e = absurd cc

  walked-none : (t : Circuits) (s : Store) → Walked [] (λ (h : Handle). false) t s t s
  walked-none t s = record {
    may = λ h e. no-true e;
    only = λ h e. no-true e;
    circuits = sym (each-same (passed [] (λ (h : Handle). false)) 0 t (λ i p c at is h. refl));
    records = sym (none-gone (records_of s));
    rules = refl;
    stamp = refl;
    places = keeps-same s;
  }

  module _ (ds : List Handle) (gone : Handle → Bool) (t : Circuits) (s : Store) (after : Circuits) (u : Store) (w : Walked ds gone t s after u) (h : Handle) (new_one : is_listed h ds ≡ false) where
    stays : gone h ≡ false
    stays = by (gone h) refl
      where
        by : (b : Bool) → gone h ≡ b → gone h ≡ false
        by true is = both (is_listed h ds) (w.only h is) new_one
        by false is = is

    -- what is there was there at the beginning
    fresh : (c : ServerCircuit) → under after h ≡ Some c → under t h ≡ Some c
    fresh c is =
        let b = each-back (passed ds gone) t h c (sym (ap (λ (x : Circuits). under x h) w.circuits) ∙ is) in
        let same : c ≡ b.0 = b.2 ∙ ap (λ (x : Bool). cond x (reached name mask v gone h b.0) b.0) new_one in
        b.1 ∙ ap (λ (x : ServerCircuit). Some x) (sym same)

    first-of : (g : Handle) (c : ServerCircuit) (to : Handle → Bool) → (g ≡ h → ⊥) → passed (h ∷ ds) to g c ≡ passed ds to g c
    first-of g c to other = ap (λ (b : Bool). cond (b || is_listed g ds) (reached name mask v to g c) c) (not-it (same_handle g h) refl)
      where
        not-it : (b : Bool) → same_handle g h ≡ b → same_handle g h ≡ false
        not-it true hit = absurd (other (same-is g h hit))
        not-it false miss = miss

    own-of : (c : ServerCircuit) (to : Handle → Bool) → passed (h ∷ ds) to h c ≡ reached name mask v to h c
    own-of c to = ap (λ (b : Bool). cond (b || is_listed h ds) (reached name mask v to h c) c) (is-same h h refl)

    -- it is not there, or not concerned
    pub walked-past : (last : Circuits) (x : Store) → last ≡ after → x ≡ u → ((c : ServerCircuit) → under t h ≡ Some c → is_concerned name mask c ≡ false) → Walked (h ∷ ds) gone t s last x
    walked-past last x same is none =
        subst (λ (y : Circuits). Walked (h ∷ ds) gone t s y x) (sym same) (subst (λ (y : Store). Walked (h ∷ ds) gone t s after y) (sym is) (record {
          may = w.may;
          only = λ g e. or-right (same_handle g h) (is_listed g ds) (w.only g e);
          circuits = w.circuits ∙ each-ext (passed ds gone) (passed (h ∷ ds) gone) t (λ g c at. by g c at (same_handle g h) refl);
          records = w.records;
          rules = w.rules;
          stamp = w.stamp;
          places = w.places;
        }))
      where
        by : (g : Handle) (c : ServerCircuit) → under t g ≡ Some c → (b : Bool) → same_handle g h ≡ b → passed ds gone g c ≡ passed (h ∷ ds) gone g c
        by g c at false miss = sym (first-of g c gone (λ e. both (same_handle g h) (is-same g h e) miss))
        by g c at true hit =
            let same : g ≡ h = same-is g h hit in
            subst (λ (k : Handle). passed ds gone k c ≡ passed (h ∷ ds) gone k c) (sym same)
            (ap (λ (b : Bool). cond b (reached name mask v gone h c) c) new_one ∙ sym (unreached name mask v gone h c stays (none c (subst (λ (k : Handle). under t k ≡ Some c) same at))) ∙ sym (own-of c gone))

    -- it has its updates
    pub walked-on : (last : Circuits) (x : Store) (e : ServerEnd) → under after h ≡ Some (Open e) → last ≡ with_changed (λ (c : ServerCircuit). Open (with_post name mask v e)) h after → x ≡ u → Walked (h ∷ ds) gone t s last x
    walked-on last x e there changed is =
        subst (λ (y : Store). Walked (h ∷ ds) gone t s last y) (sym is) (record {
          may = w.may;
          only = λ g e. or-right (same_handle g h) (is_listed g ds) (w.only g e);
          circuits = changed
              ∙ ap (λ (y : Circuits). with_changed (λ (c : ServerCircuit). Open (with_post name mask v e)) h y) w.circuits
              ∙ each-one-more (passed ds gone) (passed (h ∷ ds) gone) t h (Open e) (Open (with_post name mask v e)) (fresh (Open e) there)
              (own-of (Open e) gone ∙ ap (λ (b : Bool). cond b (Ended why.OutOfMemory e.link.output) (Open (with_post name mask v e))) stays) (λ k c at other. sym (first-of k c gone other));
          records = w.records;
          rules = w.rules;
          stamp = w.stamp;
          places = w.places;
        })

    -- it ended out of memory
    pub walked-out : (last : Circuits) (x : Store) (e : ServerEnd) → under after h ≡ Some (Open e) → is_concerned name mask (Open e) ≡ true → last ≡ with_changed (λ (c : ServerCircuit). Ended why.OutOfMemory e.link.output) h after → WithdrawsAll h u x
        → Walked (h ∷ ds) (λ (g : Handle). gone g || same_handle g h) t s last x
    walked-out last x e there concerned changed taken = record {
      may = λ g is. elim (or-true (gone g) (same_handle g h) is) [
        | inl old ↦ w.may g old
        | inr own ↦ (Open e, subst (λ (k : Handle). under t k ≡ Some (Open e)) (sym (same-is g h own)) (fresh (Open e) there), concerned)
      ];
      only = λ g is. elim (or-true (gone g) (same_handle g h) is) [
        | inl old ↦ or-right (same_handle g h) (is_listed g ds) (w.only g old)
        | inr own ↦ or-left (same_handle g h) (is_listed g ds) own
      ];
      circuits = changed
          ∙ ap (λ (y : Circuits). with_changed (λ (c : ServerCircuit). Ended why.OutOfMemory e.link.output) h y) w.circuits
          ∙ each-one-more (passed ds gone) (passed (h ∷ ds) to) t h (Open e) (Ended why.OutOfMemory e.link.output) (fresh (Open e) there)
          (own-of (Open e) to ∙ ap (λ (b : Bool). cond b (Ended why.OutOfMemory e.link.output) (Open (with_post name mask v e))) (or-right (gone h) (same_handle h h) (is-same h h refl)))
          (λ k c at other. others k c other);
      records = taken.records ∙ ap (λ (rs : List Record). withdrawn (λ (p : Put). same_handle p.circuit h) rs) w.records ∙ withdrawn-both (λ (p : Put). same_handle p.circuit h) (λ (p : Put). gone p.circuit) (records_of s);
      rules = taken.rules ∙ w.rules;
      stamp = taken.stamp ∙ w.stamp;
      places = keeps-both s u x w.places taken.places;
    }
      where
        to : Handle → Bool
        to g = gone g || same_handle g h

        not-it : (g : Handle) → (g ≡ h → ⊥) → (b : Bool) → same_handle g h ≡ b → same_handle g h ≡ false
        not-it g other true hit = absurd (other (same-is g h hit))
        not-it g other false miss = miss

        or-none : (a b : Bool) → b ≡ false → (a || b) ≡ a
        or-none true b is = refl
        or-none false b is = is

        reached-ext : (g : Handle) (c : ServerCircuit) → to g ≡ gone g → reached name mask v gone g c ≡ reached name mask v to g c
        reached-ext g (Open z) is = ap (λ (b : Bool). cond b (Ended why.OutOfMemory z.link.output) (Open (with_post name mask v z))) (sym is)
        reached-ext g (Ended y left) is = refl

        others : (g : Handle) (c : ServerCircuit) → (g ≡ h → ⊥) → passed ds gone g c ≡ passed (h ∷ ds) to g c
        others g c other =
            ap (λ (z : ServerCircuit). cond (is_listed g ds) z c) (reached-ext g c (or-none (gone g) (same_handle g h) (not-it g other (same_handle g h) refl)))
            ∙ sym (first-of g c to other)

  -- the post has reached all, if those that it has not reached are not concerned
  pub walked-all : (ds : List Handle) (gone : Handle → Bool) (t : Circuits) (s : Store) (after : Circuits) (u : Store) → Walked ds gone t s after u → ((h : Handle) (c : ServerCircuit) → under t h ≡ Some c → is_listed h ds ≡ false → is_concerned name mask c ≡ false) → ReachesAll name mask v gone t s after u
  walked-all ds gone t s after u w none = record {
    may = w.may;
    circuits = w.circuits ∙ each-ext (passed ds gone) (reached name mask v gone) t (λ h c at. by h c at (is_listed h ds) refl);
    records = w.records;
    rules = w.rules;
    stamp = w.stamp;
    places = w.places;
  }
    where
      out : (h : Handle) → is_listed h ds ≡ false → (b : Bool) → gone h ≡ b → gone h ≡ false
      out h miss true is = both (is_listed h ds) (w.only h is) miss
      out h miss false is = is

      by : (h : Handle) (c : ServerCircuit) → under t h ≡ Some c → (b : Bool) → is_listed h ds ≡ b → passed ds gone h c ≡ reached name mask v gone h c
      by h c at true hit = ap (λ (b : Bool). cond b (reached name mask v gone h c) c) hit
      by h c at false miss = ap (λ (b : Bool). cond b (reached name mask v gone h c) c) miss ∙ sym (unreached name mask v gone h c (out h miss (gone h) refl) (none h c at miss))

-- ---- the walk

abbrev stored : Record → Stored
stored r = record { value = r.state.value; meta = r.state.meta }

-- A post to the record at a place, which has reached those that watch it from the last
-- to the one at place k.
pub record Walk (place mask : ℕ) (w0 : Watched) (t0 : Circuits) (s0 : Store) (k : ℕ) (w : Watched) (t : Circuits) (s : Store) : Type 0 where
  pub r : Record
  pub at : HasAt s0 place r
  pub here : (q : Record) × HasAt s place q × (q.state ≡ r.state)
  pub apart : AreApart (watching w0 r.state.name)
  pub same : (i : ℕ) → i < k → slice_get (watching w r.state.name) i ≡ slice_get (watching w0 r.state.name) i
  pub ds : List Handle
  pub all : (i : ℕ) (h : Handle) → At (watching w0 r.state.name) i h → k ≤ i → is_listed h ds ≡ true
  pub those : (h : Handle) → is_listed h ds ≡ true → (i : ℕ) × At (watching w0 r.state.name) i h × (k ≤ i)
  pub gone : Handle → Bool
  pub walked : Walked r.state.name mask (stored r) ds gone t0 s0 t s
  pub sound : IsSound (records_of s) t
  pub covered : Covers w t
  pub stay : OthersStay r.state.name w0 w

pub walk-begins : (place mask k : ℕ) (w : Watched) (t : Circuits) (s : Store) (r : Record) → HasAt s place r → AreApart (watching w r.state.name) → k ≡ length (watching w r.state.name) → IsSound (records_of s) t → Covers w t → Walk place mask w t s k w t s
walk-begins place mask k w t s r at apart is sound covered = record {
  r = r;
  at = at;
  here = (r, at, refl);
  apart = apart;
  same = λ i lt. refl;
  ds = [];
  all = λ i h there le. (let lt = At-within (watching w r.state.name) i h there in absurd (omega (arith, lt, le, is)));
  those = λ h e. no-true r.state.name mask (stored r) e;
  gone = λ (h : Handle). false;
  walked = walked-none r.state.name mask (stored r) t s;
  sound = sound;
  covered = covered;
  stay = λ other miss. refl;
}

pub there-is : (s : Store) (place : ℕ) (r q : Record) → HasAt s place r → HasAt s place q → r ≡ q
there-is s place r q a b = some_is r q (At-one s.slots place (Some r) (Some q) a b)

-- an end after a post, by what the record has
posted-is : (r q : Record) (mask : ℕ) (e : ServerEnd) → q.state ≡ r.state → posted q mask e ≡ with_post r.state.name mask (stored r) e
posted-is r q mask e is = ap (λ (x : RecordState). with_post x.name mask (record { value = x.value; meta = x.meta }) e) is

pub unwatched : (name : List ℕ) (mask : ℕ) (c : ServerCircuit) → watches_under name (Some c) ≡ false → is_concerned name mask c ≡ false
unwatched name mask (Ended w left) none = refl
unwatched name mask (Open e) none = by e.subscriptions none
  where
    both-false : (a b c : Bool) → a ≡ false → c ≡ false → ((a && b) || c) ≡ false
    both-false true b c x y = absurd cc
    both-false false b c x y = y

    by : (ss : List Subscription) → list_any (is_on name) ss ≡ false → list_any (concerns name mask) ss ≡ false
    by [] miss = refl
    by (x ∷ ss) miss =
        let parts = or-false (bytes_eq x.name name) (list_any (is_on name) ss) miss in
        both-false (bytes_eq x.name name) (share_bit mask x.mask) (list_any (concerns name mask) ss) parts.0 (by ss parts.1)

module _ (place mask : ℕ) (w0 : Watched) (t0 : Circuits) (s0 : Store) (k : ℕ) (w : Watched) (t : Circuits) (s : Store) (a : Walk place mask w0 t0 s0 k w t s) (j : ℕ) (is : j + 1 ≡ k) where
  abbrev name : List ℕ
  name = a.r.state.name

  abbrev hs : List Handle
  hs = watching w0 a.r.state.name

  lower : (i : ℕ) → i < j → i < k
  lower i lt = omega (arith, lt, is)

  -- the next one was none of those before
  next-new : (h : Handle) → At hs j h → is_listed h a.ds ≡ false
  next-new h at = by (is_listed h a.ds) refl
    where
      by : (b : Bool) → is_listed h a.ds ≡ b → is_listed h a.ds ≡ false
      by false miss = miss
      by true hit =
          let o = a.those h hit in
          let e : o.0 ≡ j = a.apart o.0 j h h o.1 at refl in
          let le : k ≤ o.0 = o.2 in
          absurd (omega (arith, e, le, is))

  -- those that were reached, with one more
  more-all : (h : Handle) → At hs j h → (i : ℕ) (g : Handle) → At hs i g → j ≤ i → is_listed g (h ∷ a.ds) ≡ true
  more-all h at i g there le = by (nat_eq i j) refl
    where
      past : (i j k : ℕ) → j + 1 ≡ k → j ≤ i → (i ≡ j → ⊥) → k ≤ i
      past zero zero k e le ne = absurd (ne refl)
      past zero (suc j) k e le ne = absurd (omega (arith, le))
      past (suc i) zero k e le ne = omega (arith, e)
      past (suc i) (suc j) zero e le ne = absurd (omega (arith, e))
      past (suc i) (suc j) (suc k) e le ne = (let x : k ≤ i = past i j k (omega (arith, e)) (omega (arith, le)) (λ z. ne (ap (λ (n : ℕ). suc n) z)) in omega (arith, x))

      by : (b : Bool) → nat_eq i j ≡ b → is_listed g (h ∷ a.ds) ≡ true
      by true hit =
          let same : i ≡ j = eqb-true i j hit in
          or-left (same_handle g h) (is_listed g a.ds) (is-same g h (some_is g h (sym there ∙ ap (λ (n : ℕ). slice_get hs n) same ∙ at)))
      by false miss =
          or-right (same_handle g h) (is_listed g a.ds) (a.all i g there (past i j k is le (λ e. both (nat_eq i j) (eq-eqb i j e) miss)))

  more-those : (h : Handle) → At hs j h → (g : Handle) → is_listed g (h ∷ a.ds) ≡ true → (i : ℕ) × At hs i g × (j ≤ i)
  more-those h at g listed = elim (or-true (same_handle g h) (is_listed g a.ds) listed) [
    | inl own ↦ (j, subst (λ (x : Handle). At hs j x) (sym (same-is g h own)) at, le-same j)
    | inr old ↦ (let o = a.those g old in let le : k ≤ o.0 = o.2 in (o.0, o.1, omega (arith, le, is)))
  ]
    where
      le-same : (n : ℕ) → n ≤ n
      le-same n = omega arith

  abbrev Next : Watched → Circuits → Store → Type 0
  Next v after u = Walk place mask w0 t0 s0 j v after u

  -- nobody is there
  next-none : (v : Watched) (after : Circuits) (u : Store) → slice_get (watching w name) j ≡ None → v ≡ w → after ≡ t → u ≡ s → Next v after u
  next-none v after u none vw at us =
      subst (λ (x : Watched). Next x after u) (sym vw) (subst (λ (x : Circuits). Next w x u) (sym at) (subst (λ (x : Store). Next w t x) (sym us) (record {
        r = a.r;
        at = a.at;
        here = a.here;
        apart = a.apart;
        same = λ i lt. a.same i (lower i lt);
        ds = a.ds;
        all = λ i h there le. a.all i h there (past i h there le);
        those = λ h e. (let o = a.those h e in let le : k ≤ o.0 = o.2 in (o.0, o.1, omega (arith, le, is)));
        gone = a.gone;
        walked = a.walked;
        sound = a.sound;
        covered = a.covered;
        stay = a.stay;
      })))
    where
      not-some : {A : Type 0} (h : Handle) → (let none : Option Handle = None in none ≡ Some h) → A
      not-some h e = absurd cc

      past : (i : ℕ) (h : Handle) → At hs i h → j ≤ i → k ≤ i
      past i h there le = by (nat_eq i j) refl
        where
          up : (i j k : ℕ) → j + 1 ≡ k → j ≤ i → (i ≡ j → ⊥) → k ≤ i
          up zero zero k e le ne = absurd (ne refl)
          up zero (suc j) k e le ne = absurd (omega (arith, le))
          up (suc i) zero k e le ne = omega (arith, e)
          up (suc i) (suc j) zero e le ne = absurd (omega (arith, e))
          up (suc i) (suc j) (suc k) e le ne = (let x : k ≤ i = up i j k (omega (arith, e)) (omega (arith, le)) (λ z. ne (ap (λ (n : ℕ). suc n) z)) in omega (arith, x))

          by : (b : Bool) → nat_eq i j ≡ b → k ≤ i
          by true hit = not-some h (sym (sym (a.same j (omega (arith, is))) ∙ none) ∙ sym (ap (λ (n : ℕ). slice_get hs n) (eqb-true i j hit)) ∙ there)
          by false miss = up i j k is le (λ e. both (nat_eq i j) (eq-eqb i j e) miss)

  module _ (h : Handle) (listed : At (watching w name) j h) where
    at-first : At hs j h
    at-first = sym (a.same j (omega (arith, is))) ∙ listed

    new_one : is_listed h a.ds ≡ false
    new_one = next-new h at-first

    -- what was there is there now
    there-now : (c : ServerCircuit) → under t0 h ≡ Some c → under t h ≡ Some c
    there-now c was =
        ap (λ (x : Circuits). under x h) a.walked.circuits ∙ under-each (passed name mask (stored a.r) a.ds a.gone) t0 h c was
        ∙ ap (λ (b : Bool). Some (cond b (reached name mask (stored a.r) a.gone h c) c)) new_one

    -- the walk with one more
    pub with-more : (v : Watched) (after : Circuits) (u : Store) (gone : Handle → Bool) → ((q : Record) × HasAt u place q × (q.state ≡ a.r.state)) → ((i : ℕ) → i < j → slice_get (watching v name) i ≡ slice_get (watching w name) i)
        → Walked name mask (stored a.r) (h ∷ a.ds) gone t0 s0 after u → IsSound (records_of u) after → Covers v after → OthersStay name w v → Next v after u
    with-more v after u gone here same walked sound covered stay = record {
      r = a.r;
      at = a.at;
      here = here;
      apart = a.apart;
      same = λ i lt. same i lt ∙ a.same i (lower i lt);
      ds = h ∷ a.ds;
      all = more-all h at-first;
      those = more-those h at-first;
      gone = gone;
      walked = walked;
      sound = sound;
      covered = covered;
      stay = λ other miss. stay other miss ∙ a.stay other miss;
    }

    same-lines : (v : Watched) → v ≡ w → OthersStay name w v
    same-lines v same other miss = ap (λ (x : Watched). line_of x other) same

    -- it has no subscription on the record
    next-forgotten : (v : Watched) (after : Circuits) (u : Store) → watches_under name (under t h) ≡ false → LeavesAt name j w v → after ≡ t → u ≡ s → Next v after u
    next-forgotten v after u none l at us =
        with-more v after u a.gone (subst (λ (x : Store). (q : Record) × HasAt x place q × (q.state ≡ a.r.state)) (sym us) a.here) l.leaves.before
        (walked-past name mask (stored a.r) a.ds a.gone t0 s0 t s a.walked h new_one after u at us (λ c was. unwatched name mask c (ap (λ (o : Option ServerCircuit). watches_under name o) (sym (there-now c was)) ∙ none)))
        (subst (λ (x : Circuits). IsSound (records_of u) x) (sym at) (subst (λ (x : Store). IsSound (records_of x) t) (sym us) a.sound))
        (subst (λ (x : Circuits). Covers v x) (sym at) (covers-left w v t name j h l listed none a.covered))
        l.stay

    next-posted : (v : Watched) (after : Circuits) (u : Store) → PostsIn t h place mask s after u → v ≡ w → Next v after u
    next-posted v after u (inr none) vw =
        with-more v after u a.gone (subst (λ (x : Store). (q : Record) × HasAt x place q × (q.state ≡ a.r.state)) (sym none.2) a.here) (λ i lt. ap (λ (x : Watched). slice_get (watching x name) i) vw)
        (walked-past name mask (stored a.r) a.ds a.gone t0 s0 t s a.walked h new_one after u none.1 none.2 (λ c was. not-there c (sym none.0 ∙ there-now c was)))
        (subst (λ (x : Circuits). IsSound (records_of u) x) (sym none.1) (subst (λ (x : Store). IsSound (records_of x) t) (sym none.2) a.sound))
        (subst (λ (x : Watched). Covers x after) (sym vw) (subst (λ (x : Circuits). Covers w x) (sym none.1) a.covered))
        (same-lines v vw)
      where
        not-there : {A : Type 0} (c : ServerCircuit) → (let none : Option ServerCircuit = None in none ≡ Some c) → A
        not-there c e = absurd cc
    next-posted v after u (inl g) vw = by g.0 g.1 g.2 g.3 g.4
      where
        still : (i : ℕ) → i < j → slice_get (watching v name) i ≡ slice_get (watching w name) i
        still i lt = ap (λ (x : Watched). slice_get (watching x name) i) vw

        state-of : (q : Record) → HasAt s place q → q.state ≡ a.r.state
        state-of q at = ap (λ (x : Record). x.state) (there-is s place q a.here.0 at a.here.1) ∙ a.here.2

        by : (c new : ServerCircuit) → under t h ≡ Some c → PostsAt h place mask c s new u → after ≡ with_changed (λ (x : ServerCircuit). new) h t → Next v after u
        by (Ended y left) new there p changed =
            let same : after ≡ t = stayed t after h new (Ended y left) there changed p.0 in
            with-more v after u a.gone (subst (λ (x : Store). (q : Record) × HasAt x place q × (q.state ≡ a.r.state)) (sym p.1) a.here) still
            (walked-past name mask (stored a.r) a.ds a.gone t0 s0 t s a.walked h new_one after u same p.1 (λ c was. subst (λ (x : ServerCircuit). is_concerned name mask x ≡ false) (some_is (Ended y left) c (sym there ∙ there-now c was)) refl))
            (subst (λ (x : Circuits). IsSound (records_of u) x) (sym same) (subst (λ (x : Store). IsSound (records_of x) t) (sym p.1) a.sound))
            (subst (λ (x : Watched). Covers x after) (sym vw) (subst (λ (x : Circuits). Covers w x) (sym same) a.covered))
            (same-lines v vw)
        by (Open e) new there (q, at, inl p) changed =
            let st = state-of q at in
            let is_new = p.0 ∙ ap (λ (x : ServerEnd). Open x) (posted-is a.r q mask e st) in
            let became_it = became t after h new (Open (with_post name mask (stored a.r) e)) changed is_new in
            let o = a.sound.ends h e there in
            let room = subst (λ (x : ServerEnd). HasRoom (events_of x)) (posted-is a.r q mask e st) p.1 in
            let end_sound : EndIsSound (records_of s) h (with_post name mask (stored a.r) e) = record { live = o.live; room = room; served = o.served; puts = o.puts; on = o.on; few = o.few } in
            with-more v after u a.gone (subst (λ (x : Store). (q : Record) × HasAt x place q × (q.state ≡ a.r.state)) (sym p.2) a.here) still
            (walked-on name mask (stored a.r) a.ds a.gone t0 s0 t s a.walked h new_one after u e there became_it p.2)
            (subst (λ (x : Circuits). IsSound (records_of u) x) (sym became_it) (subst (λ (x : Store). IsSound (records_of x) (with_changed (λ (c : ServerCircuit). Open (with_post name mask (stored a.r) e)) h t)) (sym p.2) (sound-changed (records_of s) t h e (with_post name mask (stored a.r) e) a.sound there end_sound)))
            (subst (λ (x : Watched). Covers x after) (sym vw) (subst (λ (x : Circuits). Covers w x) (sym became_it) (covers-thinned w t _ (thins-changed t h e (with_post name mask (stored a.r) e) there (λ x i. i) (λ n c. c)) a.covered)))
            (same-lines v vw)
        by (Open e) new there (q, at, inr p) changed =
            let st = state-of q at in
            let concerned = subst (λ (x : RecordState). is_concerned x.name mask (Open e) ≡ true) st p.0 in
            let became_it = became t after h new (Ended why.OutOfMemory e.link.output) changed p.1 in
            let kept = p.2.places place a.here.0 a.here.1 in
            with-more v after u (λ (g : Handle). a.gone g || same_handle g h) (kept.0, kept.1, kept.2 ∙ a.here.2) still
            (walked-out name mask (stored a.r) a.ds a.gone t0 s0 t s a.walked h new_one after u e there concerned became_it p.2)
            (subst (λ (x : Circuits). IsSound (records_of u) x) (sym became_it) (subst (λ (rs : List Record). IsSound rs (with_changed (λ (c : ServerCircuit). Ended why.OutOfMemory e.link.output) h t)) (sym p.2.records) (sound-ended (records_of s) t h why.OutOfMemory e.link.output a.sound)))
            (subst (λ (x : Watched). Covers x after) (sym vw) (subst (λ (x : Circuits). Covers w x) (sym became_it) (covers-thinned w t _ (thins-ended t h why.OutOfMemory e.link.output) a.covered)))
            (same-lines v vw)

    next-one : (v : Watched) (after : Circuits) (u : Store) → ReachesOne name place mask j h (watches_under name (under t h)) w t s v after u → Next v after u
    next-one v after u one = by (watches_under name (under t h)) refl one
      where
        by : (b : Bool) → watches_under name (under t h) ≡ b → ReachesOne name place mask j h b w t s v after u → Next v after u
        by true hit one = next-posted v after u one.0 one.1
        by false miss one = next-forgotten v after u miss one.0 one.1 one.2

  pub walk-next : (v : Watched) (after : Circuits) (u : Store) → ReachesNext place mask j w t s v after u → Next v after u
  walk-next v after u (q, at, did) =
      let st : q.state ≡ a.r.state = ap (λ (x : Record). x.state) (there-is s place q a.here.0 at a.here.1) ∙ a.here.2 in
      elim (subst (λ (x : RecordState).
      ((h : Handle) × At (watching w x.name) j h × ReachesOne x.name place mask j h (watches_under x.name (under t h)) w t s v after u)
      ⊎ ((slice_get (watching w x.name) j ≡ None) × (v ≡ w) × (after ≡ t) × (u ≡ s))) st did) [
        | inl one ↦ next-one one.0 one.1 v after u one.2
        | inr none ↦ next-none v after u none.0 none.1 none.2 none.3
      ]

-- nobody is left: all were reached
pub walk-ends : (place mask : ℕ) (w0 : Watched) (t0 : Circuits) (s0 : Store) (k : ℕ) (w : Watched) (t : Circuits) (s : Store) → k ≡ 0 → Covers w0 t0 → Walk place mask w0 t0 s0 k w t s → ReachesFrom place mask t0 s0 t s
walk-ends place mask w0 t0 s0 k w t s done covers a =
    (a.r, a.at, (a.gone, walked-all a.r.state.name mask (stored a.r) a.ds a.gone t0 s0 t s a.walked (λ h c at miss. by h c at miss (is_concerned a.r.state.name mask c) refl)))
  where
    and-left : (a b : Bool) → (a && b) ≡ true → a ≡ true
    and-left true b is = refl
    and-left false b is = absurd cc

    some-on : (ss : List Subscription) → list_any (concerns a.r.state.name mask) ss ≡ true → (x : Subscription) × In ss x × (bytes_eq x.name a.r.state.name ≡ true)
    some-on [] hit = absurd cc
    some-on (x ∷ ss) hit = elim (or-true (concerns a.r.state.name mask x) (list_any (concerns a.r.state.name mask) ss) hit) [
      | inl here ↦ (x, (0, refl), and-left (bytes_eq x.name a.r.state.name) (share_bit mask x.mask) here)
      | inr later ↦ (let r = some-on ss later in (r.0, (suc r.1.0, r.1.1), r.2))
    ]

    by : (h : Handle) (c : ServerCircuit) → under t0 h ≡ Some c → is_listed h a.ds ≡ false → (b : Bool) → is_concerned a.r.state.name mask c ≡ b → is_concerned a.r.state.name mask c ≡ false
    by h c at miss false is = is
    by h (Ended y left) at miss true is = absurd cc
    by h (Open e) at miss true is =
        let x = some-on e.subscriptions is in
        let same : x.0.name ≡ a.r.state.name = (bytes_eq-Decides x.0.name a.r.state.name).0 x.2 in
        let among = subst (λ (n : List ℕ). IsAmong (watching w0 n) h) same (covers h e x.0 at x.1) in
        both (is_listed h a.ds) (a.all among.0 h among.1 (omega (arith, done))) miss
