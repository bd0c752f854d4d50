-- An update that leaves its queue, what the queue of numbers beside it gives, and its memory.
use Rattle.std.proofs.Common.{◌≡◌, ℕ, zero, suc, ◌+◌, ◌<◌, ◌≤◌, inl, inr, Bool, true, false, cond, List, [], ◌∷◌, Option, Some, None, length, refl, sym, ap, subst, ◌∙◌, arith}
use Rattle.std.specs.Prelude.{Vec, map, slice_set}
use Rattle.std.specs.declared.alloc.Global.{Global}
use Rattle.std.proofs.lemmas.Bool.Decides.{leb_tells}
use Rattle.std.proofs.lemmas.List.{length-map}
use Rattle.ca_queue.specs.declared.entry.SubKey.{SubKey}
use Rattle.ca_queue.specs.Circuit.{RestBefore, Takes}
use Rattle.ca_queue.specs.Images.{image_if, images, queue_images}
use Rattle.ca_queue.specs.Queue.{Queue, with_front_taken}
use Rattle.ca_queue.specs.Waiting.{after_take, front, may_take, taken}
use Rattle.ca_queue.proofs.Images.{front_taken_images, taken_images}
use Rattle.ca_queue.proofs.Circuits.{set-here, set-map}
use Rattle.ca_text.specs.Limits.{output_limit}
use Rattle.ca_text.specs.Place.{At}
use Rattle.ca_text.proofs.Places.{At-map, At-mapped, At-one, At-set, At-set-other, At-within, some_is}
use Rattle.ca_model.specs.Server.{ServerEnd, Subscription, key_of}
use Rattle.ca_model.specs.ServerSteps.{Leaves, Rests, Update}
use Rattle.ca_model.specs.Speech.{In, Stored}
use Rattle.ca_world_data.specs.Does.{GivesSome}
use Rattle.ca_world_data.specs.Updates.{AreRoomsFor, HaveRooms, IsRoomFor, WaitAlike, bare, how_many}

abbrev blank : {E : Type 0} → E → Unit {0}
blank e = tt

-- ---- queues in which the same waits

module _ {E F : Type 0} (es : List (Queue E)) (fs : List (Queue F)) (alike : WaitAlike es fs) where
  -- beside each is one
  beside : (n : ℕ) (q : Queue E) → At es n q → (r : Queue F) × At fs n r × (queue_images blank q ≡ queue_images blank r)
  beside n q at =
      let there : At (bare fs) n (queue_images blank q) = subst (λ (bs : List (Queue (Unit {0}))). At bs n (queue_images blank q)) alike (At-map (queue_images blank) es n q at) in
      At-mapped (queue_images blank) fs n (queue_images blank q) there

-- without what they carry entries are the same, whatever is seen of each
bare-waiting : {E F : Type 0} (f : E → F) (q : List (SubKey × E)) → images (blank {E = F}) (images f q) ≡ images (blank {E = E}) q
bare-waiting f [] = refl
bare-waiting f (w ∷ q) = ap (λ (t : List (SubKey × Unit {0})). (w.0, tt) ∷ t) (bare-waiting f q)

pub bare-images : {E F : Type 0} (f : E → F) (qs : List (Queue E)) → bare (map (queue_images f) qs) ≡ bare qs
bare-images f [] = refl
bare-images f (q ∷ qs) = λ i. record { waiting = bare-waiting f q.waiting i; subscriptions = q.subscriptions; events_on = q.events_on } ∷ bare-images f qs i

-- what the one gives the other gives, but for what it carries
same-taken : {E F : Type 0} (q : Queue E) (r : Queue F) → queue_images blank q ≡ queue_images blank r → image_if blank (taken q.events_on q.waiting) ≡ image_if blank (taken r.events_on r.waiting)
same-taken q r same =
    sym (taken_images blank q.events_on q.waiting)
    ∙ ap (λ (b : Queue (Unit {0})). taken b.events_on b.waiting) same
    ∙ taken_images blank r.events_on r.waiting

none-given : {E : Type 0} (o : Option (SubKey × E)) → image_if blank o ≡ None → o ≡ None
none-given None is = refl
none-given (Some w) is = absurd cc

-- the first that gives something is the same in both
same-place : {E F : Type 0} (es : List (Queue E)) (fs : List (Queue F)) → WaitAlike es fs → (n k : ℕ) (q : Queue E) (r : Queue F) (w : SubKey × E) (v : SubKey × F) → At es n q → RestBefore es n → taken q.events_on q.waiting ≡ Some w
    → At fs k r → RestBefore fs k → taken r.events_on r.waiting ≡ Some v → n ≡ k
same-place es fs alike n k q r w v at rest gives here quiet shows = elim (leb_tells (suc n) k) [
  | inl before ↦ absurd (below before.1)
  | inr other ↦ elim (leb_tells (suc k) n) [ inl behind ↦ absurd (above behind.1) | inr level ↦ omega (arith, other.1, level.1) ]
]
  where
    -- what gives in the one cannot rest in the other
    below : suc n ≤ k → ⊥
    below lt =
        let s = beside es fs alike n q at in
        let none : taken (s.0).events_on (s.0).waiting ≡ None = quiet n s.0 (omega (arith, lt)) s.1 in
        let both : taken q.events_on q.waiting ≡ None = none-given (taken q.events_on q.waiting) (same-taken q s.0 s.2 ∙ ap (image_if blank) none) in
        (let wrong = sym gives ∙ both in cc)

    above : suc k ≤ n → ⊥
    above lt =
        let s = beside fs es (sym alike) k r here in
        let none : taken (s.0).events_on (s.0).waiting ≡ None = rest k s.0 (omega (arith, lt)) s.1 in
        let both : taken r.events_on r.waiting ≡ None = none-given (taken r.events_on r.waiting) (same-taken r s.0 s.2 ∙ ap (image_if blank) none) in
        (let wrong = sym shows ∙ both in cc)

-- one of them gives something if the other does
some-there : {E : Type 0} (o : Option (SubKey × E)) (v : SubKey × Unit {0}) → image_if blank o ≡ Some v → (w : SubKey × E) × (o ≡ Some w)
some-there None v is = absurd cc
some-there (Some w) v is = (w, refl)

pub some-given : {E F : Type 0} (es : List (Queue E)) (fs : List (Queue F)) → WaitAlike es fs → GivesSome es → GivesSome fs
some-given {E} {F} es fs alike (n, q, w, at, gives) =
    let s = beside es fs alike n q at in
    let r : Queue F = s.0 in
    let some = some-there (taken r.events_on r.waiting) (w.0, tt) (sym (same-taken q r s.2) ∙ ap (image_if blank) gives) in
    (n, r, some.0, s.1, some.1)

-- they do not both rest and give
not-all-rest : {E F : Type 0} (es : List (Queue E)) (fs : List (Queue F)) → WaitAlike es fs → (n : ℕ) (q : Queue E) (w : SubKey × E) → At es n q → taken q.events_on q.waiting ≡ Some w → RestBefore fs (length fs) → ⊥
not-all-rest es fs alike n q w at gives rest =
    let s = beside es fs alike n q at in
    let none : taken (s.0).events_on (s.0).waiting ≡ None = rest n s.0 (At-within fs n s.0 s.1) s.1 in
    let both : taken q.events_on q.waiting ≡ None = none-given (taken q.events_on q.waiting) (same-taken q s.0 s.2 ∙ ap (image_if blank) none) in
    (let wrong = sym gives ∙ both in cc)

-- as many queues are in both, and as many entries wait
pub as-many : {E F : Type 0} (es : List (Queue E)) (fs : List (Queue F)) → WaitAlike es fs → length es ≡ length fs
as-many es fs alike = sym (length-map es (queue_images blank)) ∙ ap (λ (bs : List (Queue (Unit {0}))). length bs) alike ∙ length-map fs (queue_images blank)

bare-long : {E : Type 0} (ws : List (SubKey × E)) → length (images blank ws) ≡ length ws
bare-long [] = refl
bare-long (w ∷ ws) = ap (λ (n : ℕ). suc n) (bare-long ws)

pub as-long : {E F : Type 0} (es : List (Queue E)) (fs : List (Queue F)) → WaitAlike es fs → (n : ℕ) (q : Queue E) (r : Queue F) → At es n q → At fs n r → length q.waiting ≡ length r.waiting
as-long es fs alike n q r at here =
    let s = beside es fs alike n q at in
    let one : queue_images blank q ≡ queue_images blank r = s.2 ∙ ap (queue_images blank) (At-one fs n s.0 r s.1 here) in
    sym (bare-long q.waiting) ∙ ap (λ (b : Queue (Unit {0})). length b.waiting) one ∙ bare-long r.waiting

-- once the fronts of two that are beside each other are gone, the same waits
alike-taken : {E F : Type 0} (es : List (Queue E)) (fs : List (Queue F)) → WaitAlike es fs → (n : ℕ) (q : Queue E) (r : Queue F) → At es n q → At fs n r
    → WaitAlike (slice_set es n (with_front_taken q)) (slice_set fs n (with_front_taken r))
alike-taken es fs alike n q r at here =
    let s = beside es fs alike n q at in
    let one : queue_images blank q ≡ queue_images blank r = s.2 ∙ ap (queue_images blank) (At-one fs n s.0 r s.1 here) in
    set-map (queue_images blank) es n (with_front_taken q)
    ∙ (λ i. slice_set (alike i) n ((sym (front_taken_images blank q) ∙ ap (λ (b : Queue (Unit {0})). with_front_taken b) one ∙ front_taken_images blank r) i))
    ∙ sym (set-map (queue_images blank) fs n (with_front_taken r))

-- ---- the memory

-- how much there is, once the first of a list is gone
pub fewer : (rooms : List (List (Vec ℕ Global))) (n : ℕ) (room : Vec ℕ Global) (left : List (Vec ℕ Global)) → At rooms n (room ∷ left) → how_many rooms ≡ how_many (slice_set rooms n left) + 1
fewer [] n room left at = absurd cc
fewer (own ∷ rooms) zero room left at = (let long : length own ≡ length (room ∷ left) = ap (λ (l : List (Vec ℕ Global)). length l) (some_is own (room ∷ left) at) in omega (arith, long))
fewer (own ∷ rooms) (suc n) room left at = (let more = fewer rooms n room left at in omega (arith, more))

-- a queue gives its front
given-front : {E : Type 0} (on : Bool) (q : List (SubKey × E)) (w : SubKey × E) → taken on q ≡ Some w → q ≡ w ∷ after_take on q
given-front {E} on [] w gives = absurd (go (may_take {E = E} on []) gives)
  where
    go : (b : Bool) → cond b (front {E = E} []) None ≡ Some w → ⊥
    go true is = cc
    go false is = cc
given-front {E} on (v ∷ q) w gives = go (may_take on (v ∷ q)) refl gives
  where
    go : (b : Bool) → may_take on (v ∷ q) ≡ b → cond b (Some v) None ≡ Some w → v ∷ q ≡ w ∷ after_take on (v ∷ q)
    go true may is = (let left : after_take on (v ∷ q) ≡ q = rw may refl in λ i. some_is v w is i ∷ sym left i)
    go false may is = absurd cc

first-at : (own : List (Vec ℕ Global)) (room : Vec ℕ Global) → At own 0 room → (left : List (Vec ℕ Global)) × (own ≡ room ∷ left)
first-at [] room at = absurd cc
first-at (r ∷ own) room at = (own, ap (λ (z : Vec ℕ Global). z ∷ own) (some_is r room at))

-- subscriptions alone say what suffices
same-room : (e f : ServerEnd) → f.subscriptions ≡ e.subscriptions → (w : SubKey × Stored) (room : Vec ℕ Global) → IsRoomFor e w room → IsRoomFor f w room
same-room e f same w room r = record { empty = r.empty; fits = λ s m there. r.fits s m (subst (λ (ss : List Subscription). In ss s) same there) }

-- ---- no update leaves

-- nothing is given beside what waits
pub none-leaves : {F : Type 0} (e : ServerEnd) (ns : List (Queue F)) → WaitAlike e.queues ns → RestBefore ns (length ns) → Rests e
none-leaves e ns alike rest u next one = not-all-rest e.queues ns alike u.queue one.q (key_of u.of, u.carries) one.at one.taken_is rest

-- the output has no room
pub full-rests : (e : ServerEnd) → output_limit ≤ length e.link.output → Rests e
full-rests e full u next one = (let room : length e.link.output < output_limit = one.room in omega (arith, full, room))

-- ---- an update that leaves

module _ (e mid : ServerEnd) (u : Update) (one : Leaves e u mid) where
  -- the number that is given beside it is of the same queue, and what waits then is the same again
  pub takes-same : {F : Type 0} (ns : List (Queue F)) → WaitAlike e.queues ns → (place : ℕ) (key : SubKey) (item : F) (new : List (Queue F)) → Takes ns (Some (place, key, item)) new → (u.queue ≡ place) × WaitAlike mid.queues new
  takes-same {F} ns alike place key item new (r, at, rest, gives, is) =
      let same : u.queue ≡ place = same-place e.queues ns alike u.queue place one.q r (key_of u.of, u.carries) (key, item) one.at one.first one.taken_is at rest gives in
      let there : At ns u.queue r = subst (λ (n : ℕ). At ns n r) (sym same) at in
      let after : new ≡ slice_set ns u.queue (with_front_taken r) = is ∙ ap (λ (n : ℕ). slice_set ns n (with_front_taken r)) (sym same) in (
        same,
        ap (λ (x : ServerEnd). bare x.queues) one.leaves ∙ alike-taken e.queues ns alike u.queue one.q r one.at there ∙ ap (λ (qs : List (Queue F)). bare qs) (sym after),
      )

  -- it was in front
  was-front : (one.q).waiting ≡ (key_of u.of, u.carries) ∷ (with_front_taken one.q).waiting
  was-front = given-front (one.q).events_on (one.q).waiting (key_of u.of, u.carries) one.taken_is

  module _ (rooms : List (List (Vec ℕ Global))) (have : HaveRooms e rooms) where
    abbrev all : (place : ℕ) (q : Queue Stored) → At e.queues place q → (own : List (Vec ℕ Global)) × At rooms place own × AreRoomsFor e q.waiting own
    all = have (λ rests. rests u mid one)

    -- its queue has memory
    pub rooms-there : u.queue < length rooms
    rooms-there = (let h = all u.queue one.q one.at in At-within rooms u.queue h.0 h.1)

    -- of which the first is for it
    pub its-room : (own : List (Vec ℕ Global)) → At rooms u.queue own → (room : Vec ℕ Global) × (left : List (Vec ℕ Global)) × (own ≡ room ∷ left) × IsRoomFor e (key_of u.of, u.carries) room
    its-room own here =
        let h = all u.queue one.q one.at in
        let r = h.2 0 (key_of u.of, u.carries) (subst (λ (ws : List (SubKey × Stored)). At ws 0 (key_of u.of, u.carries)) (sym was-front) refl) in
        let first = first-at own r.0 (subst (λ (l : List (Vec ℕ Global)). At l 0 r.0) (At-one rooms u.queue h.0 own h.1 here) r.1) in
        (r.0, first.0, first.1, r.2)

    -- and the others are for what waits then
    pub rooms-left : (room : Vec ℕ Global) (left : List (Vec ℕ Global)) → At rooms u.queue (room ∷ left) → HaveRooms mid (slice_set rooms u.queue left)
    rooms-left room left here some place q at =
        let known : mid.subscriptions ≡ e.subscriptions = ap (λ (x : ServerEnd). x.subscriptions) one.leaves in
        elim (At-set e.queues u.queue (with_front_taken one.q) place q (subst (λ (x : ServerEnd). At x.queues place q) one.leaves at)) [
          | inl it ↦ (
            left,
            subst (λ (n : ℕ). At (slice_set rooms u.queue left) n left) (sym it.0) (set-here rooms u.queue left (At-within rooms u.queue (room ∷ left) here)),
            λ i w waits.
                let h = all u.queue one.q one.at in
                let then_at : At (with_front_taken one.q).waiting i w = subst (λ (r : Queue Stored). At r.waiting i w) it.1 waits in
                let r = h.2 (suc i) w (subst (λ (ws : List (SubKey × Stored)). At ws (suc i) w) (sym was-front) then_at) in
                (r.0, subst (λ (l : List (Vec ℕ Global)). At l (suc i) r.0) (At-one rooms u.queue h.0 (room ∷ left) h.1 here) r.1, same-room e mid known w r.0 r.2),
          )
          | inr other ↦
              let h = all place q other.0 in
              (h.0, At-set-other rooms u.queue place h.0 left h.1 other.1, λ i w waits. let r = h.2 i w waits in (r.0, r.1, same-room e mid known w r.0 r.2))
        ]
