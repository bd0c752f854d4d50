-- Values and numbers wait side by side, whatever is done to both.
use Rattle.std.proofs.Common.{◌≡◌, ℕ, zero, suc, ◌<◌, ◌≤◌, inl, inr, Bool, true, false, cond, List, [], ◌∷◌, ◌++◌, length, le-ltb, lt-ltb, Option, Some, None, refl, sym, ap, subst, ◌∙◌, arith}
use Rattle.std.specs.Prelude.{map, option_and_then, option_map, replicate, slice_get, slice_set, unwrap_or}
use Rattle.std.specs.List.{FoldsTo, fold}
use Rattle.ca_text.specs.Place.{At}
use Rattle.ca_text.proofs.Places.{some_is, At-map, At-mapped, At-parts}
use Rattle.ca_queue.specs.declared.entry.SubKey.{SubKey}
use Rattle.ca_queue.specs.Circuit.{queue_posted, queue_without, without_each}
use Rattle.ca_queue.specs.Images.{image_if, images, queue_images}
use Rattle.ca_queue.specs.Keys.{is_among}
use Rattle.ca_queue.specs.Queue.{Queue, added, cancelled, no_queue, posted, switched, with_front_taken}
use Rattle.ca_queue.specs.Waiting.{front, may_take, taken}
use Rattle.ca_queue.proofs.Images.{cancelled_images, front_taken_images, posted_images, taken_images}
use Rattle.ca_arena.specs.declared.handle.Handle.{Handle}
use Rattle.ca_text.specs.Limits.{queue_subscriptions}
use Rattle.ca_model.specs.Server.{Server, ServerEnd, Subscription, key_of}
use Rattle.ca_model.specs.ServerSteps.{HasEnd, Leaves, Pumps, TakesIn}
use Rattle.ca_model.specs.ServerSteps as stepped
use Rattle.ca_model.specs.Speech.{Stored}
use Rattle.ca_model.specs.History.{Cause, Reply, Told, Update}
use Rattle.ca_model.specs.ServerEvents.{front_number, number_taken, stamped}
use Rattle.ca_model.specs.World.{Joined}
use Rattle.ca_laws_parts.specs.InStep.{InStep, Numbered, number_in, value_in}

-- ---- lists

none_at : {A : Type 0} (k : ℕ) (x : A) → At [] k x → ⊥
none_at k x e = cc

set-map : {A B : Type 0} (f : A → B) (xs : List A) (i : ℕ) (x : A) → slice_set (map f xs) i (f x) ≡ map f (slice_set xs i x)
set-map f [] i x = refl
set-map f (z ∷ xs) zero x = refl
set-map {A} {B} f (z ∷ xs) (suc i) x = ap (λ (l : List B). f z ∷ l) (set-map f xs i x)

module _ {E F : Type 0} (f : E → F) where
  -- a change that does the same to a queue and to its images
  abbrev Follows : (Queue F → Queue F) → (Queue E → Queue E) → Type 0
  Follows g h = (q : Queue E) → g (queue_images f q) ≡ queue_images f (h q)

  each-follows : (g : Queue F → Queue F) (h : Queue E → Queue E) → Follows g h → (qs : List (Queue E)) → map g (map (queue_images f) qs) ≡ map (queue_images f) (map h qs)
  each-follows g h same [] = refl
  each-follows g h same (q ∷ qs) =
      ap (λ (r : Queue F). r ∷ map g (map (queue_images f) qs)) (same q)
      ∙ ap (λ (l : List (Queue F)). queue_images f (h q) ∷ l) (each-follows g h same qs)

  posted-follows : (key : SubKey) (entry : E) → Follows (queue_posted key (f entry)) (queue_posted key entry)
  posted-follows key entry q = go (is_among key q.subscriptions)
    where
      go : (b : Bool) → cond b (posted key (f entry) (queue_images f q)) (queue_images f q) ≡ queue_images f (cond b (posted key entry q) q)
      go true = posted_images f key entry q
      go false = refl

  without-from : (gone : SubKey → Bool) (keys : List SubKey) (q : Queue E) → fold (λ (r : Queue F) (k : SubKey). cond (gone k) (cancelled k r) r) (queue_images f q) keys ≡ queue_images f (fold (λ (r : Queue E) (k : SubKey). cond (gone k) (cancelled k r) r) q keys)
  without-from gone [] q = refl
  without-from gone (k ∷ keys) q =
      ap (λ (r : Queue F). fold (λ (x : Queue F) (l : SubKey). cond (gone l) (cancelled l x) x) r keys) (go (gone k))
      ∙ without-from gone keys (cond (gone k) (cancelled k q) q)
    where
      go : (b : Bool) → cond b (cancelled k (queue_images f q)) (queue_images f q) ≡ queue_images f (cond b (cancelled k q) q)
      go true = cancelled_images f k q
      go false = refl

  without-follows : (gone : SubKey → Bool) → Follows (queue_without gone) (queue_without gone)
  without-follows gone q = without-from gone q.subscriptions q

  switched-follows : (on : Bool) → Follows (switched on) (switched on)
  switched-follows on q = refl

  none-follow : (n : ℕ) → let none : Queue F = no_queue in let other : Queue E = no_queue in replicate n none ≡ map (queue_images f) (replicate n other)
  none-follow zero = refl
  none-follow (suc n) = (let none : Queue F = no_queue in ap (λ (l : List (Queue F)). none ∷ l) (none-follow n))

-- ---- both in step

pub step-begins : (n : ℕ) → InStep (replicate n no_queue) (replicate n no_queue)
step-begins n = record { both = replicate n no_queue; values_are = none-follow value_in n; numbers_are = none-follow number_in n }

pub step-posted : (key : SubKey) (v : Stored) (place number : ℕ) (vs : List (Queue Stored)) (ns : List (Queue (ℕ × Cause))) → InStep vs ns → InStep (map (queue_posted key v) vs) (map (queue_posted key (place, Update number)) ns)
step-posted key v place number vs ns s =
    let entry : Numbered = record { value = v; place = place; number = number } in
    record {
      both = map (queue_posted key entry) s.both;
      values_are = ap (λ (l : List (Queue Stored)). map (queue_posted key v) l) s.values_are ∙ each-follows value_in (queue_posted key v) (queue_posted key entry) (posted-follows value_in key entry) s.both;
      numbers_are = ap (λ (l : List (Queue (ℕ × Cause))). map (queue_posted key (place, Update number)) l) s.numbers_are ∙ each-follows number_in (queue_posted key (place, Update number)) (queue_posted key entry) (posted-follows number_in key entry) s.both;
    }

pub step-without : (gone : SubKey → Bool) (vs : List (Queue Stored)) (ns : List (Queue (ℕ × Cause))) → InStep vs ns → InStep (without_each gone vs) (without_each gone ns)
step-without gone vs ns s = record {
  both = without_each gone s.both;
  values_are = ap (λ (l : List (Queue Stored)). without_each gone l) s.values_are ∙ each-follows value_in (queue_without gone) (queue_without gone) (without-follows value_in gone) s.both;
  numbers_are = ap (λ (l : List (Queue (ℕ × Cause))). without_each gone l) s.numbers_are ∙ each-follows number_in (queue_without gone) (queue_without gone) (without-follows number_in gone) s.both;
}

pub step-switched : (on : Bool) (vs : List (Queue Stored)) (ns : List (Queue (ℕ × Cause))) → InStep vs ns → InStep (map (switched on) vs) (map (switched on) ns)
step-switched on vs ns s = record {
  both = map (switched on) s.both;
  values_are = ap (λ (l : List (Queue Stored)). map (switched on) l) s.values_are ∙ each-follows value_in (switched on) (switched on) (switched-follows value_in on) s.both;
  numbers_are = ap (λ (l : List (Queue (ℕ × Cause))). map (switched on) l) s.numbers_are ∙ each-follows number_in (switched on) (switched on) (switched-follows number_in on) s.both;
}

-- ---- a take

-- the entry that a take returns is in front
front-taken : {E : Type 0} (on : Bool) (q : List (SubKey × E)) (w : SubKey × E) → taken on q ≡ Some w → front q ≡ Some w
front-taken {E} on q w is = go (may_take on q) is
  where
    go : (b : Bool) → cond b (front q) None ≡ Some w → front q ≡ Some w
    go true e = e
    go false e = absurd cc

front-images : {E F : Type 0} (f : E → F) (q : List (SubKey × E)) (w : SubKey × E) → front q ≡ Some w → front (images f q) ≡ Some (w.0, f w.1)
front-images f [] w is = absurd cc
front-images f (u ∷ q) w is = ap (λ (z : SubKey × _). Some (z.0, f z.1)) (some_is u w is)

from-image : (o : Option (SubKey × Numbered)) (key : SubKey) (v : Stored) → image_if value_in o ≡ Some (key, v) → (n : Numbered) × (o ≡ Some (key, n)) × (n.value ≡ v)
from-image None key v is = absurd cc
from-image (Some w) key v is =
    let e : (w.0, w.1.value) ≡ (key, v) = some_is (w.0, w.1.value) (key, v) is in
    (w.1, ap (λ (z : SubKey × Stored). Some (z.0, w.1)) e, ap (λ (z : SubKey × Stored). z.1) e)

-- A value is taken at a place: its number is in front there, and both go.
pub step-taken : (vs : List (Queue Stored)) (ns : List (Queue (ℕ × Cause))) (i : ℕ) (q : Queue Stored) (key : SubKey) (v : Stored) → At vs i q → taken q.events_on q.waiting ≡ Some (key, v) → InStep vs ns
    → (place number : ℕ) × (r : Queue (ℕ × Cause)) × At ns i r × (front r.waiting ≡ Some (key, (place, Update number)))
    × InStep (slice_set vs i (with_front_taken q)) (slice_set ns i (with_front_taken r))
step-taken vs ns i q key v at given s =
    let b = At-mapped (queue_images value_in) s.both i q (subst (λ (l : List (Queue Stored)). At l i q) s.values_are at) in
    let z : Queue Numbered = b.0 in
    let given2 : taken z.events_on (images value_in z.waiting) ≡ Some (key, v) = ap (λ (x : Queue Stored). taken x.events_on x.waiting) (sym b.2) ∙ given in
    let n = from-image (taken z.events_on z.waiting) key v (sym (taken_images value_in z.events_on z.waiting) ∙ given2) in
    let r : Queue (ℕ × Cause) = queue_images number_in z in (
      n.0.place,
      n.0.number,
      r,
      subst (λ (l : List (Queue (ℕ × Cause))). At l i r) (sym s.numbers_are) (At-map (queue_images number_in) s.both i z b.1),
      front-images number_in z.waiting (key, n.0) (front-taken z.events_on z.waiting (key, n.0) n.1),
      record {
        both = slice_set s.both i (with_front_taken z);
        values_are = ap (λ (l : List (Queue Stored)). slice_set l i (with_front_taken q)) s.values_are
            ∙ ap (λ (x : Queue Stored). slice_set (map (queue_images value_in) s.both) i x) (ap (λ (x : Queue Stored). with_front_taken x) b.2 ∙ front_taken_images value_in z)
            ∙ set-map (queue_images value_in) s.both i (with_front_taken z);
        numbers_are = ap (λ (l : List (Queue (ℕ × Cause))). slice_set l i (with_front_taken r)) s.numbers_are
            ∙ ap (λ (x : Queue (ℕ × Cause)). slice_set (map (queue_images number_in) s.both) i x) (front_taken_images number_in z)
            ∙ set-map (queue_images number_in) s.both i (with_front_taken z);
      },
    )

-- ---- a pump

-- the circuit after one update left
abbrev one-stamped : stepped.Update → Joined → Joined
one-stamped u j =
    let item : ℕ × Cause = unwrap_or (front_number j.queues u.queue) (0, Reply) in
    let queues : List (Queue (ℕ × Cause)) = unwrap_or (option_map (λ (q : Queue (ℕ × Cause)). slice_set j.queues u.queue (with_front_taken q)) (slice_get j.queues u.queue)) j.queues in
    record j { queues = queues; lists = record j.lists { down = j.lists.down ++ record { message = u.message; place = item.0; cause = item.1 } ∷ [] } }

-- no new message is a reply
abbrev pub NoReply : Joined → Joined → Type 0
NoReply c d = (i : ℕ) (t : Told) → At d.lists.down i t → t.cause ≡ Reply → At c.lists.down i t

one-leaves : (u : stepped.Update) (e mid : ServerEnd) (j : Joined) → Leaves e u mid → InStep e.queues j.queues → InStep mid.queues (one-stamped u j).queues × NoReply j (one-stamped u j)
one-leaves u e mid j l s =
    let r = step-taken e.queues j.queues u.queue l.q (key_of u.of) u.carries l.at l.taken_is s in
    let number : front_number j.queues u.queue ≡ Some (r.0, Update r.1) =
    ap (λ (o : Option (Queue (ℕ × Cause))). option_map (λ (w : SubKey × (ℕ × Cause)). w.1) (option_and_then (λ (q : Queue (ℕ × Cause)). front q.waiting) o)) r.3
    ∙ ap (λ (o : Option (SubKey × (ℕ × Cause))). option_map (λ (w : SubKey × (ℕ × Cause)). w.1) o) r.4 in
    let queues : (one-stamped u j).queues ≡ slice_set j.queues u.queue (with_front_taken r.2) =
    ap (λ (o : Option (Queue (ℕ × Cause))). unwrap_or (option_map (λ (q : Queue (ℕ × Cause)). slice_set j.queues u.queue (with_front_taken q)) o) j.queues) r.3 in (
      subst (λ (l : List (Queue (ℕ × Cause))). InStep mid.queues l) (sym queues) (subst (λ (l : List (Queue Stored)). InStep l (slice_set j.queues u.queue (with_front_taken r.2))) (sym (ap (λ (x : ServerEnd). x.queues) l.leaves)) r.5),
      λ i t at reply. elim (At-parts j.lists.down (record { message = u.message; place = (unwrap_or (front_number j.queues u.queue) (0, Reply)).0; cause = (unwrap_or (front_number j.queues u.queue) (0, Reply)).1 } ∷ []) i t at) [
        | inl old ↦ old
        | inr new ↦ absurd (none-reply (front_number j.queues u.queue) r.0 r.1 number u.message new.0 t new.2 reply)
      ],
    )
  where
    none-reply : (o : Option (ℕ × Cause)) (place number : ℕ) → o ≡ Some (place, Update number) → (m : _) (k : ℕ) (t : Told) → At (record { message = m; place = (unwrap_or o (0, Reply)).0; cause = (unwrap_or o (0, Reply)).1 } ∷ []) k t → t.cause ≡ Reply → ⊥
    none-reply o place number is m zero t at reply =
        let c : (unwrap_or o (0, Reply)).1 ≡ t.cause = ap (λ (x : Told). x.cause) (some_is _ t at) in
        let d : (unwrap_or o (0, Reply)).1 ≡ Update number = ap (λ (x : Option (ℕ × Cause)). (unwrap_or x (0, Reply)).1) is in
        (let f : Update number ≡ Reply = sym d ∙ c ∙ reply in cc)
    none-reply o place number is m (suc k) t at reply = none_at k t at

-- Updates leave the queues of an end: each has its number, and values and numbers stay in step.
pub step-pumped : (updates : List stepped.Update) (e after : ServerEnd) (j : Joined) → FoldsTo Leaves e updates after → InStep e.queues j.queues → InStep after.queues (stamped updates j).queues × NoReply j (stamped updates j)
step-pumped [] e after j same s = (subst (λ (x : ServerEnd). InStep x.queues j.queues) same s, λ i t at reply. at)
step-pumped (u ∷ us) e after j (mid, one, rest) s =
    let a = one-leaves u e mid j one s in
    let b = step-pumped us mid after (one-stamped u j) rest a.0 in
    (b.0, λ i t at reply. a.1 i t (b.1 i t at reply) reply)

-- ---- a subscription begins

-- it is taken by the first queue with room, in both
taken-first : (key : SubKey) (v : Stored) (place : ℕ) (both : List (Queue Numbered)) (i : ℕ) (q : Queue Stored) → At (map (queue_images value_in) both) i q → length q.subscriptions < queue_subscriptions
    → ((k : ℕ) (r : Queue Stored) → k < i → At (map (queue_images value_in) both) k r → queue_subscriptions ≤ length r.subscriptions)
    → (out : List (Queue Numbered)) × (slice_set (map (queue_images value_in) both) i (posted key v (added key q)) ≡ map (queue_images value_in) out)
    × (number_taken key (place, Update 0) (map (queue_images number_in) both) ≡ map (queue_images number_in) out)
taken-first key v place [] i q at room first = absurd (none_at i q at)
taken-first key v place (z ∷ zs) zero q at room first =
    let entry : Numbered = record { value = v; place = place; number = 0 } in
    let is : queue_images value_in z ≡ q = some_is (queue_images value_in z) q at in
    let fits : length z.subscriptions < queue_subscriptions = subst (λ (x : Queue Stored). length x.subscriptions < queue_subscriptions) (sym is) room in (
      posted key entry (added key z) ∷ zs,
      ap (λ (x : Queue Stored). posted key v (added key x) ∷ map (queue_images value_in) zs) (sym is)
          ∙ ap (λ (x : Queue Stored). x ∷ map (queue_images value_in) zs) (posted_images value_in key entry (added key z)),
      ap (λ (b : Bool). cond b (posted key (place, Update 0) (added key (queue_images number_in z)) ∷ map (queue_images number_in) zs) (queue_images number_in z ∷ number_taken key (place, Update 0) (map (queue_images number_in) zs))) (lt-ltb (length z.subscriptions) queue_subscriptions fits)
          ∙ ap (λ (x : Queue (ℕ × Cause)). x ∷ map (queue_images number_in) zs) (posted_images number_in key entry (added key z)),
    )
taken-first key v place (z ∷ zs) (suc i) q at room first =
    let r = taken-first key v place zs i q at room (λ k x lt there. first (suc k) x (omega (arith, lt)) there) in
    let full : queue_subscriptions ≤ length z.subscriptions = first 0 (queue_images value_in z) (omega arith) refl in (
      z ∷ r.0,
      ap (λ (l : List (Queue Stored)). queue_images value_in z ∷ l) r.1,
      ap (λ (b : Bool). cond b (posted key (place, Update 0) (added key (queue_images number_in z)) ∷ map (queue_images number_in) zs) (queue_images number_in z ∷ number_taken key (place, Update 0) (map (queue_images number_in) zs))) (le-ltb (length z.subscriptions) queue_subscriptions full)
          ∙ ap (λ (l : List (Queue (ℕ × Cause))). queue_images number_in z ∷ l) r.2,
    )

-- A subscription is taken in, and its first number waits beside its first value.
pub step-taken-in : (s : Subscription) (v : Stored) (place : ℕ) (e new : ServerEnd) (numbers : List (Queue (ℕ × Cause))) → TakesIn s v e new → InStep e.queues numbers → InStep new.queues (number_taken (key_of s) (place, Update 0) numbers)
step-taken-in s v place e new numbers t step =
    let at : At (map (queue_images value_in) step.both) t.place t.q = subst (λ (l : List (Queue Stored)). At l t.place t.q) step.values_are t.at in
    let r = taken-first (key_of s) v place step.both t.place t.q at t.room (λ k x lt there. t.first k x lt (subst (λ (l : List (Queue Stored)). At l k x) (sym step.values_are) there)) in
    record {
      both = r.0;
      values_are = ap (λ (x : ServerEnd). x.queues) t.leaves ∙ ap (λ (l : List (Queue Stored)). slice_set l t.place (posted (key_of s) v (added (key_of s) t.q))) step.values_are ∙ r.1;
      numbers_are = ap (λ (l : List (Queue (ℕ × Cause))). number_taken (key_of s) (place, Update 0) l) step.numbers_are ∙ r.2;
    }

-- ---- a pump of an end

pub pumps-numbered : (y core : Server) (h : Handle) (updates : List stepped.Update) (j : Joined) → ((e : ServerEnd) → HasEnd y h e → InStep e.queues j.queues) → Pumps y h updates core → NoReply j (stamped updates j)
pumps-numbered y core h updates j step (inl (e, has, (after, folds, rest))) = (step-pumped updates e after j folds (step e has)).1
pumps-numbered y core h updates j step (inr (none, nothing, is)) = subst (λ (us : List stepped.Update). NoReply j (stamped us j)) (sym nothing) (λ i t at reply. at)
