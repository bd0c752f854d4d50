-- The numbers that a circuit's queues give are those that the statement stamps onto updates.
use Rattle.std.proofs.Common.{◌≡◌, ℕ, ◌<◌, ◌⊎◌, inl, inr, Bool, true, false, List, [], ◌∷◌, ◌++◌, Option, Some, None, refl, sym, ap, subst, ◌∙◌}
use Rattle.std.specs.List.{FoldsTo}
use Rattle.std.specs.Prelude.{if◌then◌else◌, option_and_then, option_map, slice_get, slice_set, unwrap_or}
use Rattle.ca_queue.specs.declared.entry.SubKey.{SubKey}
use Rattle.ca_queue.specs.Circuit.{RestBefore, Takes}
use Rattle.ca_queue.specs.Images.{image_if, images, queue_images}
use Rattle.ca_queue.specs.Queue.{Queue, with_front_taken}
use Rattle.ca_queue.specs.Waiting.{front, may_take, taken}
use Rattle.ca_queue.proofs.Images.{taken_images}
use Rattle.ca_text.specs.Place.{At}
use Rattle.ca_text.proofs.Places.{At-map, At-mapped, At-one, some_is}
use Rattle.ca_model.specs.History.{Cause, Reply}
use Rattle.ca_model.specs.Server.{ServerEnd, key_of}
use Rattle.ca_model.specs.ServerSteps.{Leaves, Update}
use Rattle.ca_model.specs.Speech.{Stored}
use Rattle.ca_model.specs.ServerEvents.{front_number, stamped}
use Rattle.ca_model.specs.World.{Joined}
use Rattle.ca_model.proofs.Thinner.{three-ways}
use Rattle.ca_laws_parts.specs.InStep.{InStep, Numbered, number_in, value_in}
use Rattle.ca_laws_parts.proofs.InStep.{step-pumped}
use Rattle.ca_world_data.specs.Updates.{TellsOne, shown_by}
use Rattle.ca_world_data.proofs.UpdatesTold.{rest-images}

-- ---- one take

module _ {E : Type 0} where
  not-both : (o : Option (SubKey × E)) (w : SubKey × E) → o ≡ None → o ≡ Some w → ⊥
  not-both o w none some = (let e : None ≡ Some w = sym none ∙ some in cc)

  -- of queues of which this is the first that gives, a take takes that
  taken-there : (qs new : List (Queue E)) (place i : ℕ) (key : SubKey) (item : E) (r : Queue E) (w : SubKey × E) → Takes qs (Some (place, key, item)) new → At qs i r → RestBefore qs i → taken r.events_on r.waiting ≡ Some w
      → ((key, item) ≡ w) × (new ≡ slice_set qs i (with_front_taken r))
  taken-there qs new place i key item r w (q, at, rest, gives, is) here before some = go (three-ways place i)
    where
      go : (place < i) ⊎ ((place ≡ i) ⊎ (i < place)) → ((key, item) ≡ w) × (new ≡ slice_set qs i (with_front_taken r))
      go (inl lt) = absurd (not-both (taken q.events_on q.waiting) (key, item) (before place q lt at) gives)
      go (inr (inr lt)) = absurd (not-both (taken r.events_on r.waiting) w (rest i r lt here) some)
      go (inr (inl e)) =
          let one : q ≡ r = At-one qs i q r (subst (λ (n : ℕ). At qs n q) e at) here in (
            some_is (key, item) w (sym gives ∙ ap (λ (z : Queue E). taken z.events_on z.waiting) one ∙ some),
            is ∙ (λ t. slice_set qs (e t) (with_front_taken (one t))),
          )

  -- what is taken is in front
  front-taken : (on : Bool) (q : List (SubKey × E)) (w : SubKey × E) → taken on q ≡ Some w → front q ≡ Some w
  front-taken on q w is = go (may_take on q) is
    where
      go : (b : Bool) → (if b then front q else None) ≡ Some w → front q ≡ Some w
      go true e = e
      go false e = absurd cc

image-none : {E F : Type 0} (f : E → F) (o : Option (SubKey × E)) → image_if f o ≡ None → o ≡ None
image-none f None is = refl
image-none f (Some w) is = absurd cc

image-some : (o : Option (SubKey × Numbered)) (key : SubKey) (v : Stored) → image_if value_in o ≡ Some (key, v) → (n : Numbered) × (o ≡ Some (key, n))
image-some None key v is = absurd cc
image-some (Some w) key v is =
    let e : (w.0, w.1.value) ≡ (key, v) = some_is (w.0, w.1.value) (key, v) is in
    (w.1, ap (λ (z : SubKey × Stored). Some (z.0, w.1)) e)

-- where a value is taken, its number is taken
pub record NumberAt (ns : List (Queue (ℕ × Cause))) (i : ℕ) (key : SubKey) : Type 0 where
  pub r : Queue (ℕ × Cause)
  pub at : At ns i r
  pub first : RestBefore ns i
  pub item : ℕ × Cause
  pub gives : taken r.events_on r.waiting ≡ Some (key, item)

number-at : (vs : List (Queue Stored)) (ns : List (Queue (ℕ × Cause))) (i : ℕ) (q : Queue Stored) (key : SubKey) (v : Stored) → InStep vs ns → At vs i q → RestBefore vs i → taken q.events_on q.waiting ≡ Some (key, v) → NumberAt ns i key
number-at vs ns i q key v s at rest gives =
    let b = At-mapped (queue_images value_in) s.both i q (subst (λ (l : List (Queue Stored)). At l i q) s.values_are at) in
    let z : Queue Numbered = b.0 in
    let given : taken z.events_on (images value_in z.waiting) ≡ Some (key, v) = ap (λ (x : Queue Stored). taken x.events_on x.waiting) (sym b.2) ∙ gives in
    let n = image-some (taken z.events_on z.waiting) key v (sym (taken_images value_in z.events_on z.waiting) ∙ given) in
    let before : RestBefore s.both i = λ k x lt there.
    image-none value_in (taken x.events_on x.waiting)
    (sym (taken_images value_in x.events_on x.waiting)
    ∙ rest k (queue_images value_in x) lt (subst (λ (l : List (Queue Stored)). At l k (queue_images value_in x)) (sym s.values_are) (At-map (queue_images value_in) s.both k x there))) in
    record {
      r = queue_images number_in z;
      at = subst (λ (l : List (Queue (ℕ × Cause))). At l i (queue_images number_in z)) (sym s.numbers_are) (At-map (queue_images number_in) s.both i z b.1);
      first = subst (λ (l : List (Queue (ℕ × Cause))). RestBefore l i) (sym s.numbers_are) (rest-images number_in s.both i before);
      item = number_in n.0;
      gives = taken_images number_in z.events_on z.waiting ∙ ap (image_if number_in) n.1;
    }

-- ---- one update

one-stamped : (u : Update) (e mid : ServerEnd) (j new : Joined) → InStep e.queues j.queues → Leaves e u mid → TellsOne j u.message new → new ≡ stamped (u ∷ []) j
one-stamped u e mid j new s l t =
    let n : NumberAt j.queues u.queue (key_of u.of) = number-at e.queues j.queues u.queue l.q (key_of u.of) u.carries s l.at l.first l.taken_is in
    let h = taken-there j.queues t.queues t.place u.queue t.key t.item n.r (key_of u.of, n.item) t.takes n.at n.first n.gives in
    let number : front_number j.queues u.queue ≡ Some n.item =
    ap (λ (o : Option (Queue (ℕ × Cause))). option_map (λ (w : SubKey × (ℕ × Cause)). w.1) (option_and_then (λ (q : Queue (ℕ × Cause)). front q.waiting) o)) n.at
    ∙ ap (λ (o : Option (SubKey × (ℕ × Cause))). option_map (λ (w : SubKey × (ℕ × Cause)). w.1) o) (front-taken n.r.events_on n.r.waiting (key_of u.of, n.item) n.gives) in
    let queues : unwrap_or (option_map (λ (q : Queue (ℕ × Cause)). slice_set j.queues u.queue (with_front_taken q)) (slice_get j.queues u.queue)) j.queues ≡ slice_set j.queues u.queue (with_front_taken n.r) =
    ap (λ (o : Option (Queue (ℕ × Cause))). unwrap_or (option_map (λ (q : Queue (ℕ × Cause)). slice_set j.queues u.queue (with_front_taken q)) o) j.queues) n.at in
    let item : t.item ≡ unwrap_or (front_number j.queues u.queue) (0, Reply) =
    ap (λ (w : SubKey × (ℕ × Cause)). w.1) h.0 ∙ sym (ap (λ (o : Option (ℕ × Cause)). unwrap_or o (0, Reply)) number) in
    t.is ∙ (λ i. record j { queues = (h.1 ∙ sym queues) i; lists = record j.lists { down = j.lists.down ++ record { message = u.message; place = (item i).0; cause = (item i).1 } ∷ [] } })

-- ---- all

pub told-stamped : (us : List Update) (e after : ServerEnd) (j new : Joined) → InStep e.queues j.queues → FoldsTo Leaves e us after → FoldsTo TellsOne j (shown_by us) new → new ≡ stamped us j
told-stamped [] e after j new s leave told = sym told
told-stamped (u ∷ us) e after j new s (mid, one, rest) (jm, first, more) =
    let is : jm ≡ stamped (u ∷ []) j = one-stamped u e mid j jm s one first in
    let step : InStep mid.queues jm.queues = subst (λ (z : Joined). InStep mid.queues z.queues) (sym is) (step-pumped (u ∷ []) e mid j (mid, one, refl) s).0 in
    told-stamped us mid after jm new step rest more ∙ ap (stamped us) is
