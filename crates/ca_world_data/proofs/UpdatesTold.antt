-- Queues of other entries, one of which is taken.
use Rattle.std.proofs.Common.{◌≡◌, ℕ, List, map, None, Option, Some, sym, ap, ◌∙◌}
use Rattle.std.specs.Prelude.{slice_set}
use Rattle.ca_text.proofs.Places.{At-map, At-mapped}
use Rattle.ca_queue.specs.declared.entry.SubKey.{SubKey}
use Rattle.ca_queue.specs.Circuit.{RestBefore, Takes}
use Rattle.ca_queue.specs.Images.{image_if, queue_images}
use Rattle.ca_queue.specs.Queue.{Queue, with_front_taken}
use Rattle.ca_queue.specs.Waiting.{taken}
use Rattle.ca_queue.proofs.Images.{front_taken_images, taken_images}
use Rattle.ca_queue.proofs.Circuits.{set-map}

-- ---- queues of other entries

module _ {E F : Type 0} (f : E → F) where
  none-image : (o : Option (SubKey × E)) → o ≡ None → image_if f o ≡ None
  none-image o is = ap (image_if f) is

  pub rest-images : (qs : List (Queue E)) (n : ℕ) → RestBefore qs n → RestBefore (map (queue_images f) qs) n
  rest-images qs n rest i r lt at =
      let q = At-mapped (queue_images f) qs i r at in
      ap (λ (z : Queue F). taken z.events_on z.waiting) q.2 ∙ taken_images f q.0.events_on q.0.waiting ∙ none-image (taken q.0.events_on q.0.waiting) (rest i q.0 lt q.1)

  -- a take of the one is a take of the other
  pub takes-images : (qs new : List (Queue E)) (place : ℕ) (key : SubKey) (item : E) → Takes qs (Some (place, key, item)) new → Takes (map (queue_images f) qs) (Some (place, key, f item)) (map (queue_images f) new)
  takes-images qs new place key item (q, at, rest, gives, is) = (
    queue_images f q,
    At-map (queue_images f) qs place q at,
    rest-images qs place rest,
    taken_images f q.events_on q.waiting ∙ ap (image_if f) gives,
    ap (map (queue_images f)) is ∙ set-map (queue_images f) qs place (with_front_taken q) ∙ ap (slice_set (map (queue_images f) qs) place) (sym (front_taken_images f q)),
  )
