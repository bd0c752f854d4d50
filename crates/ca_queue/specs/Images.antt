-- Queues of other entries: what a caller sees of each entry.
use Rattle.std.specs.Prelude.{List, map, Option, Some, None}
use Rattle.ca_queue.specs.declared.entry.SubKey.{SubKey}
use Rattle.ca_queue.specs.Queue.{Queue}

module _ {E F : Type 0} (f : E → F) where
  -- f of each entry
  abbrev pub images : List (SubKey × E) → List (SubKey × F)
  images q = map (λ w. (w.0, f w.1)) q

  abbrev pub image_if : Option (SubKey × E) → Option (SubKey × F)
  image_if None = None
  image_if (Some w) = Some (w.0, f w.1)

  abbrev pub queue_images : Queue E → Queue F
  queue_images q =
      record {
        waiting = images q.waiting;
        subscriptions = q.subscriptions;
        events_on = q.events_on;
      }
