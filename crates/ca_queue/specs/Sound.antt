-- What holds of every queue.
use Rattle.std.specs.Prelude.{ℕ, ◌≤◌, ◌+◌, IsTrue, length, count_by}
use Rattle.ca_text.specs.Limits.{queue_places, queue_low_places, queue_subscriptions}
use Rattle.ca_queue.specs.declared.entry.SubKey.{SubKey}
use Rattle.ca_queue.specs.Keys.{is_among, AreApart}
use Rattle.ca_queue.specs.Waiting.{has_entry, free_places}
use Rattle.ca_queue.specs.Queue.{Queue}

module _ {E : Type 0} where
  -- how many subscriptions have an entry
  abbrev pub occupied : Queue E → ℕ
  occupied q = count_by (λ key. has_entry key q.waiting) q.subscriptions

  -- All entries have a place; subscriptions are few enough, and each is once; each entry's
  -- subscription was added; and free places and subscriptions that have an entry are together
  -- enough for every post to find a place.
  pub record IsSound (q : Queue E) : Type 0 where
    pub fits : length q.waiting ≤ queue_places
    pub few : length q.subscriptions ≤ queue_subscriptions
    pub apart : AreApart q.subscriptions
    pub known : (key : SubKey) → IsTrue (has_entry key q.waiting)
        → IsTrue (is_among key q.subscriptions)
    pub roomy : queue_low_places ≤ free_places q.waiting + occupied q
