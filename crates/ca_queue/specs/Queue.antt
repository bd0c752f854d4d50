-- Vocabulary: what a queue is: the updates that wait, the subscriptions that were added, and
-- whether events are on.
use Rattle.std.specs.Coded.{Coded, code_by, coded×, coded_bool, coded_list, coded_ℕ}
use Rattle.std.specs.Prelude.{ℕ, refl, ◌≡◌, ◌<◌, Bool, true, not, List, [], ◌∷◌, ◌++◌, length}
use Rattle.std.specs.Prelude.{filter, Result, Ok, Err}
use Rattle.ca_text.specs.declared.refusal.Refusal.{Refusal}
use Rattle.ca_text.specs.declared.refusal.Refusal.TheVariants.{OutOfMemory, TooManySubscriptions}
use Rattle.ca_text.specs.Limits.{queue_subscriptions}
use Rattle.ca_queue.specs.declared.entry.SubKey.{SubKey}
use Rattle.ca_queue.specs.Keys.{same}
use Rattle.ca_queue.specs.Waiting.{after_post, after_take, after_cancel}

-- a key is stored as the pair of its fields
abbrev pub key_code : Coded SubKey
key_code =
    code_by (ℕ × ℕ) (coded× coded_ℕ coded_ℕ) (λ k. (k.sid, k.sub))
    (λ p. record { sid = p.0; sub = p.1 }) (λ _. refl)

pub record Queue (E : Type 0) : Type 0 where
  pub waiting : List (SubKey × E)
  pub subscriptions : List SubKey
  pub events_on : Bool

-- a queue is stored as the tuple of its fields
abbrev pub queue_code : {E : Type 0} → Coded E → Coded (Queue E)
queue_code {E} code =
    code_by
    (List (SubKey × E) × (List SubKey × Bool))
    (coded× (coded_list (coded× key_code code)) (coded× (coded_list key_code) coded_bool))
    (λ q. (q.waiting, (q.subscriptions, q.events_on)))
    (λ p. record { waiting = p.0; subscriptions = p.1.0; events_on = p.1.1 })
    (λ _. refl)

module _ {E : Type 0} where
  -- a new queue: nothing waits, no subscription was added, and events are on
  abbrev pub no_queue : Queue E
  no_queue = record { waiting = []; subscriptions = []; events_on = true }

  abbrev pub added : SubKey → Queue E → Queue E
  added key q =
      record {
        waiting = q.waiting;
        subscriptions = q.subscriptions ++ key ∷ [];
        events_on = q.events_on;
      }

  abbrev pub posted : SubKey → E → Queue E → Queue E
  posted key entry q =
      record {
        waiting = after_post q.events_on key entry q.waiting;
        subscriptions = q.subscriptions;
        events_on = q.events_on;
      }

  abbrev pub with_front_taken : Queue E → Queue E
  with_front_taken q =
      record {
        waiting = after_take q.events_on q.waiting;
        subscriptions = q.subscriptions;
        events_on = q.events_on;
      }

  -- the subscription's room is free again
  abbrev pub cancelled : SubKey → Queue E → Queue E
  cancelled key q = record {
    waiting = after_cancel key q.waiting;
    subscriptions = filter (λ s. not (same key s)) q.subscriptions;
    events_on = q.events_on;
  }

  abbrev pub switched : Bool → Queue E → Queue E
  switched on q = record { waiting = q.waiting; subscriptions = q.subscriptions; events_on = on }

  -- Why one more subscription is refused: there are as many as may be, or a growth was refused,
  -- which is asked for only if there is none yet.
  abbrev pub Refuses : Queue E → Refusal → Type 0
  Refuses q TooManySubscriptions = length q.subscriptions ≡ queue_subscriptions
  Refuses q OutOfMemory = q.subscriptions ≡ []
  Refuses q _ = ⊥

  -- From old, this subscription was added, with this answer, and left new.
  abbrev pub Adds : Queue E → SubKey → Result (Unit {0}) Refusal → Queue E → Type 0
  Adds old key (Ok _) new = (length old.subscriptions < queue_subscriptions) × (new ≡ added key old)
  Adds old key (Err refusal) new = Refuses old refusal × (new ≡ old)
