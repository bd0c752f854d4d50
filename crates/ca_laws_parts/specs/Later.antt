-- Working: messages that a server sends later about messages that it handled before.
use Rattle.std.specs.Prelude.{ℕ, ◌≡◌, ◌<◌, ◌++◌, List, [], ◌∷◌, length, option_map, slice_get}
use Rattle.std.specs.Prelude.{slice_set, unwrap_or}
use Rattle.ca_queue.specs.Queue.{Queue, with_front_taken}
use Rattle.ca_model.specs.History.{Cause, Circuit, Reply, Told}
use Rattle.ca_model.specs.ServerSteps.{Update}
use Rattle.ca_model.specs.Speech.{Id, In, Speaks}
use Rattle.ca_model.specs.ServerEvents.{front_number}
use Rattle.ca_model.specs.World.{Joined}
use Rattle.ca_laws_parts.specs.Flows.{Concerns}

-- A SERVER_DISCONN or an update, about one of these places, which speaks of nothing else.
pub record IsLater (kept : List ℕ) (c : Circuit) (t : Told) : Type 0 where
  pub other : t.cause ≡ Reply → ⊥
  pub keeps : In kept t.place
  pub there : t.place < length c.up
  pub speaks : (id : Id) → Speaks t.message id → Concerns c.up t.place id

-- the updates that left the queues of a circuit, as they are told
abbrev pub stamped_told : List Update → Joined → List Told
stamped_told [] j = []
stamped_told (u ∷ us) j =
    let item : ℕ × Cause = unwrap_or (front_number j.queues u.queue) (0, Reply) in
    let queues : List (Queue (ℕ × Cause)) =
    unwrap_or
    (option_map (λ (q : Queue (ℕ × Cause)). slice_set j.queues u.queue (with_front_taken q))
    (slice_get j.queues u.queue)) j.queues in
    record { message = u.message; place = item.0; cause = item.1 }
    ∷ stamped_told us
    (record j {
      queues = queues;
      lists = record j.lists {
        down = j.lists.down
            ++ record { message = u.message; place = item.0; cause = item.1 } ∷ [];
      };
    })
