use Rattle.std.proofs.Common.{◌≡◌, ◌<◌, ℕ, List, length, map}
use Rattle.std.specs.Prelude.{Vec}
use Rattle.std.specs.VecDeque.{deque_items}
use Rattle.std.specs.declared.alloc.Global.{Global}
use Rattle.ca_queue.specs.Queue.{Queue}
use Rattle.ca_text.specs.Place.{At}
use Rattle.ca_model.specs.Server.{ServerEnd}
use Rattle.ca_model.specs.ServerSteps.{HasEnd}
use Rattle.ca_model.specs.Speech.{Stored}
use Rattle.ca_world_data.specs.Updates.{AreRoomsFor}
use Rattle.ca_world_data.proofs.updates.make_rooms.Given as goal

-- the queues before this place have their memory
abbrev pub invariant-loop-place : goal.invariant-loop-place
invariant-loop-place l =
    record {
      many : length l.rooms.items ≡ l.place;
      each : (e : ServerEnd) → HasEnd l.core l.joined.at_server e → (i : ℕ) → i < l.place
          → (own : List (Vec ℕ Global)) × At (map deque_items l.rooms.items) i own × ((q : Queue Stored) → At e.queues i q → AreRoomsFor e q.waiting own);
    }
