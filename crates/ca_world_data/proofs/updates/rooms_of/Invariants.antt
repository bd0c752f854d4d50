use Rattle.std.proofs.Common.{◌≡◌, ◌<◌, ℕ, length}
use Rattle.std.specs.Prelude.{Vec}
use Rattle.std.specs.declared.alloc.Global.{Global}
use Rattle.ca_queue.specs.declared.entry.SubKey.{SubKey}
use Rattle.ca_queue.specs.Queue.{Queue}
use Rattle.ca_text.specs.Place.{At}
use Rattle.ca_model.specs.Server.{ServerEnd}
use Rattle.ca_model.specs.ServerSteps.{HasEnd}
use Rattle.ca_model.specs.Speech.{Stored}
use Rattle.ca_world_data.specs.Updates.{IsRoomFor}
use Rattle.ca_world_data.proofs.updates.rooms_of.Given as goal

-- the entries before this one have their memory
abbrev pub invariant-loop-index : goal.invariant-loop-index
invariant-loop-index l =
    record {
      many : length l.own.items ≡ l.index;
      each : (e : ServerEnd) (q : Queue Stored) → HasEnd l.core l.circuit e → At e.queues l.place q → (i : ℕ) → i < l.index
          → (room : Vec ℕ Global) × At l.own.items i room × ((w : SubKey × Stored) → At q.waiting i w → IsRoomFor e w room);
    }
