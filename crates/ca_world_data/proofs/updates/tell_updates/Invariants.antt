use Rattle.std.proofs.Common.{◌-◌, List, drop, length, map}
use Rattle.std.specs.VecDeque.{deque_items}
use Rattle.ca_model.specs.Server.{ServerEnd}
use Rattle.ca_model.specs.ServerSteps.{Update}
use Rattle.ca_world_data.specs.Seen.{joined_of}
use Rattle.ca_world_data.specs.Updates.{MayTell}
use Rattle.ca_world_data.proofs.UpdateTellings.{Telling}
use Rattle.ca_world_data.proofs.updates.tell_updates.Given as goal

abbrev pub decreases-telling : goal.decreases-telling
decreases-telling l = length l.bytes - l.read

-- those that were read went down, and the others may
abbrev pub invariant-telling : goal.invariant-telling
invariant-telling l =
    record {
      told : (e : ServerEnd) (us : List Update) → MayTell e us l.bytes l.initial.joined (map deque_items l.initial.rooms.items)
          → Telling us (drop l.read l.bytes) (joined_of l.initial.joined) l.joined (map deque_items l.rooms.items);
    }
