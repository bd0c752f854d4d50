use Rattle.std.proofs.Common.{◌≡◌, ℕ, length, map}
use Rattle.ca_text.specs.Place.{At}
use Rattle.ca_world_data.specs.declared.joined.Joined.{Joined}
use Rattle.ca_world_data.specs.Seen.{joined_of}
use Rattle.ca_world_servers.specs.declared.losing.Leading.{Leading}
use Rattle.ca_world_servers.specs.Losing.{IsReady}
use Rattle.ca_world_servers.proofs.losing.prepare_losses.Given as goal

-- all are as they were, and those before this place are ready
abbrev pub invariant-loop-joined : goal.invariant-loop-joined
invariant-loop-joined l =
    record {
      same : map joined_of l.circuits ≡ map joined_of l.initial.circuits;
      ready : (k : ℕ) (j : Joined) (one : Leading) → At l.circuits k j → At l.all.items k one → IsReady l.server l.core l.name j one;
      long : length l.all.items ≡ l.joined-index;
    }
