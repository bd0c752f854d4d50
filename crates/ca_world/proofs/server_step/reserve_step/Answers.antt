use Rattle.std.proofs.Common.{◌+◌, ◌≤◌, sym, subst}
use Rattle.std.specs.Prelude.{vec_capacity, vec_len}
use Rattle.ca_world_data.specs.declared.joined.CircuitHistory.{CircuitHistory}
use Rattle.ca_world_data.specs.declared.joined.Joined.{Joined}
use Rattle.ca_world_data.proofs.Steppings.{on-ok}
use Rattle.ca_world_servers.specs.Handling.{HasRoomToBegin}
use Rattle.ca_world.specs.StepParts.{HasRoomAhead}
use Rattle.ca_world.proofs.server_step.reserve_step.Goals as goal

pub returns-clause-room : goal.returns-clause-room
returns-clause-room c =
    let new : Joined = c.reserve_begin.new.joined in
    let notes = c.in_ok-reserve_handled.ensures.room in
    on-ok (HasRoomToBegin c.args.command new) (HasRoomAhead c.args.command new) c.reserve_begin.result
    (λ begins. record {
      notes = record {
        down = subst (λ (l : CircuitHistory). vec_len l.down + 2 ≤ vec_capacity l.down) (sym c.reserve_begin.ensures.lists) notes.down;
        handled = subst (λ (l : CircuitHistory). vec_len l.handled + 1 ≤ vec_capacity l.handled) (sym c.reserve_begin.ensures.lists) notes.handled;
      };
      begins = begins;
    }) c.reserve_begin.ensures.room
