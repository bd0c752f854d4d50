use Rattle.std.proofs.Common.{◌+◌, ◌≤◌, List, ap, sym, arith}
use Rattle.std.specs.Prelude.{slice_set, vec_capacity, vec_len}
use Rattle.ca_text.specs.Place.{At}
use Rattle.ca_world_data.specs.declared.joined.Joined.{Joined}
use Rattle.ca_world_data.specs.ClientSteps.{HasRoomHeard}
use Rattle.ca_world_data.specs.Seen.{joined_of}
use Rattle.ca_world_data.proofs.Going.{keeps-set}
use Rattle.ca_world_data.proofs.Indexes.{numbers-set}
use Rattle.ca_world_data.proofs.Steppings.{heard-room, on-ok}
use Rattle.ca_world_data.proofs.Worlds.{found}
use Rattle.ca_world_data.proofs.stepping.reserve_client_step.Goals as goal

pub returns-clause-same : goal.returns-clause-same
returns-clause-same c =
    let ks : List Joined = c.args.circuits.now.items in
    let j : Joined = c.index_mut.result.now in
    let at : At ks c.args.circuit j = found ks c.args.circuit j j c.requires c.index_mut.ensures.value in
    numbers-set joined_of ks c.args.circuit j c.reserve_client_step_in.new.joined at c.reserve_client_step_in.ensures.same

pub returns-clause-room : goal.returns-clause-room
returns-clause-room c =
    let ks : List Joined = c.args.circuits.now.items in
    let new : Joined = c.reserve_client_step_in.new.joined in
    on-ok (vec_len new.lists.heard + 1 ≤ vec_capacity new.lists.heard) (HasRoomHeard c.args.circuit (slice_set ks c.args.circuit new)) c.reserve_client_step_in.result
    (heard-room ks c.args.circuit new)
    c.reserve_client_step_in.ensures.room

pub returns-clause-keeps : goal.returns-clause-keeps
returns-clause-keeps c =
    let ks : List Joined = c.args.circuits.now.items in
    let j : Joined = c.index_mut.result.now in
    let at : At ks c.args.circuit j = found ks c.args.circuit j j c.requires c.index_mut.ensures.value in
    let capacity = ap vec_capacity (sym c.reserve_client_step_in.ensures.up) in
    keeps-set ks c.args.circuit j c.reserve_client_step_in.new.joined at (ap vec_len c.reserve_client_step_in.ensures.up) (omega (arith, capacity))
