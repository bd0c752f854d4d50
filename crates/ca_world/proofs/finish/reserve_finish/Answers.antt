use Rattle.std.proofs.Common.{ℕ, ◌<◌, List, length, subst, arith}
use Rattle.std.specs.Prelude.{slice_set, vec_capacity, vec_len}
use Rattle.ca_text.specs.Place.{At}
use Rattle.ca_world.specs.Finishing.{HasRoomOn}
use Rattle.ca_world_data.specs.declared.joined.Joined.{Joined}
use Rattle.ca_world_data.specs.Numbering.{AllMayCount}
use Rattle.ca_world_data.specs.Seen.{joined_of}
use Rattle.ca_world_data.proofs.Indexes.{numbers-set}
use Rattle.ca_world_data.proofs.Worlds.{found}
use Rattle.ca_world.proofs.Finishings.{counts-set, on-ok, on-ok-then, room-set}
use Rattle.ca_world.proofs.finish.reserve_finish.Goals as goal

pub returns-clause-same : goal.returns-clause-same
returns-clause-same c =
    let ks : List Joined = c.args.circuits.now.items in
    let k : ℕ = c.args.circuit in
    let j : Joined = c.index_mut.result.now in
    let within : k < length ks = omega (arith, c.requires) in
    let at : At ks k j = found ks k j j within c.index_mut.ensures.value in
    numbers-set joined_of ks k j c.reserve_down.new.joined at c.reserve_down.ensures.same

pub returns-clause-counts : goal.returns-clause-counts
returns-clause-counts c =
    let ks : List Joined = c.args.circuits.now.items in
    let k : ℕ = c.args.circuit in
    let j : Joined = c.index_mut.result.now in
    let within : k < length ks = omega (arith, c.requires) in
    let at : At ks k j = found ks k j j within c.index_mut.ensures.value in
    on-ok c.reserve_down.result (AllMayCount (slice_set ks k c.reserve_down.new.joined)) (counts-set ks k j c.reserve_down.new.joined at c.reserve_down.ensures.standing (subst AllMayCount c.deref.ensures.value c.in_ok-check_counts.ensures))

pub returns-clause-space : goal.returns-clause-space
returns-clause-space c =
    let ks : List Joined = c.args.circuits.now.items in
    let k : ℕ = c.args.circuit in
    let new : Joined = c.reserve_down.new.joined in
    on-ok-then c.reserve_down.result (vec_len new.lists.down < vec_capacity new.lists.down) (HasRoomOn k (slice_set ks k new)) (λ room. room-set ks k new room) c.reserve_down.ensures.room
