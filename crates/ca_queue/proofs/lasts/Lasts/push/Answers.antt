use Rattle.std.proofs.Common.{◌+◌, ◌≤◌, arith}
use Rattle.std.specs.Vec.{vec_capacity}
use Rattle.indexmap.specs.IndexSet.{index_set_len, spare}
use Rattle.ca_queue.proofs.Rounds.{grown, indexed-push, room-kept}
use Rattle.ca_queue.proofs.lasts.Lasts.push.Goals as goal

pub invariant_of-self : goal.invariant_of-self
invariant_of-self c =
    let fresh = rw (← c.self.view_is) at c.requires.new in
    let more = grown c.args.key c.self.inside.index.keys _ _ _ _ c.self.invariant.keyed fresh c.in-Ok.ensures.added c.in-Ok.ensures.len in
    let room : vec_capacity c.self.inside.lasts ≤ vec_capacity c.push_reserved.new.self = omega (arith, c.push_reserved.ensures.capacity) in
    let spared : index_set_len c.self.inside.index + spare c.self.inside.index ≤ index_set_len c.insert_full.new.self + spare c.insert_full.new.self = omega (arith, more, c.in-Ok.ensures.spare) in
    indexed-push c.args.key c.self.inside.lasts.items c.push_reserved.new.self.items c.self.inside.index.keys c.insert_full.new.self.keys _ _ _ _ _ _ c.self.invariant fresh c.push_reserved.ensures.items c.in-Ok.ensures.keys more
    (room-kept _ _ _ _ _ _ (rw (← c.self.view_is) at c.requires.room) room spared)
