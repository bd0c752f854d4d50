use Rattle.std.proofs.Common.{length-set, refl, arith}
use Rattle.ca_arena.proofs.Stored.{block_of, length-all, pushed, slot_below, stands_for}
use Rattle.ca_arena.proofs.blocks.Blocks.push.Goals as goal

pub index_mut-requires : goal.index_mut-requires
index_mut-requires g c =
    let room = rw (← c.self.view_is) at c.requires.room in
    let blocks = c.self.inside.blocks.items in
    omega (arith, room, length-all c.self.inside.len blocks c.self.invariant, c.self.inside.blocks.ok.0)

pub write-requires : goal.write-requires
write-requires g c =
    let room = rw (← c.self.view_is) at c.requires.room in
    let blocks = c.self.inside.blocks.items in
    let len = c.self.inside.len in
    ((pushed len len blocks _ c.self.invariant c.index_mut.ensures.value refl (omega (arith, room, length-all len blocks c.self.invariant)) c.args.item).next, slot_below len)

pub overflow_add-self : goal.overflow_add-self
overflow_add-self g c =
    let few = rw (← c.self.view_is) at c.requires.few in
    omega (arith, few, length-all c.self.inside.len c.self.inside.blocks.items c.self.invariant)

pub invariant_of-self : goal.invariant_of-self
invariant_of-self g c =
    let room = rw (← c.self.view_is) at c.requires.room in
    let blocks = c.self.inside.blocks.items in
    let len = c.self.inside.len in
    rw c.write.ensures (pushed len len blocks _ c.self.invariant c.index_mut.ensures.value refl (omega (arith, room, length-all len blocks c.self.invariant)) c.args.item).after.filled

pub returns : goal.returns
returns g c =
    let room = rw (← c.self.view_is) at c.requires.room in
    let blocks = c.self.inside.blocks.items in
    let len = c.self.inside.len in
    let on = pushed len len blocks _ c.self.invariant c.index_mut.ensures.value refl (omega (arith, room, length-all len blocks c.self.invariant)) c.args.item in
    rw (← c.self.view_is, c.write.ensures) (stands_for blocks _ _ on.after.items (length-set blocks (block_of len) _))
