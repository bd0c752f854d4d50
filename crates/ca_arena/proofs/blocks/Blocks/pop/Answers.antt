use Rattle.std.proofs.Common.{◌-◌, length-set, sym, arith}
use Rattle.ca_arena.proofs.Stored.{block_of, ends, length-all, popped, slot_below, stands_for, within_room}
use Rattle.ca_arena.proofs.blocks.Blocks.pop.Goals as goal

pub overflow_sub-index : goal.overflow_sub-index
overflow_sub-index g c =
    let some = rw (← c.self.view_is) at c.requires in
    omega (arith, some, length-all c.self.inside.len c.self.inside.blocks.items c.self.invariant)

pub index_mut-requires : goal.index_mut-requires
index_mut-requires g c =
    let some = rw (← c.self.view_is) at c.requires in
    let blocks = c.self.inside.blocks.items in
    let len = c.self.inside.len in
    omega (arith, some, length-all len blocks c.self.invariant, within_room len blocks c.self.invariant, c.self.inside.blocks.ok.0)

pub take_out-requires : goal.take_out-requires
take_out-requires g c =
    let some = rw (← c.self.view_is) at c.requires in
    let blocks = c.self.inside.blocks.items in
    let len = c.self.inside.len in
    (ends len (len - 1) blocks _ c.self.invariant c.index_mut.ensures.value (omega (arith, some, length-all len blocks c.self.invariant)), slot_below (len - 1))

pub invariant_of-self : goal.invariant_of-self
invariant_of-self g c =
    let some = rw (← c.self.view_is) at c.requires in
    let blocks = c.self.inside.blocks.items in
    let len = c.self.inside.len in
    (popped len (len - 1) blocks _ c.self.invariant c.index_mut.ensures.value (omega (arith, some, length-all len blocks c.self.invariant)) _ _ c.take_out.ensures).filled

pub returns : goal.returns
returns g c =
    let some = rw (← c.self.view_is) at c.requires in
    let blocks = c.self.inside.blocks.items in
    let len = c.self.inside.len in
    let on = popped len (len - 1) blocks _ c.self.invariant c.index_mut.ensures.value (omega (arith, some, length-all len blocks c.self.invariant)) _ _ c.take_out.ensures in
    rw (← c.self.view_is) (stands_for _ blocks _ on.items (sym (length-set blocks (block_of (len - 1)) _)))
