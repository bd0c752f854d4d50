use Rattle.std.proofs.Common.{refl}
use Rattle.ca_arena.proofs.Slots.{live_some, live_within, read_live, rewrites}
use Rattle.ca_arena.proofs.arena.Arena.value_mut.Goals as goal

pub item_mut-requires : goal.item_mut-requires
item_mut-requires g c =
    let alive = rw (← c.self.view_is) at c.requires in
    rw c.from.ensures (live_within c.self.inside.slots.items c.self.inside.freed c.self.inside.first_freed c.args.handle alive)

pub value_mut-requires : goal.value_mut-requires
value_mut-requires g c =
    let alive = rw (← c.self.view_is) at c.requires in
    let read = rw c.from.ensures at c.item_mut.ensures.value in
    live_some c.self.inside.slots.items c.self.inside.freed c.self.inside.first_freed c.args.handle _ alive read

pub invariant_of-self-lent : goal.invariant_of-self-lent
invariant_of-self-lent g c w =
    let alive = rw (← c.self.view_is) at c.requires in
    let read = rw c.from.ensures at c.item_mut.ensures.value in
    let after = rewrites c.self.inside.slots.items c.self.inside.freed c.self.inside.first_freed c.self.inside.retired c.args.handle _ _ w c.self.invariant alive read c.value_mut.ensures.value in
    rw c.from.ensures after.laid_out

pub returns : goal.returns
returns g c =
    let alive = rw (← c.self.view_is) at c.requires in
    let read = rw c.from.ensures at c.item_mut.ensures.value in
    let slots = c.self.inside.slots.items in
    let freed = c.self.inside.freed in
    let first = c.self.inside.first_freed in
    let known = read_live slots freed first c.args.handle _ _ alive read c.value_mut.ensures.value in (
      (refl {a = c.value_mut.result.ghost_name}, λ w. let after = rewrites slots freed first c.self.inside.retired c.args.handle _ _ w c.self.invariant alive read c.value_mut.ensures.value in rw (← c.self.view_is, c.from.ensures) after.contents),
      record { writes_back = tt; value = rw (← c.self.view_is) known.found },
    )
