use Rattle.std.proofs.Common.{arith}
use Rattle.ca_arena.proofs.Slots.{length-freed_from}
use Rattle.ca_arena.proofs.arena.Arena.free_slots.Goals as goal

pub returns : goal.returns
returns g c =
    let given = rw (← c.self.view_is) at c.given.ensures.count in
    rw (← c.self.view_is) (omega (arith, given, length-freed_from c.self.inside.slots.items c.self.inside.freed c.self.inside.first_freed))
