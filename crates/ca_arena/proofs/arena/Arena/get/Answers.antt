use Rattle.std.proofs.Common.{sym}
use Rattle.ca_arena.proofs.Slots.{none_at}
use Rattle.ca_arena.proofs.arena.Arena.get.Goals as goal

pub returns-in-None : goal.returns-in-None
returns-in-None g c =
    let none = rw c.from.ensures at c.in-None.ensures in
    rw (← c.self.view_is) (sym (none_at c.self.inside.slots.items c.args.handle.index c.args.handle.generation (sym none)))
