use Rattle.std.proofs.Common.{sym}
use Rattle.ca_arena.proofs.Slots.{none_at}
use Rattle.ca_arena.proofs.arena.Arena.handle_at.Goals as goal

pub returns-in_default-2-clause-found : goal.returns-in_default-2-clause-found
returns-in_default-2-clause-found g c = λ other same.
    let none = rw (c.from.ensures, c.in_default.is) at c.get.ensures in
    rw (← c.self.view_is, same) (none_at c.self.inside.slots.items c.args.index other.generation (sym none))
