use Rattle.ca_arena.proofs.Ahead.{vacant-is}
use Rattle.ca_arena.proofs.Slots.{first-named}
use Rattle.ca_arena.proofs.arena.Arena.vacant.Goals as goal

pub handle_after-requires : goal.handle_after-requires
handle_after-requires g c = rw (← c.self.view_is) (first-named c.self.inside.slots.items c.self.inside.freed c.self.inside.first_freed)

pub returns : goal.returns
returns g c = vacant-is c.args.self.now c.handle_after.result c.handle_after.ensures
