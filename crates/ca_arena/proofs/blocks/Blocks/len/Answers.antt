use Rattle.std.proofs.Common.{sym}
use Rattle.ca_arena.proofs.Stored.{length-all}
use Rattle.ca_arena.proofs.blocks.Blocks.len.Goals as goal

pub returns : goal.returns
returns g c = rw (← c.self.view_is) (sym (length-all c.self.inside.len c.self.inside.blocks.items c.self.invariant))
