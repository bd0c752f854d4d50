use Rattle.std.proofs.Common.{◌≡◌, ◌∙◌, ◌+◌, ap, arith, length, sym}
use Rattle.std.proofs.lemmas.Grind.{div_ceil_times}
use Rattle.ca_arena.specs.Block.{block_slots}
use Rattle.ca_arena.specs.Stored.{Stored}
use Rattle.ca_arena.proofs.Stored.{length-all}
use Rattle.ca_arena.proofs.blocks.Blocks.make_room.Goals as goal

pub overflow_add-self-inside : goal.overflow_add-self-inside
overflow_add-self-inside g c =
    let few = rw (← c.self.view_is) at c.requires in
    omega (arith, few, length-all c.self.inside.len c.self.inside.blocks.items c.self.invariant)

pub returns-clause-ok : goal.returns-clause-ok
returns-clause-ok g c =
    let len = c.self.inside.len in
    let up = div_ceil_times (len + c.args.more) block_slots (omega arith) in
    let long : length c.args.self.now.items ≡ len = ap (λ (s : Stored g.row.T.Denot). length s.items) (sym c.self.view_is) ∙ length-all len c.self.inside.blocks.items c.self.invariant in
    omega (arith, up.0, c.div_ceil-needed.ensures, c.loop-block-test.false, c.loop-block.invariant.1, ap length c.loop-block.invariant.0, long)
