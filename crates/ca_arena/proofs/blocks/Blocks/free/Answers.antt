use Rattle.std.proofs.Common.{◌∙◌, sym, refl, ap, arith, length, Global}
use Rattle.std.proofs.lemmas.List.{length-take}
use Rattle.ca_arena.specs.declared.block.Block.{Block}
use Rattle.ca_arena.specs.StoredLayout.{all_items}
use Rattle.ca_arena.proofs.Stored.{none_before, none_in_last}
use Rattle.ca_arena.proofs.blocks.Blocks.free.Goals as goal

pub free-requires : goal.free-requires
free-requires g c = (none_in_last c.pop.new.self.items c.in-Some.block (ap all_items (sym c.in-Some.ensures.items) ∙ c.loop-freed.invariant.1), refl)

pub loop-freed-preserved : goal.loop-freed-preserved
loop-freed-preserved g c = (omega (arith, ap length c.pop.ensures.rest, length-take {A = Block g.row.T.Denot Global}), none_before c.pop.new.self.items _ (ap all_items (sym c.pop.ensures.items) ∙ c.loop-freed.invariant.1))
