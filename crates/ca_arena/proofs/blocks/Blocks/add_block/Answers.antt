use Rattle.std.proofs.Common.{◌≡◌, ◌∙◌, ◌∷◌, [], ◌++◌, ap, arith}
use Rattle.std.proofs.lemmas.List.{length_push}
use Rattle.ca_arena.specs.StoredLayout.{all_items}
use Rattle.ca_arena.proofs.Stored.{Leaves, grows}
use Rattle.ca_arena.proofs.blocks.Blocks.add_block.Given.{Over}
use Rattle.ca_arena.proofs.blocks.Blocks.add_block.Goals as goal

more : (g : Over) (c : goal.After-push_reserved g) → c.push_reserved.new.self.items ≡ c.self.inside.blocks.items ++ c.in_ok-block.block ∷ []
more g c = c.push_reserved.ensures.items ∙ ap (λ blocks. blocks ++ c.in_ok-block.block ∷ []) c.reserve.ensures.items

grown : (g : Over) (c : goal.After-push_reserved g) → Leaves (c.self.inside.blocks.items ++ c.in_ok-block.block ∷ []) c.self.inside.len (all_items c.self.inside.blocks.items)
grown g c = grows c.self.inside.len c.self.inside.blocks.items c.in_ok-block.block c.self.invariant c.in_ok-block.ensures.0

pub invariant_of-self-2 : goal.invariant_of-self-2
invariant_of-self-2 g c = rw (more g c) (grown g c).filled

pub returns-clause-items : goal.returns-clause-items
returns-clause-items g c = rw (more g c, ← c.self.view_is) (grown g c).items

pub returns-clause-ok : goal.returns-clause-ok
returns-clause-ok g c =
    let blocks = c.self.inside.blocks.items in
    rw (more g c, ← c.self.view_is) (omega (arith, length_push blocks c.in_ok-block.block))
