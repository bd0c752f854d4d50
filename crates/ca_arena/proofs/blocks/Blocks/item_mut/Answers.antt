use Rattle.std.proofs.Common.{◌<◌, ◌∙◌, length-set, refl, sym, arith}
use Rattle.ca_arena.proofs.Stored.{block_of, changed, found, length-all, slot_below, stands_for, within_room}
use Rattle.ca_arena.proofs.blocks.Blocks.item_mut.Goals as goal

pub index_mut-requires : goal.index_mut-requires
index_mut-requires g c =
    let asked = rw (← c.self.view_is) at c.requires in
    let blocks = c.self.inside.blocks.items in
    omega (arith, asked, length-all c.self.inside.len blocks c.self.invariant, within_room c.self.inside.len blocks c.self.invariant, c.self.inside.blocks.ok.0)

pub lend_mut-requires : goal.lend_mut-requires
lend_mut-requires g c =
    let asked = rw (← c.self.view_is) at c.requires in
    let blocks = c.self.inside.blocks.items in
    let len = c.self.inside.len in
    let there = found len c.args.index blocks _ c.self.invariant c.index_mut.ensures.value (omega (arith, asked, length-all len blocks c.self.invariant)) in
    (there.used, slot_below c.args.index)

pub invariant_of-self-lent : goal.invariant_of-self-lent
invariant_of-self-lent g c item =
    let asked = rw (← c.self.view_is) at c.requires in
    let blocks = c.self.inside.blocks.items in
    let len = c.self.inside.len in
    (changed len c.args.index blocks _ c.self.invariant c.index_mut.ensures.value (omega (arith, asked, length-all len blocks c.self.invariant)) item).filled

pub returns : goal.returns
returns g c =
    let asked = rw (← c.self.view_is) at c.requires in
    let blocks = c.self.inside.blocks.items in
    let len = c.self.inside.len in
    let within : c.args.index < len = omega (arith, asked, length-all len blocks c.self.invariant) in
    let there = found len c.args.index blocks _ c.self.invariant c.index_mut.ensures.value within in (
      (refl {a = c.lend_mut.result.ghost_name}, λ item. rw (← c.self.view_is) (stands_for blocks _ _ (changed len c.args.index blocks _ c.self.invariant c.index_mut.ensures.value within item).items (length-set blocks (block_of c.args.index) _))),
      record { writes_back = tt; value = rw (← c.self.view_is) (sym there.same ∙ c.lend_mut.ensures.value) },
    )
