use Rattle.std.proofs.Common.{◌∙◌, sym, arith}
use Rattle.std.proofs.lemmas.Option.{slice_get_past}
use Rattle.ca_arena.specs.StoredLayout.{all_items}
use Rattle.ca_arena.proofs.Stored.{found, length-all, slot_below, within_room}
use Rattle.ca_arena.proofs.blocks.Blocks.get.Goals as goal

pub returns-then-index-self : goal.returns-then-index-self
returns-then-index-self g c =
    let blocks = c.self.inside.blocks.items in
    rw (← c.self.view_is) (sym (slice_get_past (all_items blocks) c.args.index (omega (arith, c.if-index-self.true, length-all c.self.inside.len blocks c.self.invariant))))

pub index-requires : goal.index-requires
index-requires g c = omega (arith, c.if-index-self.false, within_room c.self.inside.len c.self.inside.blocks.items c.self.invariant, c.self.inside.blocks.ok.0)

pub lend-requires : goal.lend-requires
lend-requires g c =
    let there = found c.self.inside.len c.args.index c.self.inside.blocks.items _ c.self.invariant c.index.ensures (omega (arith, c.if-index-self.false)) in
    (there.used, slot_below c.args.index)

pub returns : goal.returns
returns g c =
    let there = found c.self.inside.len c.args.index c.self.inside.blocks.items _ c.self.invariant c.index.ensures (omega (arith, c.if-index-self.false)) in
    rw (← c.self.view_is) (sym (sym there.same ∙ c.lend.ensures))
