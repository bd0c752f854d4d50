use Rattle.std.proofs.Common.{◌≡◌, ◌+◌, ◌-◌, ◌∙◌, suc, sym, ap, arith}
use Rattle.ca_arena.specs.Arena.{Place, place_at}
use Rattle.ca_arena.proofs.Slots.{fills, is_fresh, next_is_first, none_named, place_there, places, some_named}
use Rattle.ca_arena.proofs.arena.Arena.insert.Goals as goal

pub append-requires : goal.append-requires
append-requires g c =
    rw (← c.self.view_is) (none_named c.self.inside.slots.items c.self.inside.freed c.self.inside.first_freed c.self.inside.retired c.self.invariant c.if-self-eq-ARENA_SLOTS.true)

pub invariant_of-self : goal.invariant_of-self
invariant_of-self g c =
    let read = rw c.from.ensures at c.item_mut-slot.ensures.value in
    let slots = c.self.inside.slots.items in
    let freed = c.self.inside.freed in
    let first = c.self.inside.first_freed in
    let fewer : freed ≡ suc (freed - 1) = omega (arith, some_named slots freed first c.self.inside.retired c.self.invariant c.if-self-eq-ARENA_SLOTS.false) in
    let after = fills slots freed (freed - 1) first c.fill-self-inside.result (c.generation-generation.result + 1) c.self.inside.retired _ c.args.value c.self.invariant fewer read (ap (λ n. n + 1) c.generation-generation.ensures) c.fill-self-inside.ensures.next in
    rw (c.fill-self-inside.ensures.filled, c.from.ensures) after.laid_out

pub returns-clause-inserts : goal.returns-clause-inserts
returns-clause-inserts g c =
    let read = rw c.from.ensures at c.item_mut-slot.ensures.value in
    let slots = c.self.inside.slots.items in
    let freed = c.self.inside.freed in
    let first = c.self.inside.first_freed in
    let fewer : freed ≡ suc (freed - 1) = omega (arith, some_named slots freed first c.self.inside.retired c.self.invariant c.if-self-eq-ARENA_SLOTS.false) in
    let after = fills slots freed (freed - 1) first c.fill-self-inside.result (c.generation-generation.result + 1) c.self.inside.retired _ c.args.value c.self.invariant fewer read (ap (λ n. n + 1) c.generation-generation.ensures) c.fill-self-inside.ensures.next in
    let later : c.generation-generation.result + 1 ≡ (place_at (places slots) first).generation + 1 = ap (λ n. n + 1) (c.generation-generation.ensures ∙ ap (λ (p : Place g.row.T.Denot). p.generation) (sym (place_there slots first _ read))) in (
      rw (← c.self.view_is) after.free,
      rw (← c.self.view_is) (next_is_first slots freed first (c.generation-generation.result + 1) (some_named slots freed first c.self.inside.retired c.self.invariant c.if-self-eq-ARENA_SLOTS.false) later),
      rw (c.fill-self-inside.ensures.filled, c.from.ensures, ← c.self.view_is) after.contents,
    )

pub returns-clause-fresh : goal.returns-clause-fresh
returns-clause-fresh g c =
    let read = rw c.from.ensures at c.item_mut-slot.ensures.value in
    let slots = c.self.inside.slots.items in
    let freed = c.self.inside.freed in
    let first = c.self.inside.first_freed in
    let later : c.generation-generation.result + 1 ≡ (place_at (places slots) first).generation + 1 = ap (λ n. n + 1) (c.generation-generation.ensures ∙ ap (λ (p : Place g.row.T.Denot). p.generation) (sym (place_there slots first _ read))) in
    rw (← c.self.view_is) (is_fresh slots freed first (c.generation-generation.result + 1) c.self.inside.retired c.self.invariant (some_named slots freed first c.self.inside.retired c.self.invariant c.if-self-eq-ARENA_SLOTS.false) later)

pub returns-clause-sound : goal.returns-clause-sound
returns-clause-sound g c = (invariant_of-self g c).sound
