use Rattle.std.proofs.Common.{◌+◌, refl, arith}
use Rattle.std.proofs.lemmas.Bool.{eq-eqb, ne_eqb}
use Rattle.ca_text.specs.Limits.{last_generation}
use Rattle.ca_arena.proofs.Slots.{frees, read_live, retires}
use Rattle.ca_arena.proofs.arena.Arena.remove.Goals as goal

pub invariant_of-self : goal.invariant_of-self
invariant_of-self g c =
    let alive = rw (← c.self.view_is) at (c.is_live.ensures.0 c.if-not-is_live.false) in
    let read = rw c.from-index.ensures at c.item_mut-slot.ensures.value in
    let inside = c.self.inside in
    let last = eq-eqb c.args.handle.generation last_generation c.if-handle-eq-LAST_GENERATION.true in
    let after = retires inside.slots.items inside.freed inside.first_freed inside.retired (inside.retired + 1) c.args.handle _ _ c.self.invariant alive read c.vacate-value.ensures.value last refl in
    rw (c.vacate-value.ensures.vacated, c.from-index.ensures) after.laid_out

pub returns-then-handle-eq-LAST_GENERATION : goal.returns-then-handle-eq-LAST_GENERATION
returns-then-handle-eq-LAST_GENERATION g c =
    let alive = rw (← c.self.view_is) at (c.is_live.ensures.0 c.if-not-is_live.false) in
    let read = rw c.from-index.ensures at c.item_mut-slot.ensures.value in
    let inside = c.self.inside in
    let last = eq-eqb c.args.handle.generation last_generation c.if-handle-eq-LAST_GENERATION.true in
    let known = read_live inside.slots.items inside.freed inside.first_freed c.args.handle _ _ alive read c.vacate-value.ensures.value in
    let after = retires inside.slots.items inside.freed inside.first_freed inside.retired (inside.retired + 1) c.args.handle _ _ c.self.invariant alive read c.vacate-value.ensures.value last refl in
    (rw (← c.self.view_is) known.found, rw (c.vacate-value.ensures.vacated, c.from-index.ensures, ← c.self.view_is) after.contents)

pub invariant_of-self-2 : goal.invariant_of-self-2
invariant_of-self-2 g c =
    let alive = rw (← c.self.view_is) at (c.is_live.ensures.0 c.if-not-is_live.false) in
    let read = rw c.from-index.ensures at c.item_mut-slot.ensures.value in
    let inside = c.self.inside in
    let lasting = ne_eqb c.args.handle.generation last_generation c.if-handle-eq-LAST_GENERATION.false in
    let after = frees inside.slots.items inside.freed inside.first_freed inside.retired (inside.freed + 1) c.args.handle _ _ c.self.invariant alive read c.vacate-value.ensures.value lasting (omega arith) in
    rw (c.vacate-value.ensures.vacated, c.from-index.ensures) after.laid_out

pub returns : goal.returns
returns g c =
    let alive = rw (← c.self.view_is) at (c.is_live.ensures.0 c.if-not-is_live.false) in
    let read = rw c.from-index.ensures at c.item_mut-slot.ensures.value in
    let inside = c.self.inside in
    let lasting = ne_eqb c.args.handle.generation last_generation c.if-handle-eq-LAST_GENERATION.false in
    let known = read_live inside.slots.items inside.freed inside.first_freed c.args.handle _ _ alive read c.vacate-value.ensures.value in
    let after = frees inside.slots.items inside.freed inside.first_freed inside.retired (inside.freed + 1) c.args.handle _ _ c.self.invariant alive read c.vacate-value.ensures.value lasting (omega arith) in
    (rw (← c.self.view_is) known.found, rw (c.vacate-value.ensures.vacated, c.from-index.ensures, ← c.self.view_is) after.contents)
