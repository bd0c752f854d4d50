use Rattle.std.proofs.Common.{◌∙◌, ap, arith, sym}
use Rattle.std.specs.Prelude.{slice_get, slice_index_or}
use Rattle.std.proofs.Math.Numerals.{add-one}
use Rattle.ca_arena.specs.Layout.{freed_from, link_read}
use Rattle.ca_arena.proofs.Slots.{chained, length-freed_from}
use Rattle.ca_arena.proofs.arena.Arena.freed_before.Goals as goal

pub returns-in-Some : goal.returns-in-Some
returns-in-Some g c = rw (← c.self.view_is) (λ place within at.
    let slots = c.self.inside.slots.items in
    let freed = c.self.inside.freed in
    let first = c.self.inside.first_freed in
    c.next.ensures ∙ ap link_read (c.in-Some.ensures ∙ ap (slice_get slots) at)
    ∙ sym (chained slots freed first place (omega (arith, within, length-freed_from slots freed first)))
    ∙ ap (λ n. slice_index_or (freed_from slots freed first) n 0) (sym (add-one place)))

pub returns-in-None : goal.returns-in-None
returns-in-None g c = rw (← c.self.view_is) (λ place within at.
    let slots = c.self.inside.slots.items in
    let freed = c.self.inside.freed in
    let first = c.self.inside.first_freed in
    ap link_read (c.in-None.ensures ∙ ap (slice_get slots) at)
    ∙ sym (chained slots freed first place (omega (arith, within, length-freed_from slots freed first)))
    ∙ ap (λ n. slice_index_or (freed_from slots freed first) n 0) (sym (add-one place)))
