use Rattle.std.proofs.Common.{sym, ◌∙◌}
use Rattle.ca_ids.proofs.Holding.{by_wire-none, by_wire-other, by_wire-this}
use Rattle.ca_ids.proofs.held_table.HeldTable.by_wire.Goals as goal

pub returns-in_default : goal.returns-in_default
returns-in_default g c =
    rw (← c.self.view_is)
    (sym (by_wire-none c.self.inside.entries c.args.wire c.self.invariant (rw c.index.ensures at c.in_default.ensures.found)))

pub returns-then-number : goal.returns-then-number
returns-then-number g c =
    rw (← c.self.view_is)
    (sym (by_wire-other c.self.inside.entries c.args.wire c.in-Some.handle c.self.invariant (rw c.index.ensures at c.in-Some.ensures.found) (λ same. c.if-number.true (c.number.ensures ∙ c.of.ensures ∙ same ∙ sym c.number-2.ensures))))

pub returns : goal.returns
returns g c =
    rw (← c.self.view_is)
    (sym (by_wire-this c.self.inside.entries c.args.wire c.in-Some.handle c.in-Some-by_handle.value.now c.self.invariant (rw c.index.ensures at c.in-Some.ensures.found) (sym (c.number.ensures ∙ c.of.ensures) ∙ c.if-number.false ∙ c.number-2.ensures) (sym (rw (← c.self.view_is) at c.in-Some-by_handle.ensures))))
