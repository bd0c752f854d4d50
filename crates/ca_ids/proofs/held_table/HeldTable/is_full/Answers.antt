use Rattle.std.proofs.Common.{◌==◌, ap, ◌∙◌, ℕ}
use Rattle.ca_ids.proofs.Holding.{is_full-slots}
use Rattle.ca_ids.proofs.held_table.HeldTable.is_full.Goals as goal

pub returns : goal.returns
returns g c =
    rw (← c.self.view_is) (ap (λ (n : ℕ). n == 0) c.free_slots.ensures ∙ is_full-slots c.self.inside.entries c.self.invariant)
