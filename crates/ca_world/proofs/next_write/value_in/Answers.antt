use Rattle.std.proofs.Common.{◌≡◌, ap, refl, ◌∙◌}
use Rattle.ca_model.specs.History as history
use Rattle.ca_world_data.specs.Seen.{entry_of, stored_of}
use Rattle.ca_world.proofs.next_write.value_in.Goals as goal

pub returns-then-place-put : goal.returns-then-place-put
returns-then-place-put c =
    let n : c.in-Waits.circuit ≡ c.args.put.circuit = c.if-circuit-put.true in
    let k : c.in-Waits.place ≡ c.args.put.place = c.if-place-put.true in (
      c.in-Waits.field-2,
      stored_of c.in-Waits.stored,
      ap entry_of c.in-Waits.is ∙ (λ t. history.Waits (n t) (k t) c.in-Waits.field-2 (stored_of c.in-Waits.stored)),
      refl,
    )
