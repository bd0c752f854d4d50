use Rattle.std.proofs.Common.{inl, ap, refl, ◌∙◌}
use Rattle.ca_c.specs.declared.repeater_object.RepeaterObject.{RepeaterObject}
use Rattle.ca_c.proofs.repeater.cvz_repeater_new.Goals as goal

-- what the box has is what was begun
pub returns : goal.returns
returns c =
    let is = c.in-Ok.ensures.ok in
    inl (refl, (c.in-Ok.object.value, (c.put.ensures, ap (λ (s : RepeaterObject). s.core) is ∙ c.new.ensures, ap (λ (s : RepeaterObject). s.sends.items) is ∙ c.new-2.ensures.items, ap (λ (s : RepeaterObject). s.taken) is)))
