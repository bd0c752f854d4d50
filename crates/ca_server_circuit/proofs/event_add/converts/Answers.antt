use Rattle.std.proofs.Common.{◌∙◌, ap, subst, sym}
use Rattle.std.specs.Prelude.{IsTrue, ◌↔◌}
use Rattle.ca_text.proofs.Places.{some_is}
use Rattle.ca_dbr.specs.declared.data_type.BaseType.{BaseType}
use Rattle.ca_dbr.specs.Conversion.{HasConversion}
use Rattle.ca_dbr.specs.Held.{display_of}
use Rattle.ca_dbr.specs.Data.{data_of}
use Rattle.ca_display.specs.Types.{base_in}
use Rattle.ca_server_circuit.proofs.Subscribes.{converts-display, converts-plain, is-some, not-some}
use Rattle.ca_server_subscriptions.proofs.Imaging.{image_type-of-number}
use Rattle.ca_server_circuit.proofs.event_add.converts.Goals as goal

pub returns-then-is_some : goal.returns-then-is_some
returns-then-is_some c = λ t typed.
    converts-display (display_of c.args.held.now) c.args.held.now (base_in t) (is-some (λ d. data_of d.now) c.display.result (display_of c.args.held.now) c.display.ensures (sym c.is_some.ensures ∙ c.if-is_some.true))

pub returns-in-Some : goal.returns-in-Some
returns-in-Some c = λ t typed.
    let h = c.args.held.now in
    let it = c.in-Some.image_type in
    let same = some_is it t (sym (image_type-of-number it c.args.number c.in-Some.ensures) ∙ typed) in
    let from = c.base_type.ensures ∙ c.value.ensures.base in
    converts-plain (display_of h) h (base_in t) c.has_conversion.result (not-some (λ d. data_of d.now) c.display.result (display_of h) c.display.ensures (sym c.is_some.ensures ∙ c.if-is_some.false))
    (subst (λ (b : BaseType). IsTrue c.has_conversion.result ↔ HasConversion b (base_in t)) from (subst (λ (b : BaseType). IsTrue c.has_conversion.result ↔ HasConversion c.base_type.result b) (c.base.ensures ∙ ap base_in same) c.has_conversion.ensures))
