use Rattle.std.proofs.Common.{◌≡◌, subst, ◌∙◌, refl, Ok}
use Rattle.ca_dbr.specs.declared.data_type.BaseType.{BaseType}
use Rattle.ca_dbr.specs.Elements.{elements}
use Rattle.ca_dbr.specs.Shown.{first_elements}
use Rattle.ca_dbr.specs.Data.{data_of}
use Rattle.ca_display.specs.Types.{base_in}
use Rattle.ca_display.specs.Conversion.{display_converted}
use Rattle.ca_display.proofs.Images.{own_written}
use Rattle.ca_display.proofs.Shown.{display_converted-is, first-unshown, shows-converted}
use Rattle.ca_display.proofs.image.write_converted.Goals as goal

pub returns-in-Err : goal.returns-in-Err
returns-in-Err c =
    (refl, first-unshown (data_of c.args.display.now) (elements c.args.value.now) c.args.count (base_in c.args.image_type) c.base.result c.in-Err.refusal c.base.ensures c.in-Err.ensures.err)

pub write_own-requires : goal.write_own-requires
write_own-requires c =
    (display_converted-is (data_of c.args.display.now) (first_elements c.args.count (elements c.args.value.now)) c.base.result (elements c.in-Ok.shown) c.in-Ok.ensures.ok).0 ∙ c.base.ensures

pub returns-in-Ok : goal.returns-in-Ok
returns-in-Ok c =
    let d = data_of c.args.display.now in
    let e = elements c.args.value.now in
    let g = elements c.in-Ok.shown in
    let b = base_in c.args.image_type in
    let made : display_converted d (first_elements c.args.count e) b ≡ Ok g = subst (λ (x : BaseType). display_converted d (first_elements c.args.count e) x ≡ Ok g) c.base.ensures c.in-Ok.ensures.ok in
    own_written c.args.image_type c.args.count g e c.args.meta.now d c.args.out.now.items c.write_own.new.out.items c.write_own.result (shows-converted d e g c.args.count b made) c.write_own.ensures.written c.write_own.ensures.err c.write_own.ensures.stays
