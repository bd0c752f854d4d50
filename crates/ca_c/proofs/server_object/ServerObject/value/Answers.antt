use Rattle.std.proofs.Common.{rules, ◌≡◌, ◌∙◌, Option, ap, Err, refl, subst, to_z, of_z, w32}
use Rattle.ca_dbr.specs.declared.value.Meta.{Meta}
use Rattle.ca_dbr.specs.Elements.{Elements}
use Rattle.ca_dbr.specs.Held.{bare}
use Rattle.ca_records.specs.Record.{RecordState}
use Rattle.ca_c.specs.Answers.{CopiesValue}
use Rattle.ca_c.specs.Servers.{DoesValue, ShowsRecord}
use Rattle.ca_c.proofs.server_object.ServerObject.value.Goals as goal

-- the image is refused, and nothing is told
pub returns-in-Err : goal.returns-in-Err
unfolding DoesValue
returns-in-Err c =
    let e = c.in-Err.refusal in
    let r : RecordState = c.in-Some.record.now in
    let of_meta =
    subst (λ (v : Elements). CopiesValue c.args.number v c.meta.result.now (Err e) c.args.size.now c.copied_value.new.size c.args.room.now c.copied_value.new.room) (c.value.ensures.bare ∙ ap bare c.held.ensures.held) c.in-Err.ensures in
    let copies = subst (λ (m : Meta). CopiesValue c.args.number (bare r.value) m (Err e) c.args.size.now c.copied_value.new.size c.args.room.now c.copied_value.new.room) c.meta.ensures of_meta in (
      subst (λ (o : Option RecordState). ShowsRecord o c.args.number (to_z w32 (of_z w32 c.refused-in-Err.result)) c.args.count.now c.args.count.now c.args.size.now c.copied_value.new.size c.args.room.now c.copied_value.new.room) c.in-Some.ensures
          (Err e, (search rules, copies, refl)),
      refl,
    )
