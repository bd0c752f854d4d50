use Rattle.std.proofs.Common.{refl, sym, ◌∙◌}
use Rattle.ca_dbr.specs.Elements.{elements}
use Rattle.ca_records.specs.Record.{RecordState, unset}
use Rattle.ca_world.proofs.Judgements.{add-judged, add-there, add-unnamed}
use Rattle.ca_world.proofs.judging.takes_record.Goals as goal

pub returns-then-not-is_named : goal.returns-then-not-is_named
returns-then-not-is_named c = λ slow.
    let s : RecordState = record { name = c.args.name.now; count = c.args.count; slow = slow; value = elements c.args.value.now; meta = unset } in
    add-unnamed c.args.core.now.records s (c.is_named.ensures.no c.if-not-is_named.true)

pub returns-then-takes_removal : goal.returns-then-takes_removal
returns-then-takes_removal c = λ slow.
    let s : RecordState = record { name = c.args.name.now; count = c.args.count; slow = slow; value = elements c.args.value.now; meta = unset } in
    add-there c.args.core.now.records s (c.is_named.ensures.yes c.if-not-is_named.false) (sym c.takes_removal.ensures ∙ c.if-takes_removal.true)

pub returns : goal.returns
returns c = λ slow.
    let s : RecordState = record { name = c.args.name.now; count = c.args.count; slow = slow; value = elements c.args.value.now; meta = unset } in
    add-judged c.args.core.now.records s c.may_hold.result (c.is_named.ensures.yes c.if-not-is_named.false) (sym c.takes_removal.ensures ∙ c.if-takes_removal.false) refl c.may_hold.ensures.yes c.may_hold.ensures.no
