use Rattle.std.proofs.Common.{◌∙◌, sym, arith}
use Rattle.ca_wire.proofs.Appends.{appended}
use Rattle.ca_wire.proofs.Headers.{spelling-short}
use Rattle.ca_wire.proofs.Messages.{spelling-header_only}
use Rattle.ca_wire.proofs.message.spell.Goals as goal

pub returns-then-capacity-len-ge16-clause-ok : goal.returns-then-capacity-len-ge16-clause-ok
returns-then-capacity-len-ge16-clause-ok c =
    let h = c.header-header.result in
    appended c.extend_from_slice.result _ _ _ _ c.extend_from_slice.ensures.items
    (c.short_form.ensures ∙ sym (spelling-short h (omega (arith, c.if-header-eq0.true)) (omega (arith, c.if-header-lt-EXTENDED.true))) ∙ spelling-header_only c.args.message.now h c.header-header.ensures.header c.if-header-eq0.true)
