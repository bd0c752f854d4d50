use Rattle.std.proofs.Common.{◌≡◌, ap, length, arith}
use Rattle.ca_wire.specs.Header.{extended_header, header_spelling}
use Rattle.ca_wire.proofs.Appends.{appended, lacked}
use Rattle.ca_wire.proofs.Headers.{length-extended, length-short, spelling-short, spelling-long-size, spelling-long-count}
use Rattle.ca_wire.proofs.header.spell_header.Goals as goal
use Rattle.ca_wire.proofs.header.spell_header.Goals.{else-header-lt-EXTENDED-via-then-header-lt-EXTENDED+else-header-lt-EXTENDED-2, else-header-lt-EXTENDED-via-else-header-lt-EXTENDED}

pub returns-then-header-lt-EXTENDED-2-clause-ok : goal.returns-then-header-lt-EXTENDED-2-clause-ok
returns-then-header-lt-EXTENDED-2-clause-ok c =
    rw (spelling-short c.args.header.now c.if-header-lt-EXTENDED.true c.if-header-lt-EXTENDED-2.true)
    (appended c.extend_from_slice.result _ _ _ _ c.extend_from_slice.ensures.items c.short_form.ensures)

pub returns-clause-ok : goal.returns-clause-ok
returns-clause-ok c =
    let h = c.args.header.now in
    let long : header_spelling h ≡ extended_header 0 h = elim c.else-header-lt-EXTENDED.branch [
      | else-header-lt-EXTENDED-via-then-header-lt-EXTENDED+else-header-lt-EXTENDED-2 w ↦ spelling-long-count h w.if-header-lt-EXTENDED-2.false
      | else-header-lt-EXTENDED-via-else-header-lt-EXTENDED w ↦ spelling-long-size h w.if-header-lt-EXTENDED.false
    ] in
    rw long
    (appended c.extend_from_slice-2.result _ _ _ _ c.extend_from_slice-2.ensures.items c.extended_form.ensures)

pub returns-then-header-lt-EXTENDED-2-clause-room : goal.returns-then-header-lt-EXTENDED-2-clause-room
returns-then-header-lt-EXTENDED-2-clause-room c =
    let h = c.args.header.now in
    lacked c.extend_from_slice.result _ _ _ _ c.extend_from_slice.ensures.full
    (omega (arith, ap length c.short_form.ensures, length-short h, ap length (spelling-short h c.if-header-lt-EXTENDED.true c.if-header-lt-EXTENDED-2.true)))

pub returns-clause-room : goal.returns-clause-room
returns-clause-room c =
    let h = c.args.header.now in
    let long : header_spelling h ≡ extended_header 0 h = elim c.else-header-lt-EXTENDED.branch [
      | else-header-lt-EXTENDED-via-then-header-lt-EXTENDED+else-header-lt-EXTENDED-2 w ↦ spelling-long-count h w.if-header-lt-EXTENDED-2.false
      | else-header-lt-EXTENDED-via-else-header-lt-EXTENDED w ↦ spelling-long-size h w.if-header-lt-EXTENDED.false
    ] in
    lacked c.extend_from_slice-2.result _ _ _ _ c.extend_from_slice-2.ensures.full
    (omega (arith, ap length c.extended_form.ensures, length-extended 0 h, ap length long))
