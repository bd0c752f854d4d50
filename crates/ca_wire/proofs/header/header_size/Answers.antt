use Rattle.std.proofs.Common.{◌≡◌, length, sym, ap, ◌∙◌}
use Rattle.ca_wire.specs.Header.{extended_header, header_spelling}
use Rattle.ca_wire.proofs.Headers.{spelling-short, spelling-long-size, spelling-long-count, length-short, length-extended}
use Rattle.ca_wire.proofs.header.header_size.Goals as goal
use Rattle.ca_wire.proofs.header.header_size.Goals.{else-header-lt-EXTENDED-via-then-header-lt-EXTENDED+else-header-lt-EXTENDED-2, else-header-lt-EXTENDED-via-else-header-lt-EXTENDED}

pub returns-then-header-lt-EXTENDED-2 : goal.returns-then-header-lt-EXTENDED-2
returns-then-header-lt-EXTENDED-2 c =
    let h = c.args.header.now in
    sym (ap length (spelling-short h c.if-header-lt-EXTENDED.true c.if-header-lt-EXTENDED-2.true) ∙ length-short h)

pub returns : goal.returns
returns c =
    let h = c.args.header.now in
    let long : header_spelling h ≡ extended_header 0 h = elim c.else-header-lt-EXTENDED.branch [
      | else-header-lt-EXTENDED-via-then-header-lt-EXTENDED+else-header-lt-EXTENDED-2 w ↦ spelling-long-count h w.if-header-lt-EXTENDED-2.false
      | else-header-lt-EXTENDED-via-else-header-lt-EXTENDED w ↦ spelling-long-size h w.if-header-lt-EXTENDED.false
    ] in
    sym (ap length long ∙ length-extended 0 h)
