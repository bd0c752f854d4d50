use Rattle.std.proofs.Common.{◌≡◌, ◌∙◌, ap, length, arith}
use Rattle.std.proofs.lemmas.Bool.Decides.{nat_tests}
use Rattle.ca_wire.specs.Message.{header_of}
use Rattle.ca_wire.proofs.Headers.{length-short}
use Rattle.ca_wire.specs.Header.{short_header}
use Rattle.ca_wire.specs.Messages.{version_reply}
use Rattle.ca_dgram.proofs.Searches.{length-begun, begun-empty}
use Rattle.ca_dgram.proofs.search.begin.Goals as goal

pub append-requires : goal.append-requires
append-requires c =
    let none : length c.args.out.now.items ≡ 0 = grind (arith, nat_tests) in
    omega (arith, length-begun c.args.out.now.items none, ap length (c.short_form-header.ensures ∙ ap short_header c.version_header.ensures), length-short (header_of version_reply))

pub returns-then-is_empty-clause-items : goal.returns-then-is_empty-clause-items
returns-then-is_empty-clause-items c =
    let none : length c.args.out.now.items ≡ 0 = grind (arith, nat_tests) in
    c.append.ensures.items ∙ begun-empty c.args.out.now.items c.short_form-header.result none (c.short_form-header.ensures ∙ ap short_header c.version_header.ensures)
