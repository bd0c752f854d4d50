use Rattle.std.proofs.Common.{◌≡◌, length, ap, arith}
use Rattle.ca_wire.specs.Fields.{Fields}
use Rattle.ca_wire.specs.Header.{header_spelling}
use Rattle.ca_wire.specs.Message.{header_of}
use Rattle.ca_wire.proofs.Headers.{header_spelling-short}
use Rattle.ca_wire.proofs.Messages.{length-spelling}
use Rattle.ca_wire.proofs.message.spelled_size.Goals as goal

pub overflow_add-result : goal.overflow_add-result
overflow_add-result c = omega (arith, c.header_size.ensures, header_spelling-short c.header.result, c.len.ensures, c.message.inside.payload.ok, c.message.invariant.payload.within)

pub returns : goal.returns
returns c =
    let m = c.args.message.now in
    let payload : length c.message.inside.payload.items ≡ length m.payload = ap (λ (f : Fields). length f.payload) c.message.view_is in
    let head : length (header_spelling c.header.result) ≡ length (header_spelling (header_of m)) = ap (λ (h : _). length (header_spelling h)) c.header.ensures.header in
    omega (arith, length-spelling m, payload, head, c.header_size.ensures, c.len.ensures, c.message.inside.payload.ok)
