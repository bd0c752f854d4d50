use Rattle.std.proofs.Common.{◌≡◌, sym, ◌∙◌, ap, arith}
use Rattle.std.specs.Int.{w16, from_be_bytes}
use Rattle.std.proofs.lemmas.List.{take-append-drop}
use Rattle.ca_wire.specs.Header.{number16}
use Rattle.ca_wire.proofs.Numbers.{number16-at}
use Rattle.ca_wire.proofs.reading.number16_at.Goals as goal

pub returns-clause-front : goal.returns-clause-front
returns-clause-front c =
    let front : number16 (from_be_bytes w16 c.split_at.result.0.now) ≡ c.split_at.result.0.now = rw c.split_at.ensures.front (number16-at c.args.bytes.now c.requires (λ i. omega (arith, c.type_inv.bytes i))) in
    let made : number16 c.from_be_bytes.result ≡ c.split_at.result.0.now = ap number16 c.from_be_bytes.ensures ∙ front in
    rw (made, c.split_at.ensures.front, c.split_at.ensures.back) (sym (take-append-drop 2 c.args.bytes.now))
