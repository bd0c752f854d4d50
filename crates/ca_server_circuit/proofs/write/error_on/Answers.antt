use Rattle.std.proofs.Common.{◌≡◌, ◌∙◌, ◌++◌, List, ℕ, ap, replicate}
use Rattle.ca_wire.specs.Fields.{Fields, padded}
use Rattle.ca_wire.specs.Header.{header_spelling}
use Rattle.ca_wire.proofs.Making.{quotation-payload}
use Rattle.ca_wire.proofs.Padding.{padded-none}
use Rattle.ca_server_circuit.proofs.write.error_on.Goals as goal

pub returns-in-Ok : goal.returns-in-Ok
returns-in-Ok c =
    let h = c.args.header.now in
    let quoted : List ℕ = header_spelling h ++ replicate 8 0 in
    let head = c.in_ok-spell_header.ensures.ok ∙ ap (λ (l : List ℕ). l ++ header_spelling h) c.in_ok-payload.ensures.items in
    let all = c.in_ok-extend_from_slice.ensures.items ∙ ap (λ (l : List ℕ). l ++ replicate 8 0) head in
    let whole : padded quoted ≡ quoted = padded-none quoted (quotation-payload h).aligned in
    let payload = ap padded all ∙ whole in
    c.in-Ok.ensures.1 ∙ (λ i. let m : Fields = record { command = c.number-command.ensures i; data_type = 0; count = 0; p1 = c.number.ensures i; p2 = c.args.status.number; payload = payload i } in m)
