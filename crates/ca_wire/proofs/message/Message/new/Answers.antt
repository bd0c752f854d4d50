use Rattle.std.proofs.Common.{◌≡◌, ◌≤◌, List, ℕ, refl, ap, ◌∙◌, sym, length, arith}
use Rattle.ca_wire.specs.Fields.{Fields, IsPayload, padded}
use Rattle.ca_wire.proofs.Padding.{padded-payload, padded-over, padded-none, message-of}
use Rattle.ca_wire.proofs.message.Message.new.Goals as goal
use Rattle.ca_wire.proofs.message.Message.new.Goals.{then-over-ne0+in_ok-extend_from_slice, else-over-ne0}

pub returns : goal.returns
returns c =
    let bytes = c.args.payload.items in
    let len : c.len-over.result ≡ length bytes = omega (arith, c.len-over.ensures, c.args.payload.ok) in
    let filled : c.if-over-ne0.payload.items ≡ padded bytes = elim c.if-over-ne0.branch [
      | then-over-ne0+in_ok-extend_from_slice w ↦
          let at : c.if-over-ne0.payload.items ≡ w.extend_from_slice.new.self.items = rw w.payload-is refl in
          at ∙ w.in_ok-extend_from_slice.ensures.items ∙ padded-over bytes _ _ (omega arith) w.if-over-ne0.true (omega arith)
      | else-over-ne0 w ↦
          let at : c.if-over-ne0.payload.items ≡ bytes = rw w.payload-is refl in
          at ∙ sym (padded-none bytes (omega (arith, w.if-over-ne0.false)))
    ] in
    let within : length bytes ≤ 16777216 = omega (arith, c.if-len-gt-PAYLOAD_LIMIT.false, c.len.ensures, c.args.payload.ok) in
    let payload : IsPayload c.if-over-ne0.payload.items = rw filled (padded-payload bytes within) in
    let made : List ℕ → Fields = λ t. record { command = c.args.command; data_type = c.args.data_type; count = c.args.count; p1 = c.args.p1; p2 = c.args.p2; payload = t } in
    (message-of (made c.if-over-ne0.payload.items) (omega arith) (omega arith) (omega arith) (omega arith) (omega arith) payload, ap made filled)
