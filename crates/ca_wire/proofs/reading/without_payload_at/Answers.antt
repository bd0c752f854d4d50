use Rattle.std.proofs.Common.{◌≡◌, ◌++◌, [], refl, sym, ◌∙◌, subst, arith}
use Rattle.ca_wire.specs.declared.header.Header.{Header}
use Rattle.ca_wire.specs.Header.{number16}
use Rattle.ca_wire.specs.Message.{header_of}
use Rattle.ca_wire.specs.Messages.{on_channel}
use Rattle.ca_wire.specs.Reading.{BeginsHeader}
use Rattle.ca_wire.proofs.Headers.{header-same}
use Rattle.ca_wire.proofs.Fronts.{header_only-command, header_only-size, begins-short, six-numbers}
use Rattle.ca_wire.proofs.reading.without_payload_at.Goals as goal

pub returns-then-bytes-lt16 : goal.returns-then-bytes-lt16
returns-then-bytes-lt16 c w begins = (let room = begins.room in let few = c.if-bytes-lt16.true in omega arith)

pub returns-then-number : goal.returns-then-number
returns-then-number c w begins =
    c.if-number.true (header_only-command c.args.bytes.now c.args.command w _ _ begins (omega arith) c.number16_at-number.ensures.front ∙ sym c.number.ensures)

pub returns-then-size-ne0 : goal.returns-then-size-ne0
returns-then-size-ne0 c w begins =
    c.if-size-ne0.true (header_only-size c.args.bytes.now c.args.command w _ _ _ _ begins (omega arith) (omega arith) c.number16_at-number.ensures.front c.number16_at-size.ensures.front)

pub returns : goal.returns
returns c =
    let h : Header = record { command = c.number16_at-number.result.0; data_type = c.number16_at-data_type.result.0; size = 0; count = c.from.result; p1 = c.number32_at-sid.result.0; p2 = c.number32_at-id.result.0 } in
    let is : Header = header_of (on_channel c.args.command (record { sid = c.new.result; id = c.new-2.result; data_type = c.number16_at-data_type.result.0; count = c.from.result }) []) in
    let size : c.number16_at-number.result.1.now ≡ number16 0 ++ c.number16_at-size.result.1.now = rw (← c.if-size-ne0.false) c.number16_at-size.ensures.front in
    let count : c.number16_at-data_type.result.1.now ≡ number16 c.from.result ++ c.number16_at-count16.result.1.now = rw c.from.ensures c.number16_at-count16.ensures.front in
    let begins : BeginsHeader c.args.bytes.now (record { header = h; start = 16 }) =
    begins-short h c.args.bytes.now c.number32_at-id.result.1.now (record { command = omega arith; data_type = omega arith; size = omega arith; count = omega arith; p1 = omega arith; p2 = omega arith }) (omega arith) (omega arith)
    (six-numbers h c.args.bytes.now _ _ _ _ _ c.number32_at-id.result.1.now c.number16_at-number.ensures.front size c.number16_at-data_type.ensures.front count c.number32_at-sid.ensures.front c.number32_at-id.ensures.front) in
    subst (λ (g : Header). BeginsHeader c.args.bytes.now (record { header = g; start = 16 })) (header-same h is (c.if-number.false ∙ c.number.ensures) refl refl refl (sym c.new.ensures) (sym c.new-2.ensures)) begins
