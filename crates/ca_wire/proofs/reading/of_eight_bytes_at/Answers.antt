use Rattle.std.proofs.Common.{◌≡◌, ◌++◌, take, refl, sym, ◌∙◌, subst, arith}
use Rattle.ca_wire.specs.declared.header.Header.{Header}
use Rattle.ca_wire.specs.declared.requests.Wanted.{Wanted}
use Rattle.ca_wire.specs.Header.{HeaderSpells, number16}
use Rattle.ca_wire.specs.Reading.{BeginsHeader, scalar_header}
use Rattle.ca_wire.proofs.Headers.{header-same}
use Rattle.ca_wire.proofs.Fronts.{begins-short, six-numbers}
use Rattle.ca_wire.proofs.Shorts.{short-command, short-size}
use Rattle.ca_wire.proofs.reading.of_eight_bytes_at.Goals as goal

pub returns-then-bytes-lt24 : goal.returns-then-bytes-lt24
returns-then-bytes-lt24 c w begins = (let room = begins.room in let few = c.if-bytes-lt24.true in omega arith)

pub returns-then-number : goal.returns-then-number
returns-then-number c w begins =
    c.if-number.true (short-command c.args.bytes.now c.args.command w _ _ begins (omega arith) c.number16_at-number.ensures.front ∙ sym c.number.ensures)

pub returns-then-size-ne8 : goal.returns-then-size-ne8
returns-then-size-ne8 c w begins =
    c.if-size-ne8.true (short-size c.args.bytes.now c.args.command w _ _ _ _ begins (omega arith) (omega arith) c.number16_at-number.ensures.front c.number16_at-size.ensures.front)

pub returns : goal.returns
returns c =
    let h : Header = record { command = c.number16_at-number.result.0; data_type = c.number16_at-data_type.result.0; size = 8; count = c.from.result; p1 = c.number32_at-sid.result.0; p2 = c.number32_at-id.result.0 } in
    let w : Wanted = record { sid = c.new.result; id = c.new-2.result; data_type = c.number16_at-data_type.result.0; count = c.from.result } in
    let size : c.number16_at-number.result.1.now ≡ number16 8 ++ c.number16_at-size.result.1.now = rw (← c.if-size-ne8.false) c.number16_at-size.ensures.front in
    let count : c.number16_at-data_type.result.1.now ≡ number16 c.from.result ++ c.number16_at-count16.result.1.now = rw c.from.ensures c.number16_at-count16.ensures.front in
    let begins : BeginsHeader c.args.bytes.now (record { header = h; start = 16 }) =
    begins-short h c.args.bytes.now c.number32_at-id.result.1.now (record { command = omega arith; data_type = omega arith; size = omega arith; count = omega arith; p1 = omega arith; p2 = omega arith }) (omega arith) (omega arith)
    (six-numbers h c.args.bytes.now _ _ _ _ _ c.number32_at-id.result.1.now c.number16_at-number.ensures.front size c.number16_at-data_type.ensures.front count c.number32_at-sid.ensures.front c.number32_at-id.ensures.front) in
    let enough = c.if-bytes-lt24.false in
    record {
      header = subst (λ (g : Header). HeaderSpells (take 16 c.args.bytes.now) g) (header-same h (scalar_header c.args.command w) (c.if-number.false ∙ c.number.ensures) refl refl refl (sym c.new.ensures) (sym c.new-2.ensures)) begins.header;
      room = omega (arith, enough);
    }
