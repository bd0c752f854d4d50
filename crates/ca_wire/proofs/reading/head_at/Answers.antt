use Rattle.std.proofs.Common.{◌≡◌, ℕ, ◌<◌, List, ◌++◌, ap, ◌∙◌, arith}
use Rattle.ca_wire.specs.declared.header.Header.{Header}
use Rattle.ca_wire.specs.Header.{number16, number32, short_header}
use Rattle.ca_wire.proofs.Headers.{narrowed}
use Rattle.ca_wire.proofs.Fronts.{none-below, six-numbers, begins-short, begins-extended, none-extended}
use Rattle.ca_wire.proofs.reading.head_at.Goals as goal

pub returns-then-bytes-lt16 : goal.returns-then-bytes-lt16
returns-then-bytes-lt16 c = none-below c.args.bytes.now c.if-bytes-lt16.true

pub returns-then-size16 : goal.returns-then-size16
returns-then-size16 c =
    let h : Header = record { command = c.number16_at-command.result.0; data_type = c.number16_at-data_type.result.0; size = c.from-size.result; count = c.from-count.result; p1 = c.number32_at-p1.result.0; p2 = c.number32_at-p2.result.0 } in
    let small : c.from-size.result < 65535 = omega (arith, c.if-size16.true) in
    let size : c.number16_at-command.result.1.now ≡ number16 c.from-size.result ++ c.number16_at-size16.result.1.now = rw c.from-size.ensures c.number16_at-size16.ensures.front in
    let count : c.number16_at-data_type.result.1.now ≡ number16 c.from-count.result ++ c.number16_at-count16.result.1.now = rw c.from-count.ensures c.number16_at-count16.ensures.front in
    begins-short h c.args.bytes.now c.number32_at-p2.result.1.now (record { command = omega arith; data_type = omega arith; size = omega arith; count = omega arith; p1 = omega arith; p2 = omega arith }) small (omega arith)
    (six-numbers h c.args.bytes.now _ _ _ _ _ c.number32_at-p2.result.1.now c.number16_at-command.ensures.front size c.number16_at-data_type.ensures.front count c.number32_at-p1.ensures.front c.number32_at-p2.ensures.front)

pub returns-then-rest-lt8 : goal.returns-then-rest-lt8
returns-then-rest-lt8 c =
    let g : Header = record { command = c.number16_at-command.result.0; data_type = c.number16_at-data_type.result.0; size = c.number16_at-size16.result.0; count = c.number16_at-count16.result.0; p1 = c.number32_at-p1.result.0; p2 = c.number32_at-p2.result.0 } in
    none-extended g c.args.bytes.now c.number32_at-p2.result.1.now (record { command = omega arith; data_type = omega arith; size = omega arith; count = omega arith; p1 = omega arith; p2 = omega arith }) c.if-size16.false c.if-rest-lt8.true
    (six-numbers g c.args.bytes.now _ _ _ _ _ c.number32_at-p2.result.1.now c.number16_at-command.ensures.front c.number16_at-size16.ensures.front c.number16_at-data_type.ensures.front c.number16_at-count16.ensures.front c.number32_at-p1.ensures.front c.number32_at-p2.ensures.front)

pub returns : goal.returns
returns c =
    let h : Header = record { command = c.number16_at-command.result.0; data_type = c.number16_at-data_type.result.0; size = c.number32_at-size.result.0; count = c.number32_at-count.result.0; p1 = c.number32_at-p1.result.0; p2 = c.number32_at-p2.result.0 } in
    let g : Header = narrowed c.number16_at-count16.result.0 h in
    let size : c.number16_at-command.result.1.now ≡ number16 65535 ++ c.number16_at-size16.result.1.now = rw (← c.if-size16.false) c.number16_at-size16.ensures.front in
    let first : c.args.bytes.now ≡ short_header g ++ c.number32_at-p2.result.1.now = six-numbers g c.args.bytes.now _ _ _ _ _ c.number32_at-p2.result.1.now c.number16_at-command.ensures.front size c.number16_at-data_type.ensures.front c.number16_at-count16.ensures.front c.number32_at-p1.ensures.front c.number32_at-p2.ensures.front in
    let last : c.number32_at-p2.result.1.now ≡ number32 h.size ++ (number32 h.count ++ c.number32_at-count.result.1.now) = c.number32_at-size.ensures.front ∙ ap (λ (t : List ℕ). number32 h.size ++ t) c.number32_at-count.ensures.front in
    begins-extended c.number16_at-count16.result.0 h c.args.bytes.now c.number32_at-count.result.1.now (record { command = omega arith; data_type = omega arith; size = omega arith; count = omega arith; p1 = omega arith; p2 = omega arith }) (omega arith)
    (first ∙ ap (λ (t : List ℕ). short_header g ++ t) last)
