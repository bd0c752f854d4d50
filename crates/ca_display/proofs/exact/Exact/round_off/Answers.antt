use Rattle.std.proofs.Common.{◌≡◌, ◌+◌, ◌/◌, ◌%◌, ◌<◌, ◌⊎◌, sym, ◌∙◌, inl, inr, arith}
use Rattle.ca_display.specs.Exact.{number_of}
use Rattle.ca_display.proofs.Digits.{all-zeros, not-zeros}
use Rattle.ca_display.proofs.Roundings.{head-fits, digits-off}
use Rattle.ca_display.proofs.exact.Exact.round_off.Goals as goal
use Rattle.ca_display.proofs.exact.Exact.round_off.Goals.{then-last-gt5-via-then-last-gt5, then-last-gt5-via-else-last-gt5+then-not-are_zeros}

pub value_of-number-requires : goal.value_of-number-requires
value_of-number-requires c =
    head-fits c.as_slice-digits.result.now c.args.self.now.digits.items c.split_at.result.1.now c.args.dropped c.min.result c.as_slice-digits.ensures.value c.requires.some c.min.ensures c.split_at.ensures.back c.requires.fits

pub returns-then-last-lt5 : goal.returns-then-last-lt5
returns-then-last-lt5 c =
    let h = c.value_of-number.result in
    digits-off c.as_slice-digits.result.now c.args.self.now.digits.items c.split_at.result.0.now c.split_at.result.1.now c.args.dropped c.min.result h (h / 10) c.as_slice-digits.ensures.value c.requires.digits.digits.below c.requires.some c.min.ensures c.split_at.ensures.front c.split_at.ensures.back c.value_of-number.ensures (λ e. omega arith) (λ e z. absurd (omega arith)) (λ e z. absurd (omega arith)) (λ e. absurd (omega arith))

pub returns-then-last-gt5 : goal.returns-then-last-gt5
returns-then-last-gt5 c =
    let h = c.value_of-number.result in
    let r = number_of c.split_at.result.0.now in
    let over : (5 < h % 10) ⊎ (0 < r) =
    elim c.then-last-gt5.branch [
      | then-last-gt5-via-then-last-gt5 w ↦ inl w.if-last-gt5.true
      | then-last-gt5-via-else-last-gt5+then-not-are_zeros w ↦ inr (not-zeros c.split_at.result.0.now (sym w.are_zeros.ensures ∙ w.if-not-are_zeros.true))
    ] in
    digits-off c.as_slice-digits.result.now c.args.self.now.digits.items c.split_at.result.0.now c.split_at.result.1.now c.args.dropped c.min.result h (h / 10 + 1) c.as_slice-digits.ensures.value c.requires.digits.digits.below c.requires.some c.min.ensures c.split_at.ensures.front c.split_at.ensures.back c.value_of-number.ensures (λ e. absurd (omega arith)) (λ e z. absurd (omega (arith, over))) (λ e z. omega arith) (λ e. omega arith)

pub returns : goal.returns
returns c =
    let h = c.value_of-number.result in
    let r = number_of c.split_at.result.0.now in
    let none : r ≡ 0 = all-zeros c.split_at.result.0.now (sym c.are_zeros.ensures ∙ c.if-not-are_zeros.false) in
    digits-off c.as_slice-digits.result.now c.args.self.now.digits.items c.split_at.result.0.now c.split_at.result.1.now c.args.dropped c.min.result h (h / 10 + h / 10 % 2) c.as_slice-digits.ensures.value c.requires.digits.digits.below c.requires.some c.min.ensures c.split_at.ensures.front c.split_at.ensures.back c.value_of-number.ensures (λ e. absurd (omega arith)) (λ e z. omega arith) (λ e z. absurd (omega arith)) (λ e. absurd (omega arith))
