use Rattle.std.proofs.Common.{◌≡◌, ℕ, ◌+◌, ◌*◌, ◌%◌, ◌^◌, subst, ap, ◌∙◌, arith}
use Rattle.ca_display.specs.Exact.{number_of, AreDigits}
use Rattle.ca_display.proofs.Digits.{own-digits, start-value}
use Rattle.ca_display.proofs.Sizes.{first-room, second-room, size-count, pattern-size}
use Rattle.ca_display.proofs.exact.exact_size.Goals as goal

pub times_power-digits-requires-clause-room : goal.times_power-digits-requires-clause-room
times_power-digits-requires-clause-room c =
    let q = c.args.bits % 4503599627370496 + 4503599627370496 * c.min.result in
    first-room (number_of c.put_above.new.digits.items) q c.saturating_sub-exponent.result c.saturating_sub.result (start-value c.put_above.new.digits.items c.new-digits.result.items q c.new-digits.ensures c.put_above.ensures) c.saturating_sub.ensures (omega arith) (omega arith)

pub times_power-requires-clause-room : goal.times_power-requires-clause-room
times_power-requires-clause-room c =
    let q = c.args.bits % 4503599627370496 + 4503599627370496 * c.min.result in
    second-room (number_of c.times_power-digits.result.items) (number_of c.put_above.new.digits.items) q c.saturating_sub-exponent.result c.saturating_sub.result c.saturating_sub-places.result c.times_power-digits.ensures.value (start-value c.put_above.new.digits.items c.new-digits.result.items q c.new-digits.ensures c.put_above.ensures) c.saturating_sub.ensures c.saturating_sub-places.ensures (omega arith) (omega arith)

pub returns-clause-digits : goal.returns-clause-digits
returns-clause-digits c =
    let ds = c.times_power.result.items in
    let q = c.args.bits % 4503599627370496 + 4503599627370496 * c.min.result in
    let s = c.saturating_sub.result in
    let t = c.saturating_sub-places.result in
    let start : number_of c.put_above.new.digits.items ≡ q = start-value c.put_above.new.digits.items c.new-digits.result.items q c.new-digits.ensures c.put_above.ensures in
    let all : number_of c.times_power-digits.result.items * 5 ^ (t + 18) ≡ q * 2 ^ (s + 18) * 5 ^ (t + 18) = ap (λ (z : ℕ). z * 5 ^ (t + 18)) (c.times_power-digits.ensures.value ∙ ap (λ (z : ℕ). z * 2 ^ (s + 18)) start) in
    record {
      digits = own-digits ds _ c.times_power.ensures;
      places = omega arith;
      few = omega arith;
      count = size-count ds q s t (subst (λ (z : ℕ). AreDigits ds z) all c.times_power.ensures);
    }

pub returns-clause-size : goal.returns-clause-size
returns-clause-size c =
    let q = c.args.bits % 4503599627370496 + 4503599627370496 * c.min.result in
    let s = c.saturating_sub.result in
    let t = c.saturating_sub-places.result in
    let start : number_of c.put_above.new.digits.items ≡ q = start-value c.put_above.new.digits.items c.new-digits.result.items q c.new-digits.ensures c.put_above.ensures in
    let all : number_of c.times_power.result.items ≡ q * 2 ^ (s + 18) * 5 ^ (t + 18) = c.times_power.ensures.value ∙ ap (λ (z : ℕ). z * 5 ^ (t + 18)) (c.times_power-digits.ensures.value ∙ ap (λ (z : ℕ). z * 2 ^ (s + 18)) start) in
    pattern-size c.args.bits q c.saturating_sub-exponent.result s t (number_of c.times_power.result.items) c.requires (ap (λ (z : ℕ). c.args.bits % 4503599627370496 + 4503599627370496 * z) c.min.ensures) c.saturating_sub-exponent.ensures c.saturating_sub.ensures c.saturating_sub-places.ensures all
