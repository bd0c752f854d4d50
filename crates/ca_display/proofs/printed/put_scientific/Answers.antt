use Rattle.std.proofs.Common.{◌≡◌, ℕ, suc, ◌+◌, ◌-◌, ◌^◌, ◌<◌, List, ◌++◌, take, sym, ap, ap₂, subst₂, ◌∙◌, arith, rules, pow-suc}
use lib.Ieee.Nearest.{closest}
use Rattle.ca_display.specs.Decimal.{point_text, exponent_text, digit_count, scientific_text}
use Rattle.ca_display.specs.Exact.{number_of}
use Rattle.ca_display.proofs.Decimals.{cut_more}
use Rattle.ca_display.proofs.Roundings.{count-more, count-fits, scientific-is, rounded-up, rounded-on}
use Rattle.ca_display.proofs.printed.put_scientific.Goals as goal

pub overflow_sub-count : goal.overflow_sub-count
overflow_sub-count c =
    omega (arith, count-more c.args.exact.now.digits.items c.args.exact.now.places c.requires.digits, c.digit_count-count.ensures.count)

pub overflow_sub-count-2 : goal.overflow_sub-count-2
overflow_sub-count-2 c =
    omega (arith, count-more c.args.exact.now.digits.items c.args.exact.now.places c.requires.digits, c.digit_count-count.ensures.count)

pub round_off-units-requires-clause-some : goal.round_off-units-requires-clause-some
round_off-units-requires-clause-some c =
    omega (arith, count-more c.args.exact.now.digits.items c.args.exact.now.places c.requires.digits, c.digit_count-count.ensures.count)

pub round_off-units-requires-clause-fits : goal.round_off-units-requires-clause-fits
round_off-units-requires-clause-fits c =
    let n = number_of c.args.exact.now.digits.items in
    subst₂ (λ (a b : ℕ). n < 10 ^ (a - b - 1 + 20)) (sym c.digit_count-count.ensures.count) (sym c.from.ensures) (count-fits c.args.exact.now.digits.items c.args.exact.now.places c.args.places c.requires.digits c.requires.few)

pub returns-then-units-power : goal.returns-then-units-power
returns-then-units-power c =
    let o = c.args.text.now.items in
    let p = c.args.places in
    let q = c.args.exact.now.places in
    let n = number_of c.args.exact.now.digits.items in
    let k = digit_count n q in
    let u = c.round_off-units.result in
    let w = c.from-power.result in
    let is-u : u ≡ closest n (10 ^ (k - p - 1)) = c.round_off-units.ensures ∙ ap₂ (λ (a b : ℕ). closest n (10 ^ (a - b - 1))) c.digit_count-count.ensures.count c.from.ensures in
    let power : w ≡ 10 ^ p = search rules in
    let more : u ≡ 10 ^ suc p = omega (arith, c.if-units-power.true, power, pow-suc 10 p) in
    let all : scientific_text p n q ≡ point_text p (10 ^ p) ++ exponent_text (suc k) q = scientific-is p n q u (omega (arith, count-more c.args.exact.now.digits.items q c.requires.digits)) is-u ∙ rounded-up p u k q more in
    let count : c.digit_count-count.result + 1 ≡ suc k = omega (arith, c.digit_count-count.ensures.count) in
    cut_more o (point_text p w) (exponent_text (c.digit_count-count.result + 1) q) c.put_units.new.text.items c.put_exponent.new.text.items c.put_units.ensures c.put_exponent.ensures
    ∙ ap₂ (λ (a b : ℕ). take 40 (o ++ (point_text p a ++ exponent_text b q))) power count
    ∙ ap (λ (x : List ℕ). take 40 (o ++ x)) (sym all)

pub returns-else-units-power : goal.returns-else-units-power
returns-else-units-power c =
    let o = c.args.text.now.items in
    let p = c.args.places in
    let q = c.args.exact.now.places in
    let n = number_of c.args.exact.now.digits.items in
    let k = digit_count n q in
    let u = c.round_off-units.result in
    let w = c.from-power.result in
    let is-u : u ≡ closest n (10 ^ (k - p - 1)) = c.round_off-units.ensures ∙ ap₂ (λ (a b : ℕ). closest n (10 ^ (a - b - 1))) c.digit_count-count.ensures.count c.from.ensures in
    let power : w ≡ 10 ^ p = search rules in
    let other : u ≡ 10 ^ suc p → ⊥ = λ e. c.if-units-power.false (omega (arith, e, power, pow-suc 10 p)) in
    let all : scientific_text p n q ≡ point_text p u ++ exponent_text k q = scientific-is p n q u (omega (arith, count-more c.args.exact.now.digits.items q c.requires.digits)) is-u ∙ rounded-on p u k q other in
    cut_more o (point_text p u) (exponent_text c.digit_count-count.result q) c.put_units-else-units-power.new.text.items c.put_exponent-else-units-power.new.text.items c.put_units-else-units-power.ensures c.put_exponent-else-units-power.ensures
    ∙ ap (λ (b : ℕ). take 40 (o ++ (point_text p u ++ exponent_text b q))) c.digit_count-count.ensures.count
    ∙ ap (λ (x : List ℕ). take 40 (o ++ x)) (sym all)
