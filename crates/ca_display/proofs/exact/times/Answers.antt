use Rattle.std.proofs.Common.{◌≡◌, ℕ, ◌+◌, ◌*◌, ◌/◌, ◌%◌, ◌≤◌, ◌<◌, List, [], ◌∷◌, ◌++◌, get_or, take, sym, subst, ap, ◌∙◌, arith}
use Rattle.std.specs.Int.Digits.{AllBelowBase}
use Rattle.ca_display.specs.Exact.{number_of, with_above}
use Rattle.ca_display.proofs.Digits.{below-push, below-at, times-step, digit-fits}
use Rattle.ca_display.proofs.exact.times.Goals as goal

pub loop-digit-preserved : goal.loop-digit-preserved
loop-digit-preserved c =
    let xs = c.loop-digit.product.items in
    let ds = c.as_slice-items.result.now in
    let i = c.loop-digit.digit-index in
    let f = c.args.factor in
    let d = c.from.result in
    let t = c.loop-digit.carry + d * f in
    let is-d : d ≡ get_or ds i 0 = c.from.ensures in
    let small : get_or ds i 0 < 10 = below-at ds i (subst (λ (l : List ℕ). AllBelowBase 10 l) (sym c.as_slice-items.ensures.value) c.requires.digits.below) c.loop-digit-test.true in
    let fits : t ≤ 10 * f = digit-fits c.loop-digit.carry d f c.loop-digit.invariant.small (omega arith) in
    let step : with_above (xs ++ t % 10 ∷ []) (t / 10) ≡ number_of (take (i + 1) ds) * f =
    subst (λ (z : ℕ). with_above (xs ++ (c.loop-digit.carry + z * f) % 10 ∷ []) ((c.loop-digit.carry + z * f) / 10) ≡ number_of (take (i + 1) ds) * f) (sym is-d) (times-step xs ds i c.loop-digit.carry f c.loop-digit-test.true c.loop-digit.invariant.count c.loop-digit.invariant.same) in
    record {
      below = subst (λ (l : List ℕ). AllBelowBase 10 l) (sym c.push.ensures.items) (below-push xs (t % 10) c.loop-digit.invariant.below (omega arith));
      count = c.push.ensures.len ∙ omega (arith, c.loop-digit.invariant.count);
      same = ap (λ (l : List ℕ). with_above l (t / 10)) c.push.ensures.items ∙ step;
      small = omega arith;
    }
