use Rattle.std.proofs.Common.{ℕ, ◌/◌, ◌%◌, ◌*◌, ◌^◌, ◌<◌, ◌≤◌, List, [], ◌∷◌, ◌++◌, length, sym, subst, ap, ◌∙◌, arith}
use Rattle.std.specs.Int.Digits.{AllBelowBase}
use Rattle.ca_display.specs.Exact.{with_above}
use Rattle.ca_display.proofs.Digits.{below-push, above-step, above-room, above-high, put-all}
use Rattle.ca_display.proofs.exact.put_above.Goals as goal

pub push-requires : goal.push-requires
push-requires c =
    (omega arith, (above-room c.loop-number.digits.items c.loop-number.number 785 c.loop-number-test.true (subst (λ (z : ℕ). z < 10 ^ 785) (sym c.loop-number.invariant.same) c.requires.room)))

pub loop-number-preserved : goal.loop-number-preserved
loop-number-preserved c =
    let ds = c.loop-number.digits.items in
    let n = c.loop-number.number in
    let new = sym c.push.ensures.items in
    record {
      below = subst (λ (xs : List ℕ). AllBelowBase 10 xs) new (below-push ds (n % 10) c.loop-number.invariant.below (omega arith));
      same = ap (λ (xs : List ℕ). with_above xs (n / 10)) c.push.ensures.items ∙ above-step ds n ∙ c.loop-number.invariant.same;
      high = λ _. subst (λ (xs : List ℕ). 10 ^ length xs ≤ 10 * with_above c.args.digits.now.items c.args.number) new (subst (λ (t : ℕ). 10 ^ length (ds ++ n % 10 ∷ []) ≤ 10 * t) c.loop-number.invariant.same (above-high ds n (n % 10) c.loop-number-test.true));
    }

pub returns : goal.returns
returns c =
    put-all c.loop-number.digits.items c.loop-number.number (with_above c.args.digits.now.items c.args.number) c.loop-number-test.false c.loop-number.invariant.below c.loop-number.invariant.same c.loop-number.invariant.high
