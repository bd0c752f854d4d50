use Rattle.std.proofs.Common.{ℕ, ◌-◌, ◌*◌, ◌^◌, ◌<◌, sym, subst, ap, ◌∙◌, arith, lt_trans, lit<}
use Rattle.ca_display.specs.Exact.{number_of}
use Rattle.ca_display.proofs.Digits.{own-digits, power-step, power-fits, factor-less}
use native.Mathlib.Nat.{one-le-pow}
use Rattle.ca_display.proofs.exact.times_power.Goals as goal

pub pow-requires : goal.pow-requires
pow-requires c =
    lt_trans (factor-less c.args.base c.min-step.result c.requires.small (omega arith)) (lit< tt)

pub times-digits-requires-clause-some : goal.times-digits-requires-clause-some
times-digits-requires-clause-some c =
    subst (λ (z : ℕ). 0 < z) (sym c.pow.ensures) (one-le-pow c.min-step.result c.args.base c.requires.some)

pub times-digits-requires-clause-small : goal.times-digits-requires-clause-small
times-digits-requires-clause-small c =
    subst (λ (z : ℕ). z < 2 ^ 60) (sym c.pow.ensures) (factor-less c.args.base c.min-step.result c.requires.small (omega arith))

pub times-digits-requires-clause-room : goal.times-digits-requires-clause-room
times-digits-requires-clause-room c =
    let n = number_of c.loop-exponent.digits.items in
    subst (λ (z : ℕ). n * z < 10 ^ 785) (sym c.pow.ensures)
    (power-fits n c.args.base c.loop-exponent.exponent c.min-step.result (10 ^ 785) c.requires.some (omega arith)
    (subst (λ (z : ℕ). z < 10 ^ 785) (sym c.loop-exponent.invariant.same) c.requires.room))

pub loop-exponent-preserved : goal.loop-exponent-preserved
loop-exponent-preserved c =
    let n = number_of c.loop-exponent.digits.items in
    let e = c.loop-exponent.exponent in
    let s = c.min-step.result in
    record {
      digits = own-digits c.times-digits.result.items _ c.times-digits.ensures;
      same =
          ap (λ (z : ℕ). z * c.args.base ^ (e - s)) (c.times-digits.ensures.value ∙ ap (λ (z : ℕ). n * z) c.pow.ensures)
          ∙ power-step n c.args.base e s (omega arith)
          ∙ c.loop-exponent.invariant.same;
    }
