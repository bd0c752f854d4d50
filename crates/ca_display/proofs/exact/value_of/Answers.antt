use Rattle.std.proofs.Common.{◌-◌, arith}
use Rattle.ca_display.proofs.Digits.{drop-le, drop-step}
use Rattle.ca_display.proofs.exact.value_of.Goals as goal

pub overflow_mul-number : goal.overflow_mul-number
overflow_mul-number c =
    let ds = c.args.digits.now in
    let i = c.loop-place.place in
    omega (arith, drop-step ds i c.loop-place.number c.loop-place-test.true c.loop-place.auto.place c.loop-place.invariant, drop-le (i - 1) ds (omega arith), c.requires)

pub overflow_add-number : goal.overflow_add-number
overflow_add-number c =
    let ds = c.args.digits.now in
    let i = c.loop-place.place in
    omega (arith, c.from.ensures, drop-step ds i c.loop-place.number c.loop-place-test.true c.loop-place.auto.place c.loop-place.invariant, drop-le (i - 1) ds (omega arith), c.requires)
