use Rattle.std.proofs.Common.{◌≤◌, arith, length, subst}
use Rattle.ca_arena.specs.Sound.{IsSound}
use Rattle.ca_arena.proofs.Ahead.{tells}
use Rattle.ca_arena.proofs.arena.Arena.vacant_after.Goals as goal

pub returns : goal.returns
returns g c =
    let a = c.args.self.now in
    let es = c.args.ahead.now in
    let all : length es ≤ c.loop-place.place = omega (arith, c.loop-place-test.false) in
    let sound = subst IsSound c.self.view_is c.self.invariant.sound in
    tells a es c.handle_after-2.result sound (λ k e within at. c.loop-place.invariant.next k e (omega (arith, within, all)) at) c.handle_after-2.ensures
