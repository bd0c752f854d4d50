use Rattle.std.proofs.Common.{◌≤◌, ◌+◌, arith, length, length-drop}
use Rattle.std.proofs.lemmas.List.{take_rest, take_all}
use Rattle.ca_link.proofs.Appending.{appends-none, appends-more, appends-kept}
use Rattle.ca_link.proofs.sink.write_whole.Goals as goal

pub loop-done-init : goal.loop-done-init
loop-done-init g c = record { within = omega arith; so_far = appends-none _ }

pub loop-done-preserved : goal.loop-done-preserved
loop-done-preserved g c =
    let bound = rw (take_rest c.args.bytes.now c.loop-done.done) at c.in-Ok.ensures.bound in
    let more = rw (take_rest c.args.bytes.now c.loop-done.done) at c.in-Ok.ensures.bytes in
    record {
      within = omega (arith, bound, length-drop c.loop-done.done c.args.bytes.now);
      so_far = appends-more _ _ _ c.args.bytes.now c.loop-done.done c.in-Ok.n c.loop-done.invariant.so_far more;
    }

pub returns-in-Ok-eq0-clause-err : goal.returns-in-Ok-eq0-clause-err
returns-in-Ok-eq0-clause-err g c =
    let more = rw (take_rest c.args.bytes.now c.loop-done.done) at c.in-Ok-eq0.ensures.bytes in
    (c.loop-done.done + c.in-Ok-eq0.field-0, appends-more _ _ _ c.args.bytes.now c.loop-done.done c.in-Ok-eq0.field-0 c.loop-done.invariant.so_far more)

pub returns-in-Err-clause-err : goal.returns-in-Err-clause-err
returns-in-Err-clause-err g c = (c.loop-done.done, appends-kept _ _ _ _ c.loop-done.invariant.so_far c.in-Err.ensures.bytes)

pub returns-clause-ok : goal.returns-clause-ok
returns-clause-ok g c =
    let all : length c.args.bytes.now ≤ c.loop-done.done = omega arith in
    rw (take_all c.loop-done.done c.args.bytes.now all) at c.loop-done.invariant.so_far
