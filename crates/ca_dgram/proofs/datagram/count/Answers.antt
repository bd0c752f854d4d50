use Rattle.std.proofs.Common.{◌+◌, ◌∷◌, [], arith, ap, length}
use Rattle.std.proofs.lemmas.List.{length-append, length-drop}
use Rattle.ca_dgram.proofs.Readings.{counts-next, fields_at, not_whole-none, whole-long, whole-short}
use Rattle.ca_dgram.proofs.datagram.count.Goals as goal

pub overflow_add-head : goal.overflow_add-head
overflow_add-head c = omega (arith, whole-short c.loop-head.rest.now c.in-Whole.head c.in-Whole.ensures)

pub loop-head-smaller : goal.loop-head-smaller
loop-head-smaller c =
    let room = c.in-Whole.ensures.room in
    omega (arith, ap length c.split_at.ensures.back, length-drop (c.in-Whole.head.start + c.in-Whole.head.header.size) c.loop-head.rest.now, whole-long c.loop-head.rest.now c.in-Whole.head c.in-Whole.ensures)

pub loop-head-preserved : goal.loop-head-preserved
loop-head-preserved c =
    let head = c.in-Whole.head in
    let rest = c.loop-head.rest.now in
    let ms = c.loop-head.invariant.0 in
    let room = c.in-Whole.ensures.room in
    let counted = c.loop-head.invariant.2 in
    let within = c.loop-head.invariant.3 in
    (_, counts-next c.args.bytes.now rest c.split_at.result.1.now head ms c.loop-head.invariant.1 c.in-Whole.ensures c.split_at.ensures.back, omega (arith, counted, length-append ms (fields_at rest head ∷ [])), omega (arith, within, ap length c.split_at.ensures.back, length-drop (head.start + head.header.size) rest, whole-long rest head c.in-Whole.ensures))

pub returns : goal.returns
returns c =
    (c.loop-head.invariant.0, record { rest = c.loop-head.rest.now; stream = record { reads = c.loop-head.invariant.1; partial = not_whole-none c.loop-head.rest.now c.read_one.result c.read_one.ensures c.in_default.not-Whole } }, c.loop-head.invariant.2)
