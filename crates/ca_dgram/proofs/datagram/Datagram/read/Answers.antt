use Rattle.std.proofs.Common.{◌+◌, refl, arith, ap, length}
use Rattle.std.proofs.lemmas.List.{length-drop}
use Rattle.ca_dgram.proofs.Readings.{begins-next, begins-some, counted-some, not_whole-none, reads-refused, some-read, whole-long, whole-short, whole-some}
use Rattle.ca_wire.specs.Stream.{NoneBegins}
use Rattle.ca_dgram.proofs.datagram.Datagram.read.Goals as goal

pub returns-in_err-reserve : goal.returns-in_err-reserve
returns-in_err-reserve c =
    let ms = c.count.ensures.0 in
    reads-refused c.args.bytes.now _ c.from_residual.result c.from_residual.ensures.1 refl ms c.count.ensures.1 (counted-some c.count.result ms c.count.ensures.2 (omega (arith, c.in_err-reserve.ensures.full, c.new-messages.ensures.len)))

pub returns-in_err-message : goal.returns-in_err-message
returns-in_err-message c =
    let ms = c.count.ensures.0 in
    let some : NoneBegins c.args.bytes.now → ⊥ = begins-some c.args.bytes.now c.loop-head.rest.now c.loop-head.messages.items c.loop-head.invariant (whole-some c.loop-head.rest.now c.in-Whole.head c.in-Whole.ensures) in
    reads-refused c.args.bytes.now _ c.from_residual-in_err-message.result c.from_residual-in_err-message.ensures.1 c.in_err-message.ensures ms c.count.ensures.1 (some-read c.args.bytes.now ms c.count.ensures.1 some)

pub returns-in_err-push : goal.returns-in_err-push
returns-in_err-push c =
    let ms = c.count.ensures.0 in
    let some : NoneBegins c.args.bytes.now → ⊥ = begins-some c.args.bytes.now c.loop-head.rest.now c.loop-head.messages.items c.loop-head.invariant (whole-some c.loop-head.rest.now c.in-Whole.head c.in-Whole.ensures) in
    reads-refused c.args.bytes.now _ c.from_residual-in_err-push.result c.from_residual-in_err-push.ensures.1 refl ms c.count.ensures.1 (some-read c.args.bytes.now ms c.count.ensures.1 some)

pub overflow_add-head : goal.overflow_add-head
overflow_add-head c = omega (arith, whole-short c.loop-head.rest.now c.in-Whole.head c.in-Whole.ensures)

pub loop-head-smaller : goal.loop-head-smaller
loop-head-smaller c =
    let room = c.in-Whole.ensures.room in
    omega (arith, ap length c.split_at.ensures.back, length-drop (c.in-Whole.head.start + c.in-Whole.head.header.size) c.loop-head.rest.now, whole-long c.loop-head.rest.now c.in-Whole.head c.in-Whole.ensures)

pub loop-head-preserved : goal.loop-head-preserved
loop-head-preserved c =
    begins-next c.args.bytes.now c.loop-head.rest.now c.split_at.result.1.now c.loop-head.messages.items c.push.new.self.items c.in_ok-message.message c.in-Whole.head c.loop-head.invariant c.in_ok-message.ensures c.split_at.ensures.back c.in_ok-push.ensures.items

pub returns : goal.returns
returns c = record { rest = c.loop-head.rest.now; stream = record { reads = c.loop-head.invariant; partial = not_whole-none c.loop-head.rest.now c.read_one.result c.read_one.ensures c.in_default.not-Whole } }
