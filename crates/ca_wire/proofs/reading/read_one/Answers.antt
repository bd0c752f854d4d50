use Rattle.std.proofs.Common.{inl, inr, arith}
use Rattle.ca_text.specs.declared.refusal.Refusal.TheVariants.{Misaligned, TooLarge}
use Rattle.std.proofs.Common.{refl}
use Rattle.ca_wire.proofs.Fronts.{no-header, bad-header, not-whole}
use Rattle.ca_wire.proofs.reading.read_one.Goals as goal

pub returns-in_default : goal.returns-in_default
returns-in_default c = no-header c.args.bytes.now c.in_default.ensures

pub returns-then-size-ne0 : goal.returns-then-size-ne0
returns-then-size-ne0 c = bad-header c.args.bytes.now c.in-Some.head Misaligned c.in-Some.ensures (inl (refl, c.if-size-ne0.true))

pub returns-then-size-gt-PAYLOAD_LIMIT : goal.returns-then-size-gt-PAYLOAD_LIMIT
returns-then-size-gt-PAYLOAD_LIMIT c = bad-header c.args.bytes.now c.in-Some.head TooLarge c.in-Some.ensures (inr (refl, c.if-size-ne0.false, c.if-size-gt-PAYLOAD_LIMIT.true))

pub returns-then-bytes-head : goal.returns-then-bytes-head
returns-then-bytes-head c = not-whole c.args.bytes.now c.in-Some.head c.in-Some.ensures c.if-size-ne0.false c.if-size-gt-PAYLOAD_LIMIT.false (omega (arith, c.in-Some.ensures.room))
