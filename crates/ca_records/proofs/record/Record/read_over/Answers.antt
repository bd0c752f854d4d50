use Rattle.std.proofs.Common.{Bool, false, true, rules, subst}
use Rattle.ca_dbr.specs.Reading.{IsMeta}
use Rattle.ca_display.specs.Holding.{HoldsOver}
use Rattle.ca_records.specs.Puts.{written_meta}
use Rattle.ca_records.proofs.Placings.{over-not, over-record, takes-over}
use Rattle.ca_records.proofs.record.Record.read_over.Goals as goal

pub invariant_of-self : goal.invariant_of-self
invariant_of-self c =
    let over : HoldsOver c.args.number c.args.bytes.now c.self.inside.held false c.read_over.new.self = subst (λ (b : Bool). HoldsOver c.args.number c.args.bytes.now c.self.inside.held b c.read_over.new.self) c.if-not-read_over.true c.read_over.ensures in
    over-not _ c.self.invariant c.args.number c.args.bytes.now c.read_over.new.self over

pub invariant_of-self-2 : goal.invariant_of-self-2
invariant_of-self-2 c =
    let fits : IsMeta c.meta-self-inside.result = record { status = search rules; severity = search rules; seconds = search rules; nanos = search rules } in
    let over : HoldsOver c.args.number c.args.bytes.now c.self.inside.held true c.read_over.new.self = subst (λ (b : Bool). HoldsOver c.args.number c.args.bytes.now c.self.inside.held b c.read_over.new.self) c.if-not-read_over.false c.read_over.ensures in
    over-record _ c.self.invariant c.args.number c.args.bytes.now c.read_over.new.self c.meta-self-inside.result over fits

pub returns : goal.returns
returns c =
    let over : HoldsOver c.args.number c.args.bytes.now c.self.inside.held true c.read_over.new.self = subst (λ (b : Bool). HoldsOver c.args.number c.args.bytes.now c.self.inside.held b c.read_over.new.self) c.if-not-read_over.false c.read_over.ensures in
    rw (← c.self.view_is) (rw c.meta-self-inside.ensures (takes-over _ c.self.invariant c.args.number c.args.bytes.now c.read_over.new.self (λ h. written_meta h c.args.stamp) over))
