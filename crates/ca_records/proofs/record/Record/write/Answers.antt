use Rattle.std.proofs.Common.{rules}
use Rattle.ca_dbr.specs.Elements.{elements}
use Rattle.ca_dbr.specs.Reading.{IsMeta}
use Rattle.ca_records.proofs.Placings.{placed-record}
use Rattle.ca_records.proofs.record.Record.write.Goals as goal

pub invariant_of-self : goal.invariant_of-self
invariant_of-self c =
    let fits : IsMeta c.meta-self-inside.result = record { status = search rules; severity = search rules; seconds = search rules; nanos = search rules } in
    placed-record _ c.self.invariant (elements c.args.value) c.set-before.new.self c.meta-self-inside.result (rw (← c.self.view_is) at c.requires) c.know.ensures.valued fits c.set-before.ensures
