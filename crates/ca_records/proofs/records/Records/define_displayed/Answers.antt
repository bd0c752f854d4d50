use Rattle.std.proofs.Common.{subst}
use Rattle.ca_dbr.specs.Elements.{Elements}
use Rattle.ca_records.specs.Record.{RecordState, unset}
use Rattle.ca_records.specs.Records.{Defines}
use Rattle.ca_records.proofs.records.Records.define_displayed.Goals as goal

pub returns : goal.returns
returns c =
    subst (λ (e : Elements). let s : RecordState = record { name = c.args.name.now; count = c.args.count; slow = c.args.slow; value = e; meta = unset } in Defines c.args.self.now s c.add.result c.add.new.self) c.displayed.ensures c.add.ensures
