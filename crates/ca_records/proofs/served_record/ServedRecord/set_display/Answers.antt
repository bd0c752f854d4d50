use Rattle.std.proofs.Common.{subst, sym}
use Rattle.std.specs.Arc.{arc_value}
use Rattle.ca_dbr.specs.Data.{data_of}
use Rattle.ca_records.specs.Layout.{AreFit, waiting_on}
use Rattle.ca_records.specs.Record.{RecordState}
use Rattle.ca_records.proofs.Waiters.{shown-fit, shown-whole}
use Rattle.ca_records.proofs.served_record.ServedRecord.set_display.Goals as goal

pub invariant_of-self : goal.invariant_of-self
invariant_of-self c =
    let items = c.self.inside.waiting.items in
    subst (λ (s : RecordState). AreFit s (waiting_on s items)) (sym c.set_display.ensures.shown) (shown-fit c.self.inside.record (data_of (arc_value c.args.display)) items c.set_display.ensures.data c.self.invariant)

pub returns : goal.returns
returns c =
    let i = c.self.inside in
    rw (← c.self.view_is) (shown-whole i.record c.set_display.new.self i.busy (data_of (arc_value c.args.display)) i.waiting.items c.set_display.ensures.shown)
