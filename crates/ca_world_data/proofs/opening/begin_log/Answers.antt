use Rattle.std.proofs.Common.{◌≡◌, ℕ, ap, ◌∙◌}
use Rattle.ca_records.specs.Record.{RecordState}
use Rattle.ca_model.specs.History as history
use Rattle.ca_world_data.specs.declared.history.LogEntry.{LogEntry}
use Rattle.ca_world_data.specs.declared.history.LogEntry.TheVariants as entry
use Rattle.ca_world_data.specs.Seen.{entry_of}
use Rattle.ca_world_data.proofs.Openings.{begun-next}
use Rattle.ca_world_data.proofs.opening.begin_log.Goals as goal

pub loop-number-preserved : goal.loop-number-preserved
loop-number-preserved c =
    let i : ℕ = c.loop-number.number in
    let x : RecordState = c.at.result.now in
    let r : LogEntry = entry.Added i c.in_ok-added.added in
    let is : entry_of r ≡ history.Added i x = ap (history.Added i) c.in_ok-added.ensures in
    record { log = begun-next entry_of history.Added c.loop-number.log.items r c.push.new.self.items c.args.records.now i x c.at.ensures.at c.in_ok-push.ensures.items is ∙ c.loop-number.invariant.log }
