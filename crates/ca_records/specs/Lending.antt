-- Working: what a slot ends as, when a `&mut` to its record was handed out.
use Rattle.std.specs.Borrow.{Lends, Fml, MutBor}
use Rattle.ca_records.specs.declared.slot.RecordSlot.{RecordSlot}
use Rattle.ca_records.specs.declared.slot.RecordSlot.TheVariants.{Full}
use Rattle.ca_records.specs.contracts.served_record.ServedRecord as served_record
use Rattle.ca_records.specs.contracts.slot.RecordSlot as slot
use Rattle.ca_records.specs.Puts.{Record}

-- the slot ends with the last value that the result refers to
abbrev pub lends_full : MutBor RecordSlot → MutBor Record → Fml
lends_full s r = Lends slot.the_row served_record.the_row s r Full
