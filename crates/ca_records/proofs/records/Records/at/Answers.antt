use Rattle.ca_records.proofs.Indexes.{index-apart}
use Rattle.ca_records.proofs.records.Records.at.Goals as goal

pub returns-clause-apart : goal.returns-clause-apart
returns-clause-apart c = rw (← c.self.view_is) (index-apart _ _ c.self.invariant)
