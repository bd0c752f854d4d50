use Rattle.ca_records.proofs.Indexes.{index-apart, index-finds, index-within}
use Rattle.ca_records.proofs.records.Records.find.Goals as goal

pub returns-clause-found : goal.returns-clause-found
returns-clause-found c = rw (← c.self.view_is) (index-finds _ _ c.args.name.now _ c.self.invariant cc)

pub returns-clause-within : goal.returns-clause-within
returns-clause-within c = rw (← c.self.view_is) (index-within _ _ c.args.name.now _ c.self.invariant cc)

pub returns-clause-apart : goal.returns-clause-apart
returns-clause-apart c = rw (← c.self.view_is) (index-apart _ _ c.self.invariant)
