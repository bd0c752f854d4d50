use Rattle.ca_records.proofs.Faulted.{lacks-memory}
use Rattle.ca_records.proofs.judged.refused.Goals as goal

pub returns-else-is_crowded : goal.returns-else-is_crowded
returns-else-is_crowded c = rw (c.in-OutOfMemory.is, c.if-is_crowded.false) lacks-memory
