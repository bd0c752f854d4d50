use Rattle.ca_model_examples.proofs.ServerRows.{sixteen-wait, waiting-after-cut, finished-puts}
use Rattle.ca_model_examples.proofs.server_rows.waiting_puts_are_as_worked.Goals as goal

pub returns : goal.returns
returns c = record { sixteen_wait = sixteen-wait; after_cut = waiting-after-cut; finished = finished-puts }
