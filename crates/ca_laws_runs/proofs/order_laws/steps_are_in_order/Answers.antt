use Rattle.ca_laws_runs.proofs.OrderKeeps.{run-steps}
use Rattle.ca_laws_runs.proofs.order_laws.steps_are_in_order.Goals as goal

pub returns : goal.returns
returns c = run-steps
