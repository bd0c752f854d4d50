use Rattle.ca_laws_runs.proofs.OrderKeeps.{run-server-steps}
use Rattle.ca_laws_runs.proofs.order_laws.steps_of_servers_are_in_order.Goals as goal

pub returns : goal.returns
returns c = run-server-steps
