use Rattle.ca_laws_runs.proofs.OrderKeeps.{run-lives}
use Rattle.ca_laws_runs.proofs.order_laws.circuits_join_lives.Goals as goal

pub returns : goal.returns
returns c = run-lives
