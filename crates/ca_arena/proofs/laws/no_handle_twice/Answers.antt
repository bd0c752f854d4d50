use Rattle.ca_arena.proofs.Runs.{runs_give_once, IsSound-empty}
use Rattle.ca_arena.proofs.laws.no_handle_twice.Goals as goal

pub returns : goal.returns
returns g c calls after run = (runs_give_once _ _ calls IsSound-empty run).1
