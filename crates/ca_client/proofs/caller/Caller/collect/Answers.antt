use Rattle.std.proofs.Common.{subst}
use Rattle.ca_board.specs.Views.{CallerView, HasCollected}
use Rattle.ca_client.proofs.caller.Caller.collect.Goals as goal

pub returns : goal.returns
returns c = subst (λ (v : CallerView). HasCollected v c.args.ticket c.collect.result c.collect.new.caller) c.self.view_is c.collect.ensures
