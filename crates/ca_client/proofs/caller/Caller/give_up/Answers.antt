use Rattle.std.proofs.Common.{subst}
use Rattle.ca_board.specs.Views.{CallerView, HasGivenUp}
use Rattle.ca_client.proofs.caller.Caller.give_up.Goals as goal

pub returns : goal.returns
returns c = subst (λ (v : CallerView). HasGivenUp v c.args.ticket c.give_up.result c.give_up.new.caller) c.self.view_is c.give_up.ensures
