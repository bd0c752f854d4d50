use Rattle.std.proofs.Common.{subst}
use Rattle.ca_board.specs.Views.{CallerView, HasFoundEnded, HasFoundOpen}
use Rattle.ca_client.proofs.caller.Caller.has_ended.Goals as goal

pub returns-clause-ended : goal.returns-clause-ended
returns-clause-ended c = λ yes. subst (λ (v : CallerView). HasFoundEnded v c.args.ticket c.has_ended.new.caller) c.self.view_is (c.has_ended.ensures.ended yes)

pub returns-clause-open : goal.returns-clause-open
returns-clause-open c = λ no. subst (λ (v : CallerView). HasFoundOpen v c.args.ticket c.has_ended.new.caller) c.self.view_is (c.has_ended.ensures.open no)
