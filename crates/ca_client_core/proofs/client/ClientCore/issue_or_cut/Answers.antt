use Rattle.std.proofs.Common.{ap, sym, subst}
use Rattle.ca_model.specs.Client.{Client}
use Rattle.ca_requests.specs.Calls.{Issued}
use Rattle.ca_requests.specs.Forms.{asked_of}
use Rattle.ca_model.specs.Placed.{WasLive}
use Rattle.ca_client_core.proofs.Alone.{may-issue}
use Rattle.ca_client_core.proofs.Placing.{sound-issued}
use Rattle.ca_client_core.proofs.client.ClientCore.issue_or_cut.Goals as goal

pub issue-requires : goal.issue-requires
issue-requires c =
    may-issue c.self.inside.channels c.self.inside.requests c.self.inside.monitors c.self.inside.circuits c.args.channel c.args.circuit c.self.invariant.placed
    (subst (λ (y : Client). WasLive y c.args.channel c.args.circuit) (sym c.self.view_is) c.requires)

pub invariant_of-self : goal.invariant_of-self
invariant_of-self c =
    sound-issued c.self.inside.channels c.self.inside.searches.entries c.self.inside.requests.table c.self.inside.monitors c.self.inside.circuits c.self.inside.lives.items c.self.invariant c.args.vacant c.args.channel c.args.circuit (asked_of c.args.asked) c.issue.new.self.table
    (subst (λ (y : Client). WasLive y c.args.channel c.args.circuit) (sym c.self.view_is) c.requires) (ap (λ (z : Issued). z.table) c.in-Ok.ensures.1)
