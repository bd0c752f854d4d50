use Rattle.std.proofs.Common.{subst}
use Rattle.ca_model.specs.Client.{Client}
use Rattle.ca_model.specs.Placed.{IsPlaced}
use Rattle.ca_client_core.proofs.client.ClientCore.know.Goals as goal

pub returns : goal.returns
returns c = subst (λ (y : Client). IsPlaced y) c.self.view_is c.self.invariant.placed
