-- Working: what holds of a client's core and of what its handles name, at each moment.
use Rattle.ca_model.specs.Client.{Client}
use Rattle.ca_model.specs.World.{Names}
use Rattle.ca_laws_parts.specs.Held.{AreFew, MeanToSubscribe}
use Rattle.ca_laws_parts.specs.Circuit.{AreGiven, AreNumbered}
use Rattle.ca_model.specs.Placed.{IsPlaced}

-- Each channel has a number; requests and subscriptions are named by handles that were given, and
-- so never twice; and what is meant by each subscription is to subscribe.
pub record IsNamed (n : Names) (x : Client) : Type 0 where
  pub few : AreFew x
  pub numbered : AreNumbered n x
  pub requests : AreGiven n.requests x.requests
  pub subscriptions : AreGiven n.subscriptions x.subscriptions
  pub meant : MeanToSubscribe n x.subscriptions

-- both
pub record IsSound (n : Names) (x : Client) : Type 0 where
  pub named : IsNamed n x
  pub placed : IsPlaced x
