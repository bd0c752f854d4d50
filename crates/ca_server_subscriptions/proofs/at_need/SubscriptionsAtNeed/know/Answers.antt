use Rattle.std.proofs.Common.{◌∙◌, arith, ap, option_map, refl, subst, sym}
use Rattle.ca_queue.specs.Queue.{no_queue, switched}
use Rattle.ca_server_subscriptions.specs.AtNeed.{subscribed_of}
use Rattle.ca_server_subscriptions.specs.Subscribed.{HasRoom, Subscribed}
use Rattle.ca_server_subscriptions.proofs.at_need.SubscriptionsAtNeed.know.Goals as goal

-- none was added, so the first queue has room
pub returns-in-None-clause-room : goal.returns-in-None-clause-room
returns-in-None-clause-room c =
    let on = c.self.inside.events_on in
    subst (λ (s : Subscribed). HasRoom s) (ap (λ kept. subscribed_of (option_map (λ b. b.value) kept) on) (sym c.in-None.is) ∙ c.self.view_is)
    (λ few. (0, switched on no_queue, (refl, omega arith, λ i r lt at. absurd (omega (arith, lt)))))
