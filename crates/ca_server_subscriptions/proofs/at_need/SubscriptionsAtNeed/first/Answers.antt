use Rattle.std.proofs.Common.{◌∙◌, ap, option_map, subst, sym}
use Rattle.std.specs.Prelude.{IfSome}
use Rattle.ca_server_subscriptions.specs.AtNeed.{subscribed_of}
use Rattle.ca_server_subscriptions.specs.Pumping.{MayGive}
use Rattle.ca_server_subscriptions.specs.Subscribed.{Subscribed}
use Rattle.ca_server_subscriptions.proofs.at_need.SubscriptionsAtNeed.first.Goals as goal

pub returns-in-Some-clause-gives : goal.returns-in-Some-clause-gives
returns-in-Some-clause-gives c =
    let on = c.self.inside.events_on in
    subst (λ (s : Subscribed). IfSome c.first.result (λ r. MayGive s r.0 r.1.now))
    (c.deref.ensures ∙ ap (λ kept. subscribed_of (option_map (λ b. b.value) kept) on) (sym c.in-Some.is) ∙ c.self.view_is)
    c.first.ensures.gives
