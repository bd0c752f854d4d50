use Rattle.std.proofs.Common.{◌∙◌, ap, option_map, subst, sym}
use Rattle.std.specs.Prelude.{OnErr}
use Rattle.ca_wire.specs.declared.requests.Wanted.{Wanted}
use Rattle.ca_model.specs.Speech.{Stored}
use Rattle.ca_server_subscriptions.specs.AtNeed.{subscribed_of}
use Rattle.ca_server_subscriptions.specs.Pumping.{MayGive}
use Rattle.ca_server_subscriptions.specs.Subscribed.{IsAskable, Subscribed}
use Rattle.ca_server_subscriptions.proofs.at_need.SubscriptionsAtNeed.take.Goals as goal

pub returns-clause-some : goal.returns-clause-some
returns-clause-some c =
    let on = c.self.inside.events_on in
    subst (λ (s : Subscribed). OnErr c.take.result ((w : Wanted) × ((v : Stored) × (IsAskable w × MayGive s w v))))
    (c.deref_mut.ensures.value ∙ ap (λ kept. subscribed_of (option_map (λ b. b.value) kept) on) (sym c.in-Some.is) ∙ c.self.view_is)
    c.take.ensures.some
