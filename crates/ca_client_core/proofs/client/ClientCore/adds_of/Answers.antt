use Rattle.std.proofs.Common.{◌≢◌, ◌∙◌, List, [], ap, subst}
use Rattle.std.specs.Prelude.{OnErr}
use Rattle.ca_arena.specs.declared.handle.Handle.{Handle}
use Rattle.ca_monitor.specs.Subscriptions.{Subscription, standing_to}
use Rattle.ca_model.specs.Client.{Client}
use Rattle.ca_model.specs.Hears.{event_adds}
use Rattle.ca_client_core.specs.Foretelling.{adds_sent}
use Rattle.ca_client_core.proofs.Foretold.{adds-some, on_err}
use Rattle.ca_client_core.proofs.client.ClientCore.adds_of.Goals as goal

pub returns-in_err-standing-clause-some : goal.returns-in_err-standing-clause-some
returns-in_err-standing-clause-some c =
    let some : event_adds c.args.circuit c.args.sid c.args.channel c.args.self.now ≢ [] = subst (λ (y : Client). event_adds c.args.circuit c.args.sid c.args.channel y ≢ []) c.self.view_is (adds-some c.args.circuit c.args.sid (standing_to c.args.channel c.self.inside.monitors) c.in_err-standing.ensures.some) in
    on_err c.from_residual.result some

pub returns-clause-some : goal.returns-clause-some
returns-clause-some c =
    subst (λ (es : List (Handle × Subscription)). OnErr c.adds_to.result (adds_sent c.args.circuit c.args.sid es ≢ []))
    (c.deref.ensures.value ∙ c.in_ok-standing.ensures.ok ∙ ap (λ (y : Client). standing_to c.args.channel y.subscriptions) c.self.view_is)
    c.adds_to.ensures.some
