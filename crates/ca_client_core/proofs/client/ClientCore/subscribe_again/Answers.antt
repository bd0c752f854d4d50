use Rattle.std.proofs.Common.{◌∙◌, List, ap}
use Rattle.ca_arena.specs.declared.handle.Handle.{Handle}
use Rattle.ca_monitor.specs.Subscriptions.{Subscription, standing_to}
use Rattle.ca_model.specs.Client.{Client}
use Rattle.ca_client_core.specs.Again.{add_messages}
use Rattle.ca_client_tables.specs.Ends.{with_messages}
use Rattle.ca_client_core.proofs.client.ClientCore.subscribe_again.Goals as goal

pub returns-in-Ok-clause-ok : goal.returns-in-Ok-clause-ok
returns-in-Ok-clause-ok c =
    let x = c.args.self.now in
    let h = c.args.channel in
    c.in-Ok.ensures.ok
    ∙ ap (λ (es : List (Handle × Subscription)). with_messages c.args.circuit (add_messages c.args.sid es) x)
    (c.deref.ensures.value ∙ c.in_ok-standing.ensures.ok ∙ ap (λ (y : Client). standing_to h y.subscriptions) c.self.view_is)
