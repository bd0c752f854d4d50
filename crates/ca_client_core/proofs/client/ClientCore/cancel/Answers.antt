use Rattle.std.proofs.Common.{◌∙◌, ap, sym, subst, ◌≡◌, Some, refl}
use Rattle.ca_monitor.specs.Subscriptions.{Cancelled, Subscription, standing_under}
use Rattle.ca_ids.specs.Table.{Table, under}
use Rattle.ca_model.specs.Client.{Channel, Client}
use Rattle.ca_model.specs.Placed.{WasLiveIn}
use Rattle.ca_model.proofs.Standings.{stands-as}
use Rattle.ca_client_core.proofs.Cancelling.{comes-to}
use Rattle.ca_client_core.proofs.Placing.{queued-tables, sound-staged}
use Rattle.ca_client_core.proofs.client.ClientCore.cancel.Goals as goal

pub invariant_of-self : goal.invariant_of-self
invariant_of-self c =
    let s = c.args.subscription in
    let d = c.args.found in
    let x = c.args.self.now in
    let same = queued-tables c.queue-3.result _ c.args.circuit x c.queue-3.new.self c.queue-3.ensures.ok c.queue-3.ensures.err in
    let stands : standing_under s c.self.inside.monitors ≡ Some d =
    ap (λ (y : Client). standing_under s y.subscriptions) c.self.view_is ∙ ap (λ (t : Table Subscription). standing_under s t) same.1 ∙ c.requires.stands in
    let there : under c.self.inside.monitors s ≡ Some d =
    ap (λ (y : Client). under y.subscriptions s) c.self.view_is ∙ ap (λ (t : Table Subscription). under t s) same.1 ∙ (stands-as x s d c.requires.stands).0 in
    let live : WasLiveIn c.self.inside.channels d.channel c.args.circuit =
    subst (λ (t : Table Channel). WasLiveIn t d.channel c.args.circuit) (sym (ap (λ (y : Client). y.channels) c.self.view_is ∙ same.0)) c.requires.live in
    sound-staged c.self.inside.channels c.self.inside.searches.entries c.self.inside.requests.table c.self.inside.monitors c.self.inside.circuits c.self.inside.lives.items c.self.invariant (Cancelled c.args.circuit) c.args.circuit s d c.cancel.new.self (λ on. refl) there live
    (comes-to (Cancelled c.args.circuit) c.self.inside.monitors c.cancel.new.self s d c.cancel.result stands c.cancel.ensures)
