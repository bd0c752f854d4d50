use Rattle.std.proofs.Common.{ℕ, None, Some, sym, subst}
use Rattle.ca_queue.specs.declared.entry.SubKey.{SubKey}
use Rattle.ca_server_subscriptions.specs.Subscribed.{IsOneOf}
use Rattle.ca_server_subscriptions.proofs.Channels.{none-of-it, one-of}
use Rattle.ca_server_subscriptions.proofs.subscriptions.Subscriptions.last_of.Goals as goal

pub returns-in-Some : goal.returns-in-Some
returns-in-Some c =
    let key : SubKey = record { sid = c.number-sid.result; sub = c.in-Some.sub } in
    subst (λ (sid : ℕ). IsOneOf sid c.args.self.now (Some key)) c.number-sid.ensures
    (one-of c.self.inside.by_channel c.self.inside.standing.entries c.self.invariant.4 c.self.inside.queues c.self.invariant.0 c.number-sid.result c.args.self.now c.self.view_is c.in-Some.sub (sym c.in-Some.ensures))

pub returns-in-None : goal.returns-in-None
returns-in-None c =
    subst (λ (sid : ℕ). IsOneOf sid c.args.self.now None) c.number-sid.ensures
    (none-of-it c.self.inside.by_channel c.self.inside.standing.entries c.self.invariant.4 c.self.inside.queues c.self.invariant.0 c.number-sid.result c.args.self.now c.self.view_is (sym c.in-None.ensures))
