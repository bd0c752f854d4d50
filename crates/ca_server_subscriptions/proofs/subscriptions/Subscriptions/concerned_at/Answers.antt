use Rattle.std.proofs.Common.{Some, sym, ◌∙◌, subst, ℕ}
use Rattle.ca_server_subscriptions.specs.Concerned.{ConcernsAt}
use Rattle.ca_server_subscriptions.proofs.Placing.{Entry, concerned-at}
use Rattle.ca_server_subscriptions.proofs.subscriptions.Subscriptions.concerned_at.Goals as goal

pub returns : goal.returns
returns c =
    let es = c.self.inside.standing.entries in
    let e : Entry = (c.in-Some.field-0-0.now, c.in-Some.standing.now) in
    subst (λ (n : ℕ). ConcernsAt c.args.name.now c.args.mask c.args.place c.args.self.now.subscriptions c.args.self.now.queues (Some n)) (sym c.queue.ensures)
    (concerned-at es c.self.inside.queues c.self.invariant.0 c.args.name.now c.args.mask c.args.self.now c.args.place e c.self.view_is (sym c.in-Some.ensures.entry) (sym c.is_concerned.ensures ∙ c.if-not-is_concerned.false))
