use Rattle.std.proofs.Common.{List, map, sym, ap, ◌∙◌, subst}
use Rattle.ca_queue.specs.Queue.{Queue, switched}
use Rattle.ca_model.specs.Speech.{Stored}
use Rattle.ca_server_subscriptions.specs.Owing.{IsOwing, with_owed}
use Rattle.ca_server_subscriptions.proofs.Changes.{owing-switched, view-switched}
use Rattle.ca_server_subscriptions.proofs.waiting.Waiting.set_events.Goals as goal

pub invariant_of-self : goal.invariant_of-self
invariant_of-self c =
    let i = c.self.inside in
    subst (λ (rs : List (Queue Stored)). IsOwing c.args.on i.empty i.owed.items rs) (sym c.set_events.ensures) (owing-switched c.args.on i.events_on i.empty i.owed.items i.queues c.self.invariant)

pub returns : goal.returns
returns c =
    let i = c.self.inside in
    ap (λ (rs : List (Queue Stored)). with_owed i.owed.items i.update rs) c.set_events.ensures
    ∙ view-switched c.args.on i.events_on i.empty i.owed.items i.update i.queues c.self.invariant
    ∙ ap (λ (rs : List (Queue Stored)). map (switched c.args.on) rs) c.self.view_is
