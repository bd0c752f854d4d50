use Rattle.std.proofs.Common.{List, sym, ap, ◌∙◌, subst}
use Rattle.ca_queue.specs.Circuit.{HasAt, without_each}
use Rattle.ca_queue.specs.Keys.{same}
use Rattle.ca_queue.specs.Queue.{Queue}
use Rattle.ca_model.specs.Speech.{Stored}
use Rattle.ca_server_subscriptions.specs.Owing.{IsOwing, with_owed}
use Rattle.ca_server_subscriptions.proofs.Changes.{owing-without, view-without}
use Rattle.ca_server_subscriptions.proofs.Owing.{had-owed}
use Rattle.ca_server_subscriptions.proofs.waiting.Waiting.cancel.Goals as goal

pub cancel-requires : goal.cancel-requires
cancel-requires c =
    let i = c.self.inside in
    had-owed i.owed.items i.update i.queues c.args.place c.args.key (subst (λ (rs : List (Queue Stored)). HasAt rs c.args.place c.args.key) (sym c.self.view_is) c.requires)

pub invariant_of-self : goal.invariant_of-self
invariant_of-self c =
    let i = c.self.inside in
    subst (λ (rs : List (Queue Stored)). IsOwing i.events_on i.empty c.forget.new.owed.items rs) (sym c.cancel.ensures)
    (owing-without c.args.key i.events_on i.empty i.owed.items c.forget.new.owed.items i.queues c.self.invariant c.forget.ensures)

pub returns : goal.returns
returns c =
    let i = c.self.inside in
    ap (λ (rs : List (Queue Stored)). with_owed c.forget.new.owed.items i.update rs) c.cancel.ensures
    ∙ view-without c.args.key i.events_on i.empty i.owed.items c.forget.new.owed.items i.update i.queues c.self.invariant c.forget.ensures
    ∙ ap (λ (rs : List (Queue Stored)). without_each (same c.args.key) rs) c.self.view_is
