use Rattle.std.proofs.Common.{List, false, sym, subst}
use Rattle.ca_queue.specs.Queue.{Queue}
use Rattle.ca_model.specs.Speech.{Stored}
use Rattle.ca_server_subscriptions.specs.Owing.{AreSwitched}
use Rattle.ca_server_subscriptions.proofs.Owing.{none-owed, on-began, on-owed}
use Rattle.ca_server_subscriptions.proofs.waiting.Waiting.begin.Goals as goal

pub invariant_of-self-2 : goal.invariant_of-self-2
invariant_of-self-2 c =
    let i = c.self.inside in
    none-owed i.events_on false c.settle.new.owed.items c.begin.new.self c.in_ok-settle.ensures.owed
    (on-began i.events_on c.args.key c.args.update c.begin.result c.settle.new.queues c.begin.new.self c.begin.ensures
    (subst (λ (qs : List (Queue Stored)). AreSwitched i.events_on qs) (sym c.in_ok-settle.ensures.queues) (on-owed i.events_on i.owed.items i.update i.queues c.self.invariant.switched)))
    (λ e. absurd cc)
