use Rattle.std.proofs.Common.{List, false, sym, subst}
use Rattle.ca_queue.specs.Queue.{Queue}
use Rattle.ca_model.specs.Speech.{Stored}
use Rattle.ca_server_subscriptions.specs.Owing.{AreSwitched}
use Rattle.ca_server_subscriptions.proofs.Owing.{none-owed, on-owed, on-posted}
use Rattle.ca_server_subscriptions.proofs.waiting.Waiting.put_behind.Goals as goal

pub invariant_of-self-in_err-renew : goal.invariant_of-self-in_err-renew
invariant_of-self-in_err-renew c =
    let i = c.self.inside in
    none-owed i.events_on false c.settle.new.owed.items c.settle.new.queues c.in_ok-settle.ensures.owed
    (subst (λ (qs : List (Queue Stored)). AreSwitched i.events_on qs) (sym c.in_ok-settle.ensures.queues) (on-owed i.events_on i.owed.items i.update i.queues c.self.invariant.switched))
    (λ e. absurd cc)

pub invariant_of-self-2 : goal.invariant_of-self-2
invariant_of-self-2 c =
    let i = c.self.inside in
    none-owed i.events_on false c.settle.new.owed.items c.post.new.self c.in_ok-settle.ensures.owed
    (subst (λ (qs : List (Queue Stored)). AreSwitched i.events_on qs) (sym c.post.ensures)
    (on-posted i.events_on c.key.result c.replace-update.result c.settle.new.queues
    (subst (λ (qs : List (Queue Stored)). AreSwitched i.events_on qs) (sym c.in_ok-settle.ensures.queues) (on-owed i.events_on i.owed.items i.update i.queues c.self.invariant.switched))))
    (λ e. absurd cc)
