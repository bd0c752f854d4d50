use Rattle.std.proofs.Common.{arith}
use Rattle.ca_queue.proofs.Laid.{may_by_counts, one_given}
use Rattle.ca_queue.proofs.list_queue.ListQueue.may_give.Goals as goal

pub returns : goal.returns
returns g c =
    let may = may_by_counts _ c.self.inside.entries.items c.self.inside.subscriptions.items c.deref.result.now c.self.inside.events_on _ _ c.self.invariant c.deref.ensures.value c.may_take.ensures in
    rw (← c.self.view_is) (one_given c.self.inside.events_on c.may_take.result c.self.inside.entries.items may (λ none. omega (arith, c.if-len-eq0.false, c.len.ensures, none)))
