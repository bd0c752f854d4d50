use Rattle.std.proofs.Common.{◌-◌, ap, ◌∙◌, arith, map}
use Rattle.std.proofs.lemmas.List.{with_items_is}
use Rattle.std.specs.Vec.{with_items}
use Rattle.ca_queue.specs.Layout.{count_at, queue_of, recounted}
use Rattle.ca_queue.proofs.Laid.{may_by_counts, gives_none, leaves_all, front_counts, takes, takes_front}
use Rattle.ca_queue.proofs.list_queue.ListQueueQueues.take.Goals as goal

pub returns-then-not-may_take-clause-gives : goal.returns-then-not-may_take-clause-gives
returns-then-not-may_take-clause-gives g c =
    let may = may_by_counts _ c.self.inside.entries.items c.self.inside.subscriptions.items c.deref.result.now c.self.inside.events_on _ _ c.self.invariant c.deref.ensures.value c.may_take.ensures in
    rw (← c.self.view_is) (gives_none c.self.inside.events_on c.self.inside.entries.items (may ∙ c.if-not-may_take.true))

pub returns-then-not-may_take-clause-leaves : goal.returns-then-not-may_take-clause-leaves
returns-then-not-may_take-clause-leaves g c =
    let may = may_by_counts _ c.self.inside.entries.items c.self.inside.subscriptions.items c.deref.result.now c.self.inside.events_on _ _ c.self.invariant c.deref.ensures.value c.may_take.ensures in
    rw (← c.self.view_is) (leaves_all (queue_of c.self.inside.entries.items c.self.inside.subscriptions.items c.self.inside.events_on) (may ∙ c.if-not-may_take.true))

pub overflow_sub-count : goal.overflow_sub-count
overflow_sub-count g c =
    let count = c.waiting_of-count.ensures ∙ ap (count_at c.in_ok-key.key) c.deref-2.ensures.value in
    omega (arith, front_counts (c.in_ok-key.key, c.in_ok-key.entry) _ c.self.inside.entries.items c.pop_front.new.self.items c.self.inside.subscriptions.items c.self.inside.events_on _ _ c.self.invariant c.in_ok-key.ensures.items count)

pub invariant_of-self-2 : goal.invariant_of-self-2
invariant_of-self-2 g c =
    let may = may_by_counts _ c.self.inside.entries.items c.self.inside.subscriptions.items c.deref.result.now c.self.inside.events_on _ _ c.self.invariant c.deref.ensures.value c.may_take.ensures ∙ c.if-not-may_take.false in
    let count = c.waiting_of-count.ensures ∙ ap (count_at c.in_ok-key.key) c.deref-2.ensures.value in
    let left = with_items c.self.inside.subscriptions c.recount.new.subscriptions in
    let left_is = with_items_is c.self.inside.subscriptions c.recount.new.subscriptions (c.recount.auto.subscriptions ∙ c.deref_mut.ensures.len) ∙ c.recount.ensures ∙ ap (map (recounted c.in_ok-key.key (c.waiting_of-count.result - 1))) c.deref_mut.ensures.value in
    let are = takes (c.in_ok-key.key, c.in_ok-key.entry) c.waiting_of-count.result c.self.inside.entries.items c.pop_front.new.self.items c.self.inside.subscriptions.items left.items c.self.inside.events_on _ _ c.self.invariant c.in_ok-key.ensures.items may count left_is in
    rw c.in_ok-key.ensures.capacity are.laid_out

pub returns-clause-gives : goal.returns-clause-gives
returns-clause-gives g c =
    let may = may_by_counts _ c.self.inside.entries.items c.self.inside.subscriptions.items c.deref.result.now c.self.inside.events_on _ _ c.self.invariant c.deref.ensures.value c.may_take.ensures ∙ c.if-not-may_take.false in
    rw (← c.self.view_is) (takes_front (c.in_ok-key.key, c.in_ok-key.entry) c.self.inside.events_on c.self.inside.entries.items c.pop_front.new.self.items c.in_ok-key.ensures.items may)

pub returns-clause-leaves : goal.returns-clause-leaves
returns-clause-leaves g c =
    let may = may_by_counts _ c.self.inside.entries.items c.self.inside.subscriptions.items c.deref.result.now c.self.inside.events_on _ _ c.self.invariant c.deref.ensures.value c.may_take.ensures ∙ c.if-not-may_take.false in
    let count = c.waiting_of-count.ensures ∙ ap (count_at c.in_ok-key.key) c.deref-2.ensures.value in
    let left = with_items c.self.inside.subscriptions c.recount.new.subscriptions in
    let left_is = with_items_is c.self.inside.subscriptions c.recount.new.subscriptions (c.recount.auto.subscriptions ∙ c.deref_mut.ensures.len) ∙ c.recount.ensures ∙ ap (map (recounted c.in_ok-key.key (c.waiting_of-count.result - 1))) c.deref_mut.ensures.value in
    let are = takes (c.in_ok-key.key, c.in_ok-key.entry) c.waiting_of-count.result c.self.inside.entries.items c.pop_front.new.self.items c.self.inside.subscriptions.items left.items c.self.inside.events_on _ _ c.self.invariant c.in_ok-key.ensures.items may count left_is in
    rw (← c.self.view_is) are.is

pub returns-clause-sound : goal.returns-clause-sound
returns-clause-sound g c = (invariant_of-self-2 g c).sound
