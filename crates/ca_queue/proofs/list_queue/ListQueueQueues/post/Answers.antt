use Rattle.std.proofs.Common.{◌+◌, ap, ◌∙◌, arith, map}
use Rattle.std.proofs.lemmas.Bool.{and_parts}
use Rattle.std.proofs.lemmas.List.{with_items_is}
use Rattle.std.specs.Vec.{with_items}
use Rattle.ca_queue.specs.Layout.{count_at, recounted}
use Rattle.ca_queue.proofs.Laid.{replaces_by_counts, posts_replacing, posts_behind, has_place, count_small}
use Rattle.ca_queue.proofs.list_queue.ListQueueQueues.post.Goals as goal

pub replace_last-requires : goal.replace_last-requires
replace_last-requires g c =
    let there = rw (← c.self.view_is) at c.requires in
    let count = c.waiting_of-count.ensures ∙ ap (count_at c.args.key) c.deref.ensures.value in
    let goes = replaces_by_counts c.args.key _ _ _ c.self.inside.entries.items c.self.inside.subscriptions.items c.self.inside.events_on _ _ c.self.invariant there count (c.len.ensures ∙ c.self.inside.entries.ok.0) c.is_replacing.ensures ∙ c.if-is_replacing.true in
    (and_parts _ _ goes).0

pub invariant_of-self : goal.invariant_of-self
invariant_of-self g c =
    let there = rw (← c.self.view_is) at c.requires in
    let count = c.waiting_of-count.ensures ∙ ap (count_at c.args.key) c.deref.ensures.value in
    let goes = replaces_by_counts c.args.key _ _ _ c.self.inside.entries.items c.self.inside.subscriptions.items c.self.inside.events_on _ _ c.self.invariant there count (c.len.ensures ∙ c.self.inside.entries.ok.0) c.is_replacing.ensures ∙ c.if-is_replacing.true in
    let are = posts_replacing c.args.key c.args.entry c.self.inside.entries.items c.replace_last.new.entries.items c.self.inside.subscriptions.items c.self.inside.events_on _ _ c.self.invariant there goes c.replace_last.ensures.items in
    rw c.replace_last.ensures.capacity are.laid_out

pub returns-then-is_replacing-clause-posts : goal.returns-then-is_replacing-clause-posts
returns-then-is_replacing-clause-posts g c =
    let there = rw (← c.self.view_is) at c.requires in
    let count = c.waiting_of-count.ensures ∙ ap (count_at c.args.key) c.deref.ensures.value in
    let goes = replaces_by_counts c.args.key _ _ _ c.self.inside.entries.items c.self.inside.subscriptions.items c.self.inside.events_on _ _ c.self.invariant there count (c.len.ensures ∙ c.self.inside.entries.ok.0) c.is_replacing.ensures ∙ c.if-is_replacing.true in
    let are = posts_replacing c.args.key c.args.entry c.self.inside.entries.items c.replace_last.new.entries.items c.self.inside.subscriptions.items c.self.inside.events_on _ _ c.self.invariant there goes c.replace_last.ensures.items in
    rw (← c.self.view_is) are.is

pub returns-then-is_replacing-clause-sound : goal.returns-then-is_replacing-clause-sound
returns-then-is_replacing-clause-sound g c = (invariant_of-self g c).sound

pub push_back_reserved-requires : goal.push_back_reserved-requires
push_back_reserved-requires g c =
    let there = rw (← c.self.view_is) at c.requires in
    let count = c.waiting_of-count.ensures ∙ ap (count_at c.args.key) c.deref.ensures.value in
    let goes = replaces_by_counts c.args.key _ _ _ c.self.inside.entries.items c.self.inside.subscriptions.items c.self.inside.events_on _ _ c.self.invariant there count (c.len.ensures ∙ c.self.inside.entries.ok.0) c.is_replacing.ensures ∙ c.if-is_replacing.false in
    let place = has_place c.args.key c.self.inside.entries.items c.self.inside.subscriptions.items c.self.inside.events_on _ _ c.self.invariant there goes in
    omega (arith, place.0, place.1, c.self.inside.entries.ok.0)

pub overflow_add-count : goal.overflow_add-count
overflow_add-count g c =
    let there = rw (← c.self.view_is) at c.requires in
    let count = c.waiting_of-count.ensures ∙ ap (count_at c.args.key) c.deref.ensures.value in
    omega (arith, count_small c.args.key _ c.self.inside.entries.items c.self.inside.subscriptions.items c.self.inside.events_on _ _ c.self.invariant there count)

pub invariant_of-self-2 : goal.invariant_of-self-2
invariant_of-self-2 g c =
    let there = rw (← c.self.view_is) at c.requires in
    let count = c.waiting_of-count.ensures ∙ ap (count_at c.args.key) c.deref.ensures.value in
    let goes = replaces_by_counts c.args.key _ _ _ c.self.inside.entries.items c.self.inside.subscriptions.items c.self.inside.events_on _ _ c.self.invariant there count (c.len.ensures ∙ c.self.inside.entries.ok.0) c.is_replacing.ensures ∙ c.if-is_replacing.false in
    let left = with_items c.self.inside.subscriptions c.recount.new.subscriptions in
    let left_is = with_items_is c.self.inside.subscriptions c.recount.new.subscriptions (c.recount.auto.subscriptions ∙ c.deref_mut.ensures.len) ∙ c.recount.ensures ∙ ap (map (recounted c.args.key (c.waiting_of-count.result + 1))) c.deref_mut.ensures.value in
    let are = posts_behind c.args.key c.args.entry c.waiting_of-count.result c.self.inside.entries.items c.push_back_reserved.new.self.items c.self.inside.subscriptions.items left.items c.self.inside.events_on _ _ c.self.invariant there goes count c.push_back_reserved.ensures.items left_is in
    rw c.push_back_reserved.ensures.capacity are.laid_out

pub returns-clause-posts : goal.returns-clause-posts
returns-clause-posts g c =
    let there = rw (← c.self.view_is) at c.requires in
    let count = c.waiting_of-count.ensures ∙ ap (count_at c.args.key) c.deref.ensures.value in
    let goes = replaces_by_counts c.args.key _ _ _ c.self.inside.entries.items c.self.inside.subscriptions.items c.self.inside.events_on _ _ c.self.invariant there count (c.len.ensures ∙ c.self.inside.entries.ok.0) c.is_replacing.ensures ∙ c.if-is_replacing.false in
    let left = with_items c.self.inside.subscriptions c.recount.new.subscriptions in
    let left_is = with_items_is c.self.inside.subscriptions c.recount.new.subscriptions (c.recount.auto.subscriptions ∙ c.deref_mut.ensures.len) ∙ c.recount.ensures ∙ ap (map (recounted c.args.key (c.waiting_of-count.result + 1))) c.deref_mut.ensures.value in
    let are = posts_behind c.args.key c.args.entry c.waiting_of-count.result c.self.inside.entries.items c.push_back_reserved.new.self.items c.self.inside.subscriptions.items left.items c.self.inside.events_on _ _ c.self.invariant there goes count c.push_back_reserved.ensures.items left_is in
    rw (← c.self.view_is) are.is

pub returns-clause-sound : goal.returns-clause-sound
returns-clause-sound g c = (invariant_of-self-2 g c).sound
