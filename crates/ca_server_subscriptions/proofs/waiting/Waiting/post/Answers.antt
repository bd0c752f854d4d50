use Rattle.std.proofs.Common.{◌≡◌, ◌∙◌, List, filter, map, sym, ap, subst}
use Rattle.std.specs.List.{fold}
use Rattle.ca_model.specs.Speech.{Stored}
use Rattle.ca_queue.specs.Circuit.{queue_posted}
use Rattle.ca_queue.specs.Queue.{Queue}
use Rattle.ca_server_subscriptions.proofs.Owing.{view-none, view-other}
use Rattle.ca_server_subscriptions.proofs.Posts.{nobody, owes, placed-all, view-posted}
use Rattle.ca_server_subscriptions.specs.ByRecord.{ArePlacedIn, Receiver, is_masked}
use Rattle.ca_server_subscriptions.specs.Subscribed.{ArePlaced}
use Rattle.ca_server_subscriptions.specs.declared.waiting.Addressee.{Addressee}
use Rattle.ca_server_subscriptions.specs.Owing.{addressee_of, with_owed}
use Rattle.ca_server_subscriptions.proofs.waiting.Waiting.post.Goals as goal

pub returns-then-not-is_for_any-clause-ok : goal.returns-then-not-is_for_any-clause-ok
returns-then-not-is_for_any-clause-ok c =
    let v : Stored = c.args.posted.now in
    ap (λ (rs : List Receiver). fold (λ (qs : List (Queue Stored)) (r : Receiver). map (queue_posted r.key v) qs) c.args.self.now rs) (sym (nobody c.args.mask c.args.receivers.now (sym c.if-not-is_for_any.ensures)))

pub returns-in_err-renew-clause-placed : goal.returns-in_err-renew-clause-placed
returns-in_err-renew-clause-placed c es p =
    let i = c.self.inside in
    let only_one = c.nothing_waits.ensures c.if-not-nothing_waits.false in
    subst (λ (qs : List (Queue Stored)). ArePlaced es qs) (view-other i.owed.items i.owed.items i.update c.renew.new.self i.queues c.args.self.now c.self.view_is only_one.2 only_one.2) p

pub owe-requires : goal.owe-requires
owe-requires c = (let only_one = c.nothing_waits.ensures c.if-not-nothing_waits.false in only_one.2)

pub returns-in-Err-clause-placed : goal.returns-in-Err-clause-placed
returns-in-Err-clause-placed c es p =
    let i = c.self.inside in
    let only_one = c.nothing_waits.ensures c.if-not-nothing_waits.false in
    subst (λ (qs : List (Queue Stored)). ArePlaced es qs) (view-other i.owed.items c.clear.new.self.items i.update c.renew.new.self i.queues c.args.self.now c.self.view_is only_one.2 c.clear.ensures.items) p

-- nothing waited, so that the queues are what was seen
were : (c : goal.In_default) → c.self.inside.queues ≡ c.args.self.now
were c =
    let i = c.self.inside in
    let only_one = c.nothing_waits.ensures c.if-not-nothing_waits.false in
    view-none i.owed.items i.update i.queues c.args.self.now c.self.view_is only_one.2

pub invariant_of-self-in_default : goal.invariant_of-self-in_default
invariant_of-self-in_default c =
    let i = c.self.inside in
    let only_one = c.nothing_waits.ensures c.if-not-nothing_waits.false in
    owes i.events_on i.empty c.owe.new.owed.items c.args.receivers.now c.args.mask i.queues c.self.invariant.switched only_one.1 (c.self.invariant.quiet only_one.1)
    (subst (λ (qs : List (Queue Stored)). ArePlacedIn c.args.receivers.now qs) (sym (were c)) c.requires) (c.are_in_order.ensures c.if-not-are_in_order.false) c.in_default.ensures

-- what is seen now
seen : (c : goal.In_default)
    → (let v : Stored = c.args.posted.now in
    with_owed c.owe.new.owed.items c.renew.new.self c.self.inside.queues
    ≡ fold (λ (qs : List (Queue Stored)) (r : Receiver). map (queue_posted r.key v) qs) c.args.self.now (filter (is_masked c.args.mask) c.args.receivers.now))
seen c =
    let i = c.self.inside in
    let v : Stored = c.args.posted.now in
    let rs = filter (is_masked c.args.mask) c.args.receivers.now in
    ap (λ (xs : List Addressee). with_owed xs c.renew.new.self i.queues) c.in_default.ensures
    ∙ ap (λ (u : Stored). with_owed (map addressee_of rs) u i.queues) c.in_ok-renew.ensures
    ∙ view-posted rs v i.queues
    ∙ ap (λ (qs : List (Queue Stored)). fold (λ (zs : List (Queue Stored)) (r : Receiver). map (queue_posted r.key v) zs) qs rs) (were c)

pub returns-clause-ok : goal.returns-clause-ok
returns-clause-ok c = seen c

pub returns-clause-placed : goal.returns-clause-placed
returns-clause-placed c es p =
    let v : Stored = c.args.posted.now in
    subst (λ (qs : List (Queue Stored)). ArePlaced es qs) (sym (seen c)) (placed-all es v (filter (is_masked c.args.mask) c.args.receivers.now) c.args.self.now p)
