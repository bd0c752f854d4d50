use Rattle.std.proofs.Common.{◌≡◌, true, List, [], filter, map, sym, ap, ◌∙◌}
use Rattle.std.specs.List.{fold, list_any}
use Rattle.ca_model.specs.Server.{Subscription, concerns, key_of}
use Rattle.ca_model.specs.Speech.{Stored}
use Rattle.ca_queue.specs.Circuit.{queue_posted}
use Rattle.ca_queue.specs.Queue.{Queue}
use Rattle.ca_server_subscriptions.specs.ByRecord.{Receiver, is_masked, receivers_of}
use Rattle.ca_server_subscriptions.specs.Subscribed.{Subscribed, after_post, is_on, subscriptions_in}
use Rattle.ca_server_subscriptions.proofs.Placing.{in-err}
use Rattle.ca_server_subscriptions.proofs.Receivers.{any-concerned, any-on, none-first, posts-all, some-first}
use Rattle.ca_server_subscriptions.proofs.subscriptions.Subscriptions.post_to_each.Goals as goal

pub returns-in_err-post-clause-err : goal.returns-in_err-post-clause-err
returns-in_err-post-clause-err c =
    let es = c.self.inside.standing.entries in
    let name = c.args.name.now in
    let are = c.receivers-receivers.ensures ∙ c.self.invariant.1 name in
    in-err c.from_residual.result
    (ap (λ (s : Subscribed). list_any (concerns name c.args.mask) s.subscriptions) (sym c.self.view_is)
    ∙ any-concerned name c.args.mask es
    ∙ ap (λ (rs : List Receiver). list_any (is_masked c.args.mask) rs) (sym are)
    ∙ c.in_err-post.ensures.err)

pub returns-clause-ok : goal.returns-clause-ok
returns-clause-ok c =
    let es = c.self.inside.standing.entries in
    let qs = c.self.inside.queues in
    let name = c.args.name.now in
    let v : Stored = c.args.posted.now in
    let are = c.receivers-receivers.ensures ∙ c.self.invariant.1 name in
    let did : c.post.new.self ≡ fold (λ (rs : List (Queue Stored)) (x : Subscription). map (queue_posted (key_of x) v) rs) qs (filter (concerns name c.args.mask) (subscriptions_in es)) =
    c.in_ok-post.ensures.ok
    ∙ ap (λ (rs : List Receiver). fold (λ (zs : List (Queue Stored)) (r : Receiver). map (queue_posted r.key v) zs) qs (filter (is_masked c.args.mask) rs)) are
    ∙ posts-all name c.args.mask v es qs c.self.invariant.0.keyed in
    (λ i. let now : Subscribed = record { subscriptions = subscriptions_in es; queues = did i } in now)
    ∙ ap (λ (s : Subscribed). after_post name c.args.mask v s) c.self.view_is

pub returns-clause-on : goal.returns-clause-on
returns-clause-on c =
    let es = c.self.inside.standing.entries in
    let name = c.args.name.now in
    let are = c.receivers-receivers.ensures ∙ c.self.invariant.1 name in
    sym (some-first c.receivers-receivers.result.now c.in-Some.first.now (sym c.in-Some.ensures.value))
    ∙ ap (λ (rs : List Receiver). list_any (λ (r : Receiver). true) rs) are
    ∙ sym (any-on name es)
    ∙ ap (λ (s : Subscribed). list_any (is_on name) s.subscriptions) c.self.view_is

-- none is on the record
none : (c : goal.In_default) → receivers_of c.args.name.now c.self.inside.standing.entries ≡ []
none c = sym (c.receivers-receivers.ensures ∙ c.self.invariant.1 c.args.name.now) ∙ none-first c.receivers-receivers.result.now (sym c.in_default.ensures.value)

pub returns-in_default-clause-ok : goal.returns-in_default-clause-ok
returns-in_default-clause-ok c =
    let es = c.self.inside.standing.entries in
    let qs = c.self.inside.queues in
    let name = c.args.name.now in
    let v : Stored = c.args.posted.now in
    let did : qs ≡ fold (λ (rs : List (Queue Stored)) (x : Subscription). map (queue_posted (key_of x) v) rs) qs (filter (concerns name c.args.mask) (subscriptions_in es)) =
    ap (λ (rs : List Receiver). fold (λ (zs : List (Queue Stored)) (r : Receiver). map (queue_posted r.key v) zs) qs (filter (is_masked c.args.mask) rs)) (sym (none c))
    ∙ posts-all name c.args.mask v es qs c.self.invariant.0.keyed in
    (λ i. let now : Subscribed = record { subscriptions = subscriptions_in es; queues = did i } in now)
    ∙ ap (λ (s : Subscribed). after_post name c.args.mask v s) c.self.view_is

pub returns-in_default-clause-on : goal.returns-in_default-clause-on
returns-in_default-clause-on c =
    let name = c.args.name.now in
    sym (ap (λ (rs : List Receiver). list_any (λ (r : Receiver). true) rs) (none c))
    ∙ sym (any-on name c.self.inside.standing.entries)
    ∙ ap (λ (s : Subscribed). list_any (is_on name) s.subscriptions) c.self.view_is

pub only_place-self-inside-requires : goal.only_place-self-inside-requires
only_place-self-inside-requires c = c.receivers-receivers.ensures ∙ c.self.invariant.1 c.args.name.now
