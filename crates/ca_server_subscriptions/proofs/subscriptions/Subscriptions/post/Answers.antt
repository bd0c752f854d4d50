use Rattle.std.proofs.Common.{◌≡◌, List, filter, map, sym, ap, ◌∙◌}
use Rattle.std.specs.List.{fold, list_any}
use Rattle.ca_model.specs.Server.{Subscription, concerns, key_of}
use Rattle.ca_model.specs.Speech.{Stored}
use Rattle.ca_queue.specs.Circuit.{queue_posted}
use Rattle.ca_queue.specs.Queue.{Queue}
use Rattle.ca_server_subscriptions.specs.ByRecord.{Receiver, is_masked}
use Rattle.ca_server_subscriptions.specs.Subscribed.{Subscribed, after_post, is_on, subscriptions_in}
use Rattle.ca_server_subscriptions.proofs.Placing.{in-err}
use Rattle.ca_server_subscriptions.proofs.Receivers.{any-concerned, posts-all, only_one-is-on}
use Rattle.ca_server_subscriptions.proofs.subscriptions.Subscriptions.post.Goals as goal

pub post-requires : goal.post-requires
post-requires c = (c.self.inside.standing.entries, c.args.name.now, c.self.invariant.0, c.from_ref.ensures.value ∙ sym c.in-Some.ensures)

pub returns-in_err-post-clause-err : goal.returns-in_err-post-clause-err
returns-in_err-post-clause-err c =
    let es = c.self.inside.standing.entries in
    let name = c.args.name.now in
    in-err c.from_residual.result
    (ap (λ (s : Subscribed). list_any (concerns name c.args.mask) s.subscriptions) (sym c.self.view_is)
    ∙ any-concerned name c.args.mask es
    ∙ ap (λ (rs : List Receiver). list_any (is_masked c.args.mask) rs) (c.in-Some.ensures ∙ sym c.from_ref.ensures.value)
    ∙ c.in_err-post.ensures.err)

pub returns-in-Some-clause-ok : goal.returns-in-Some-clause-ok
returns-in-Some-clause-ok c =
    let es = c.self.inside.standing.entries in
    let qs = c.self.inside.queues in
    let name = c.args.name.now in
    let v : Stored = c.args.posted.now in
    let did : c.post.new.self ≡ fold (λ (rs : List (Queue Stored)) (x : Subscription). map (queue_posted (key_of x) v) rs) qs (filter (concerns name c.args.mask) (subscriptions_in es)) =
    c.in_ok-post.ensures.ok
    ∙ ap (λ (rs : List Receiver). fold (λ (zs : List (Queue Stored)) (r : Receiver). map (queue_posted r.key v) zs) qs (filter (is_masked c.args.mask) rs)) (c.from_ref.ensures.value ∙ sym c.in-Some.ensures)
    ∙ posts-all name c.args.mask v es qs c.self.invariant.0.keyed in
    (λ i. let now : Subscribed = record { subscriptions = subscriptions_in es; queues = did i } in now)
    ∙ ap (λ (s : Subscribed). after_post name c.args.mask v s) c.self.view_is

pub returns-in-Some-clause-on : goal.returns-in-Some-clause-on
returns-in-Some-clause-on c =
    sym (only_one-is-on c.args.name.now c.self.inside.standing.entries c.in-Some.receiver c.in-Some.ensures)
    ∙ ap (λ (s : Subscribed). list_any (is_on c.args.name.now) s.subscriptions) c.self.view_is
