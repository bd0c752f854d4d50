use Rattle.std.proofs.Common.{◌≡◌, ◌∙◌, map, not, rules, ap}
use Rattle.std.specs.Vec.{with_items}
use Rattle.std.proofs.lemmas.Fn.{filter_same}
use Rattle.std.proofs.lemmas.List.{with_items_is}
use Rattle.ca_queue.specs.Circuit.{without_each}
use Rattle.ca_queue.specs.Keys.{same}
use Rattle.ca_queue.specs.Queue.{cancelled}
use Rattle.ca_world_data.specs.declared.joined.Joined.{Joined}
use Rattle.ca_world_data.specs.declared.joined.AddedSubscription.{AddedSubscription}
use Rattle.ca_world_data.specs.Seen.{standing_of}
use Rattle.ca_world_data.proofs.Counting.{queue_in}
use Rattle.ca_world_servers.proofs.Losings.{each-cancelled, standing-left, stands-no-more}
use Rattle.ca_world_servers.proofs.handling.end_standing.Goals as goal

pub returns : goal.returns
returns c =
    let j : Joined = c.args.joined.now in
    let key = c.args.key in
    let queues = with_items j.queues c.cancel_in.new.queues in
    let rows : map queue_in queues.items ≡ without_each (same key) (map queue_in j.queues.items) =
    ap (map queue_in) (with_items_is j.queues c.cancel_in.new.queues (c.cancel_in.auto.queues ∙ c.deref_mut.ensures.len))
    ∙ c.cancel_in.ensures
    ∙ ap (λ xs. map (cancelled key) (map queue_in xs)) c.deref_mut.ensures.value
    ∙ each-cancelled key (map queue_in j.queues.items) c.requires.known in
    let stands = ap (map standing_of) (filter_same _ (λ (s : AddedSubscription). not (same key s.key)) _ (λ x b f' k. search rules) _ _ c.retain.ensures.filtered) ∙ standing-left (same key) j.standing.items in
    stands-no-more (same key) j (record j { standing = c.retain.new.self; queues = queues }) stands rows
