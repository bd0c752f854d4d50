use Rattle.std.proofs.Common.{◌≡◌, ◌∙◌, ◌==◌, ◌∷◌, [], ℕ, List, map, not, rules, ap}
use Rattle.std.specs.Vec.{with_items}
use Rattle.std.proofs.lemmas.Fn.{filter_same}
use Rattle.std.proofs.lemmas.List.{with_items_is}
use Rattle.ca_world_data.specs.declared.joined.CreatedChannel.{CreatedChannel}
use Rattle.ca_world_data.specs.declared.joined.Joined.{Joined}
use Rattle.ca_world_data.specs.declared.joined.AddedSubscription.{AddedSubscription}
use Rattle.ca_world_data.proofs.Counting.{queue_in}
use Rattle.ca_world_servers.specs.Losing.{dropped, is_lost}
use Rattle.ca_world_servers.proofs.Losings.{ends-channel}
use Rattle.ca_world_servers.proofs.handling.end_channel.Goals as goal

pub returns : goal.returns
returns c =
    let j : Joined = c.args.joined.now in
    let lost : List (ℕ × ℕ) = (c.args.sid, 0) ∷ [] in
    let queues = with_items j.queues c.drop_lost.new.queues in
    let rows : map queue_in queues.items ≡ map (dropped (is_lost lost) (map (λ (s : AddedSubscription). s.key) j.standing.items)) (map queue_in j.queues.items) =
    ap (map queue_in) (with_items_is j.queues c.drop_lost.new.queues (c.drop_lost.auto.queues ∙ c.deref_mut.ensures.len))
    ∙ c.drop_lost.ensures.queues
    ∙ ap (λ xs. map (dropped (is_lost lost) (map (λ (s : AddedSubscription). s.key) j.standing.items)) (map queue_in xs)) c.deref_mut.ensures.value in
    let creations = filter_same _ (λ (x : CreatedChannel). not (x.sid == c.args.sid)) _ (λ x b f' k. search rules) _ _ c.retain.ensures.filtered in
    ends-channel c.args.sid 0 j (record j { creations = c.retain.new.self; standing = c.drop_lost.new.standing; queues = queues }) c.requires c.drop_lost.ensures.standing rows creations
