use Rattle.std.proofs.Common.{◌≡◌, ◌∙◌, ◌++◌, ◌-◌, ◌/◌, ℕ, List, length, map, take, ap, sym}
use Rattle.std.specs.Vec.{with_items}
use Rattle.std.proofs.lemmas.List.{with_items_is}
use Rattle.ca_world_data.specs.declared.joined.CreatedChannel.{CreatedChannel}
use Rattle.ca_world_data.specs.declared.joined.Joined.{Joined}
use Rattle.ca_world_data.specs.declared.joined.AddedSubscription.{AddedSubscription}
use Rattle.ca_world_data.specs.Seen.{creation_of, joined_of, told_of}
use Rattle.ca_world_data.proofs.Counting.{queue_in}
use Rattle.ca_world_servers.specs.Losing.{dropped, is_lost, lost_told, without_lost}
use Rattle.ca_world_servers.proofs.Losings.{loses-so, sixteenths}
use Rattle.ca_world_servers.proofs.losing.lose_open.Goals as goal

pub returns : goal.returns
returns c = λ n d.
    let j : Joined = c.args.joined.now in
    let cs : List (ℕ × ℕ) = c.deref.result.now in
    let sent : ℕ = (length c.bytes_of.result.now - c.args.leading.now.waited) / 16 in
    let lost : List (ℕ × ℕ) = take sent cs in
    let as_many : sent ≡ n = sixteenths c.args.leading.now.waited n (length c.bytes_of.result.now) (d.0 ∙ ap (λ (bs : List ℕ). length bs) (sym c.bytes_of.ensures)) in
    let queues = with_items j.queues c.drop_lost.new.queues in
    let rows : map queue_in queues.items ≡ map (dropped (is_lost lost) (map (λ (s : AddedSubscription). s.key) j.standing.items)) (map queue_in j.queues.items) =
    ap (map queue_in) (with_items_is j.queues c.drop_lost.new.queues (c.drop_lost.auto.queues ∙ c.deref_mut.ensures.len))
    ∙ c.drop_lost.ensures.queues
    ∙ ap (λ xs. map (dropped (is_lost lost) (map (λ (s : AddedSubscription). s.key) j.standing.items)) (map queue_in xs)) c.deref_mut.ensures.value in
    let down : map told_of c.tell_lost.new.down.items ≡ map told_of j.lists.down.items ++ map (lost_told (map creation_of j.creations.items)) lost =
    c.tell_lost.ensures ∙ ap (λ (xs : List CreatedChannel). map told_of j.lists.down.items ++ map (lost_told (map creation_of xs)) lost) c.deref-2.ensures.value in
    loses-so j (record j { lists = record j.lists { down = c.tell_lost.new.down }; standing = c.drop_lost.new.standing; queues = queues }) lost c.requires.seated down c.drop_lost.ensures.standing rows
    ∙ (λ t. without_lost (take (as_many t) (c.deref.ensures.value t)) (joined_of j))
