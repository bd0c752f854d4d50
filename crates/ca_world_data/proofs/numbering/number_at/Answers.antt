use Rattle.std.proofs.Common.{ℕ, ◌+◌, ◌<◌, length, refl}
use Rattle.std.specs.Prelude.{map, slice_set}
use Rattle.std.specs.Vec.{with_item}
use Rattle.ca_text.specs.Place.{At}
use Rattle.ca_world_data.specs.declared.joined.Joined.{Joined}
use Rattle.ca_world_data.specs.declared.joined.AddedSubscription.{AddedSubscription}
use Rattle.ca_world_data.specs.Seen.{joined_of, standing_of}
use Rattle.ca_world_data.proofs.Counting.{counts-so, key-there, others-stay, place-within}
use Rattle.ca_world_data.proofs.Worlds.{found}
use Rattle.ca_world_data.proofs.numbering.number_at.Goals as goal

pub wait_in-requires : goal.wait_in-requires
wait_in-requires c =
    let j : Joined = c.args.joined.now in
    let p : ℕ = c.args.place in
    let s : AddedSubscription = c.index.result.now in
    let within : p < length j.standing.items = place-within p c.args.queue j c.requires in
    let at : At j.standing.items p s = found j.standing.items p s s within c.index.ensures in
    key-there p c.args.queue j s c.requires at

pub returns-clause-numbers : goal.returns-clause-numbers
returns-clause-numbers c = λ h.
    let j : Joined = c.args.joined.now in
    let p : ℕ = c.args.place in
    let s : AddedSubscription = c.index.result.now in
    let next : AddedSubscription = record { key = s.key; place = s.place; posts = s.posts + 1 } in
    let within : p < length j.standing.items = place-within p c.args.queue j c.requires in
    let at : At j.standing.items p s = found j.standing.items p s s within c.index.ensures in
    let new : Joined = record j { standing = with_item j.standing p next; queues = c.wait_in.new.queues } in
    counts-so j new p c.args.queue s next h at refl
    (λ t. record (joined_of j) { standing = map standing_of (slice_set j.standing.items p next); queues = c.wait_in.ensures h.q h.in_it t })

pub returns-clause-others : goal.returns-clause-others
returns-clause-others c = λ i s lt at. others-stay c.args.joined.now.standing.items c.args.place _ i s lt at
