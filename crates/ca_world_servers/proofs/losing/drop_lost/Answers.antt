use Rattle.std.proofs.Common.{◌<◌, ◌≤◌, ◌∙◌, length, List, map, not, rules, sym, arith}
use Rattle.std.proofs.lemmas.Fn.{filter_same}
use Rattle.ca_text.specs.Place.{At}
use Rattle.ca_world_data.specs.declared.joined.AddedSubscription.{AddedSubscription}
use Rattle.ca_world_data.proofs.Counting.{queue_in}
use Rattle.ca_world_data.proofs.Worlds.{found}
use Rattle.ca_world_servers.specs.Losing.{is_lost}
use Rattle.ca_world_servers.proofs.Losings.{drops-all, drops-here}
use Rattle.ca_world_servers.proofs.losing.drop_lost.Goals as goal

pub loop-place-preserved : goal.loop-place-preserved
loop-place-preserved c =
    let ss : List AddedSubscription = c.args.standing.now.items in
    let i = c.loop-place.place in
    let s : AddedSubscription = c.index.result.now in
    let within : i < length ss = omega (arith, c.loop-place-test.true, c.len-place-end.ensures) in
    let at : At ss i s = found ss i s s within c.index.ensures in
    record { queues = drops-here (is_lost c.args.lost.now) i ss s (map queue_in c.loop-place.queues) (map queue_in c.cancel_on.new.queues) at c.cancel_on.ensures ∙ c.loop-place.invariant.queues }

pub returns-clause-standing : goal.returns-clause-standing
returns-clause-standing c = filter_same _ (λ (s : AddedSubscription). not (is_lost c.args.lost.now s.key)) _ (λ x b f' k. search rules) _ _ c.retain.ensures.filtered

pub returns-clause-queues : goal.returns-clause-queues
returns-clause-queues c =
    let ss : List AddedSubscription = c.args.standing.now.items in
    let over : length ss ≤ c.loop-place.place = omega (arith, c.loop-place-test.false, c.len-place-end.ensures) in
    sym (drops-all (is_lost c.args.lost.now) c.loop-place.place ss (map queue_in c.loop-place.queues) over) ∙ c.loop-place.invariant.queues
