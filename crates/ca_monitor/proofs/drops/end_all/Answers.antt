use Rattle.std.proofs.Common.{◌<◌, ◌≤◌, ◌+◌, arith, drop, length, option_map, refl, subst}
use Rattle.std.proofs.lemmas.List.{drop_all, drop_more}
use Rattle.ca_lists.specs.Walks.{IsLeft}
use Rattle.ca_lists.proofs.Walked.{left-done, left-more}
use Rattle.ca_monitor.specs.Subscriptions.{over_on}
use Rattle.ca_monitor.proofs.Listings.{over-twice}
use Rattle.ca_monitor.proofs.drops.end_all.Goals as goal

pub loop-place-preserved : goal.loop-place-preserved
loop-place-preserved c =
    let g = option_map (over_on c.args.circuit c.args.channel) in
    let xs = c.args.listed.now in
    left-more g c.args.table.now c.loop-place.table c.end_at.new.table _ (drop (c.loop-place.place + 1) xs) (over-twice c.args.circuit c.args.channel) refl c.end_at.ensures
    (subst (IsLeft g c.args.table.now c.loop-place.table) (drop_more xs c.loop-place.place _ (omega arith)) c.loop-place.invariant)

pub returns : goal.returns
returns c =
    let g = option_map (over_on c.args.circuit c.args.channel) in
    let xs = c.args.listed.now in
    left-done g c.args.table.now c.loop-place.table
    (subst (IsLeft g c.args.table.now c.loop-place.table) (drop_all c.loop-place.place xs (omega arith)) c.loop-place.invariant)
