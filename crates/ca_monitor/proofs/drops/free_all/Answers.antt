use Rattle.std.proofs.Common.{◌<◌, ◌≤◌, ◌+◌, arith, drop, length, refl, subst}
use Rattle.std.proofs.lemmas.List.{drop_all, drop_more}
use Rattle.ca_ids.specs.Table.{kept_of}
use Rattle.ca_lists.specs.Walks.{IsLeft}
use Rattle.ca_lists.proofs.Walked.{left-done, left-first, left-more}
use Rattle.ca_monitor.specs.Layout.{named}
use Rattle.ca_monitor.proofs.Listings.{kept-twice}
use Rattle.ca_monitor.proofs.drops.free_all.Goals as goal

pub loop-place-preserved : goal.loop-place-preserved
loop-place-preserved c =
    let n = named c.args.which in
    let xs = c.args.listed.now in
    left-more (kept_of n) c.args.table.now c.loop-place.table c.free_at.new.table _ (drop (c.loop-place.place + 1) xs) (kept-twice n) refl c.free_at.ensures
    (subst (IsLeft (kept_of n) c.args.table.now c.loop-place.table) (drop_more xs c.loop-place.place _ (omega arith)) c.loop-place.invariant)

pub returns : goal.returns
returns c =
    let n = named c.args.which in
    let xs = c.args.listed.now in
    left-done (kept_of n) c.args.table.now c.loop-place.table
    (subst (IsLeft (kept_of n) c.args.table.now c.loop-place.table) (drop_all c.loop-place.place xs (omega arith)) c.loop-place.invariant)
