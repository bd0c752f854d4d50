use Rattle.std.proofs.Common.{ap, arith, length}
use Rattle.ca_ids.proofs.Changes.{length-walked, walk-all, walk-more}
use Rattle.ca_requests.specs.Layout.{place_freed}
use Rattle.ca_requests.proofs.drops.free_all.Goals as goal

pub free_at-requires : goal.free_at-requires
free_at-requires c = omega (arith, ap length c.loop-index.invariant, length-walked (place_freed c.args.which) c.args.table.now c.loop-index.index)

pub loop-index-preserved : goal.loop-index-preserved
loop-index-preserved c =
    walk-more (place_freed c.args.which) c.args.table.now c.loop-index.table c.free_at.new.table c.loop-index.index (omega arith) c.loop-index.invariant c.free_at.ensures

pub returns : goal.returns
returns c = walk-all (place_freed c.args.which) c.args.table.now c.loop-index.table c.loop-index.index (omega arith) c.loop-index.invariant
