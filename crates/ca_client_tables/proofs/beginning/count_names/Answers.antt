use Rattle.std.proofs.Common.{◌+◌, arith, length-take, take}
use Rattle.ca_client_tables.proofs.Beginnings.{counted-more, distinct-less}
use Rattle.ca_client_tables.proofs.beginning.count_names.Goals as goal

pub overflow_add-count : goal.overflow_add-count
overflow_add-count c =
    let names = c.args.names.now in
    let i = c.loop-index.index in
    omega (arith, c.one_if_new-count.ensures, c.loop-index.invariant, counted-more names i c.loop-index-test.true, distinct-less (take (i + 1) names), length-take (i + 1) names)

pub loop-index-preserved : goal.loop-index-preserved
loop-index-preserved c =
    omega (arith, c.one_if_new-count.ensures, c.loop-index.invariant, counted-more c.args.names.now c.loop-index.index c.loop-index-test.true)
