use Rattle.std.proofs.Common.{true, false, sym, ◌∙◌}
use Rattle.ca_queue.proofs.Counts.{recount_more}
use Rattle.ca_queue.proofs.list_queue.recount.Goals as goal
use Rattle.ca_queue.proofs.list_queue.recount.Goals.{then-is_same, else-is_same}

pub loop-s-preserved : goal.loop-s-preserved
loop-s-preserved c =
    elim c.if-is_same.branch [
      | then-is_same w ↦
          recount_more c.args.key c.args.count c.loop-s.s-index _ c.args.subscriptions.now c.loop-s.subscriptions _ true c.loop-s-test.true c.loop-s.invariant (sym w.if-is_same.true ∙ c.is_same.ensures) w.subscriptions-is
      | else-is_same w ↦
          recount_more c.args.key c.args.count c.loop-s.s-index _ c.args.subscriptions.now c.loop-s.subscriptions _ false c.loop-s-test.true c.loop-s.invariant (sym w.if-is_same.false ∙ c.is_same.ensures) w.subscriptions-is
    ]
