use Rattle.std.proofs.Common.{arith, sym, subst, ◌+◌}
use Rattle.ca_board.proofs.Stock.{AreFirst, first_more, first_stock}
use Rattle.ca_board.proofs.board.first_tickets.Goals as goal

pub loop-cell-preserved : goal.loop-cell-preserved
loop-cell-preserved c = let i = c.loop-cell.invariant in let p = c.push_reserved.ensures in
    (subst (AreFirst (c.loop-cell.cell + 1)) (sym p.items) (first_more _ _ i.0), let a = p.capacity in let b = i.1 in omega arith)

pub returns : goal.returns
returns c = let i = c.loop-cell.invariant in let a = c.loop-cell-test.false in let b = c.loop-cell.auto.cell-end in (first_stock _ _ (omega arith) i.0, i.1)
