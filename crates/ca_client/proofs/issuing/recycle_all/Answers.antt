use Rattle.std.proofs.Common.{◌≡◌, ◌∙◌, sym, subst, ℕ, refl, arith}
use Rattle.std.proofs.Math.Numerals.{add-one}
use Rattle.ca_client.specs.Calls.{RecyclesBelow}
use Rattle.ca_client.proofs.Tickets.{only_more, recycles_is}
use Rattle.ca_client.proofs.issuing.recycle_all.Goals as goal

pub loop-cell-preserved : goal.loop-cell-preserved
loop-cell-preserved c =
    let r = recycles_is c.loop-cell.seat c.recycle.new.core c.loop-cell.cell c.recycle.result c.recycle.ensures.freed c.recycle.ensures.kept in
    record {
      below = subst (λ (n : ℕ). RecyclesBelow n c.args.seat.now c.recycle.new.core) (sym (add-one c.loop-cell.cell)) (c.loop-cell.seat, c.loop-cell.invariant.below, r);
      same = (only_more c.loop-cell.seat c.loop-cell.seat c.recycle.new.core c.loop-cell.cell (refl, refl, refl, refl) r).0 ∙ c.loop-cell.invariant.same;
    }

pub returns : goal.returns
returns c = let e : c.loop-cell.cell ≡ 1024 = omega arith in (c.loop-cell.cell, e, c.loop-cell.invariant.below)
