use Rattle.std.proofs.Common.{arith, ap, ◌∙◌}
use mathlib.Core.Option.{some}
use Rattle.ca_board.proofs.Outstanding.{due_filled, at_slice}
use Rattle.ca_board.proofs.Seated.{filled_board}
use Rattle.ca_bench.proofs.rounds.fill_all.Goals as goal

pub loop-place-init : goal.loop-place-init
loop-place-init c = (c.requires.board, omega arith, λ j t l at. c.requires.due.each j t at)

pub fill-requires-clause-due : goal.fill-requires-clause-due
fill-requires-clause-due c = c.loop-place.invariant.2 c.loop-place.place _ (omega arith) (at_slice c.args.tickets.now c.loop-place.place _ c.loop-place-test.true)

pub loop-place-preserved : goal.loop-place-preserved
loop-place-preserved c = let i = c.loop-place.invariant in let few = c.count_stored-stored.ensures in let less = i.1 in (
  filled_board _ _ _ _ _ c.fill.ensures ∙ i.0,
  omega arith,
  λ j t l at. due_filled _ _ _ t _ _ c.fill.ensures (i.2 j t (omega arith) at)
      (λ same. let p = c.requires.due.once c.loop-place.place j t (at_slice c.args.tickets.now c.loop-place.place _ c.loop-place-test.true ∙ ap some same) at in absurd (omega arith)),
)
