use Rattle.std.proofs.Common.{sym, ap, ◌∙◌, subst}
use Rattle.ca_board.specs.Views.{CoreView}
use Rattle.ca_board.specs.Outstanding.{AreDue}
use Rattle.ca_board.proofs.Outstanding.{due_more}
use Rattle.ca_bench.proofs.rounds.arm_all.Goals as goal

pub loop-number-preserved : goal.loop-number-preserved
loop-number-preserved c = let i = c.loop-number.invariant in let a = c.in_ok-ticket.ensures in
    (ap (λ (v : CoreView). v.board) a.0 ∙ i.0, subst (AreDue c.arm.new.core) (sym c.in_ok-push.ensures.items) (due_more _ _ _ _ i.1 a.0 a.2 a.1.0))
