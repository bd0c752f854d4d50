use Rattle.std.proofs.Common.{arith, sym, ap, ◌∙◌}
use Rattle.ca_board.proofs.Meeting.{splits_new}
use Rattle.ca_board.proofs.board.Board.caller.Goals as goal

pub split_seat-seat-requires : goal.split_seat-seat-requires
split_seat-seat-requires c = let z = c.self.invariant in (ap (λ v. v.board) c.core.view_is ∙ (c.requires ∙ sym c.self.view_is), omega arith, splits_new _ _)
