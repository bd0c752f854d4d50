use Rattle.ca_board.proofs.After.{collected_instead}
use Rattle.ca_board.proofs.board.Board.give_up.Goals as goal

pub returns : goal.returns
returns c = collected_instead _ _ _ c.args.ticket _ (c.end_wait.ensures.found c.if-end_wait.false) c.collect.ensures
