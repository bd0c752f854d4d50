use Rattle.ca_board.proofs.Start.{begins}
use Rattle.ca_board.proofs.board.Board.new.Goals as goal

pub vacant-requires : goal.vacant-requires
vacant-requires c = begins 1024
