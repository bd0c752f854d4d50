use Rattle.ca_board.proofs.Outstanding.{due_recycle}
use Rattle.ca_bench.proofs.tickets.comes_back_late.Goals as goal

pub fill-requires-clause-due : goal.fill-requires-clause-due
fill-requires-clause-due c = due_recycle _ _ _ _ c.args.ticket c.recycle-freed.ensures.freed c.recycle-freed.ensures.kept c.requires.due
