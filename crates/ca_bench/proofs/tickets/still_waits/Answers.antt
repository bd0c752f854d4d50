use Rattle.ca_board.proofs.Outstanding.{due_recycle}
use Rattle.ca_bench.proofs.tickets.still_waits.Goals as goal

pub returns-then-not-early-clause-due : goal.returns-then-not-early-clause-due
returns-then-not-early-clause-due c = due_recycle _ _ _ _ c.args.ticket c.recycle-unused.ensures.freed c.recycle-unused.ensures.kept c.requires.due

pub returns-else-not-early-clause-due : goal.returns-else-not-early-clause-due
returns-else-not-early-clause-due c = due_recycle _ _ _ _ c.args.ticket c.recycle-unused.ensures.freed c.recycle-unused.ensures.kept c.requires.due
