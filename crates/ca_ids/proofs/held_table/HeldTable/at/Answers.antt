use Rattle.std.proofs.Common.{sym}
use Rattle.ca_ids.proofs.Holding.{at-none}
use Rattle.ca_ids.proofs.held_table.HeldTable.at.Goals as goal

pub returns-in_default : goal.returns-in_default
returns-in_default g c =
    rw (← c.self.view_is) (sym (at-none c.self.inside.entries c.args.index c.in_default.ensures.found))
