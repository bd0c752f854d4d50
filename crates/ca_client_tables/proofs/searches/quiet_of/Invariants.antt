use Rattle.std.specs.Prelude.{take}
use Rattle.ca_client_tables.specs.Quiet.{AreQuiet}
use Rattle.ca_client_tables.proofs.searches.quiet_of.Given as goal

abbrev pub invariant-loop-index : goal.invariant-loop-index
invariant-loop-index l = AreQuiet l.quiet (take l.index l.places.entries)
