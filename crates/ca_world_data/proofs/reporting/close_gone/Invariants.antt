use Rattle.std.proofs.Common.{map}
use Rattle.ca_world_data.specs.Seen.{joined_of}
use Rattle.ca_world_data.proofs.Reported.{Reporting}
use Rattle.ca_world_data.proofs.reporting.close_gone.Given as goal

-- the ends below this index are reported
abbrev pub invariant-loop-index : goal.invariant-loop-index
invariant-loop-index l = Reporting l.index l.server l.initial.core (map joined_of l.initial.circuits.items) l.core (map joined_of l.circuits.items)
