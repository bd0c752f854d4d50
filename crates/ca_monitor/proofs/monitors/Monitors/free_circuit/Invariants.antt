use Rattle.std.proofs.Common.{◌≡◌}
use Rattle.ca_ids.specs.Walks.{walked}
use Rattle.ca_monitor.specs.Layout.{place_freed}
use Rattle.ca_monitor.proofs.monitors.Monitors.free_circuit.Given as goal

abbrev pub invariant-loop-index : goal.invariant-loop-index
invariant-loop-index l = l.self ≡ walked (place_freed l.circuit) l.index l.initial.self
