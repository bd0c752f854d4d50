use Rattle.std.proofs.Common.{ap, arith, length}
use Rattle.ca_ids.proofs.Changes.{walk-more}
use Rattle.ca_monitor.specs.Layout.{place_freed}
use Rattle.ca_monitor.proofs.monitors.Monitors.free_circuit.Goals as goal

pub loop-index-preserved : goal.loop-index-preserved
loop-index-preserved c =
    walk-more (place_freed c.args.circuit) c.args.self.now c.loop-index.self c.free_at.new.self c.loop-index.index (omega (arith, c.places-index-end.ensures, ap length c.self.view_is)) c.loop-index.invariant c.free_at.ensures
