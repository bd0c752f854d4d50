use Rattle.std.proofs.Common.{ap}
use Rattle.ca_records.specs.Store.{records_of}
use Rattle.ca_server_circuit.specs.CircuitOutput.{OutputState, bytes_of}
use Rattle.ca_server_core.proofs.Covered.{covers-thinned}
use Rattle.ca_server_core.proofs.Emptied.{pumped-over, pumps-over-at, sound-emptied, thins-emptied}
use Rattle.ca_server_core.proofs.Led.{led-thinned}
use Rattle.ca_server_core.proofs.Listed.{listed-pumped}
use Rattle.ca_server_core.proofs.Pumped.{sound-pumped}
use Rattle.ca_server_core.proofs.Thinned.{thins-pumped}
use Rattle.ca_server_core.proofs.server.ServerCore.pump_over.Goals as goal

pub pump_over_on-requires-clause-nothing : goal.pump_over_on-requires-clause-nothing
pump_over_on-requires-clause-nothing c = (ap (λ (o : OutputState). o.before) c.clear.ensures, ap (λ (o : OutputState). o.last) c.clear.ensures)

pub invariant_of-self : goal.invariant_of-self
invariant_of-self c =
    let i = c.self.inside in
    let h = c.args.circuit in
    let s = c.pump_over_on.new.records in
    let after = c.pump_over_on.new.circuits in
    let out = bytes_of c.pump_over_on.new.to in
    let p = pumped-over i.records s i.circuits after h out c.pump_over_on.ensures in
    let first = thins-pumped i.records s i.circuits p.0 h p.1 in
    let then = thins-emptied p.0 after h out p.2 in
    let led = listed-pumped i.records s i.circuits p.0 h i.leading p.1 c.self.invariant.led.listed in
    record {
      sound = sound-emptied (records_of s) p.0 after h out (sound-pumped i.records s i.circuits p.0 h p.1 c.self.invariant.sound) p.2;
      covered = covers-thinned i.watchers p.0 after then (covers-thinned i.watchers i.circuits p.0 first c.self.invariant.covered);
      listed = listed-pumped i.records s i.circuits p.0 h i.watchers p.1 c.self.invariant.listed;
      led = led-thinned (records_of s) (records_of s) i.leading p.0 after then led (led-thinned (records_of i.records) (records_of s) i.leading i.circuits p.0 first led c.self.invariant.led);
    }

pub returns : goal.returns
returns c =
    let i = c.self.inside in
    pumps-over-at c.args.self.now i.port i.moment i.applied i.beacons i.records c.pump_over_on.new.records i.circuits c.pump_over_on.new.circuits c.args.circuit (bytes_of c.pump_over_on.new.to) c.self.view_is c.pump_over_on.ensures
