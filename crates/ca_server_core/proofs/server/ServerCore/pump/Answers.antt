use Rattle.ca_server_core.proofs.Covered.{covers-thinned}
use Rattle.ca_server_core.proofs.Listed.{listed-pumped}
use Rattle.ca_server_core.proofs.Pumped.{pumps-at, sound-pumped}
use Rattle.ca_server_core.proofs.Thinned.{thins-pumped}
use Rattle.ca_records.specs.Store.{records_of}
use Rattle.ca_server_core.proofs.Led.{led-thinned}
use Rattle.ca_server_core.proofs.server.ServerCore.pump.Goals as goal

pub invariant_of-self : goal.invariant_of-self
invariant_of-self c =
    let i = c.self.inside in
    record {
      sound = sound-pumped i.records c.pump_on.new.records i.circuits c.pump_on.new.circuits c.args.circuit c.pump_on.ensures c.self.invariant.sound;
      covered = covers-thinned i.watchers i.circuits c.pump_on.new.circuits (thins-pumped i.records c.pump_on.new.records i.circuits c.pump_on.new.circuits c.args.circuit c.pump_on.ensures) c.self.invariant.covered;
      listed = listed-pumped i.records c.pump_on.new.records i.circuits c.pump_on.new.circuits c.args.circuit i.watchers c.pump_on.ensures c.self.invariant.listed;
      led = led-thinned (records_of i.records) (records_of c.pump_on.new.records) i.leading i.circuits c.pump_on.new.circuits (thins-pumped i.records c.pump_on.new.records i.circuits c.pump_on.new.circuits c.args.circuit c.pump_on.ensures) (listed-pumped i.records c.pump_on.new.records i.circuits c.pump_on.new.circuits c.args.circuit i.leading c.pump_on.ensures c.self.invariant.led.listed) c.self.invariant.led;
    }

pub returns : goal.returns
returns c =
    let i = c.self.inside in
    pumps-at c.args.self.now i.port i.moment i.applied i.beacons i.records c.pump_on.new.records i.circuits c.pump_on.new.circuits c.args.circuit c.self.view_is c.pump_on.ensures
