use Rattle.ca_server_core.proofs.Covered.{covers-thinned, thins-out}
use Rattle.ca_server_core.proofs.Listed.{listed-ended}
use Rattle.ca_server_core.proofs.Servers.{cuts-at, sound-end}
use Rattle.ca_records.specs.Store.{records_of}
use Rattle.ca_server_core.proofs.Led.{led-thinned}
use Rattle.ca_server_core.proofs.server.ServerCore.cut.Goals as goal

pub end_on-requires : goal.end_on-requires
end_on-requires c = c.self.invariant.sound

pub invariant_of-self : goal.invariant_of-self
invariant_of-self c =
    let i = c.self.inside in
    record {
      sound = sound-end i.records c.end_on.new.records i.circuits c.end_on.new.circuits c.args.circuit _ c.end_on.ensures c.self.invariant.sound;
      covered = covers-thinned i.watchers i.circuits c.end_on.new.circuits (thins-out i.circuits c.end_on.new.circuits c.args.circuit i.records c.end_on.new.records _ c.end_on.ensures) c.self.invariant.covered;
      listed = listed-ended i.records c.end_on.new.records i.circuits c.end_on.new.circuits c.args.circuit _ i.watchers c.end_on.ensures c.self.invariant.listed;
      led = led-thinned (records_of i.records) (records_of c.end_on.new.records) i.leading i.circuits c.end_on.new.circuits (thins-out i.circuits c.end_on.new.circuits c.args.circuit i.records c.end_on.new.records _ c.end_on.ensures) (listed-ended i.records c.end_on.new.records i.circuits c.end_on.new.circuits c.args.circuit _ i.leading c.end_on.ensures c.self.invariant.led.listed) c.self.invariant.led;
    }

pub returns : goal.returns
returns c =
    let i = c.self.inside in
    cuts-at c.args.self.now i.port i.moment i.applied i.beacons i.records c.end_on.new.records i.circuits c.end_on.new.circuits c.args.circuit c.self.view_is c.end_on.ensures
