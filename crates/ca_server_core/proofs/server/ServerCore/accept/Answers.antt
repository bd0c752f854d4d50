use Rattle.ca_records.specs.Store.{records_of}
use Rattle.ca_server_core.proofs.Sounds.{accepts, sound-opened}
use Rattle.ca_server_core.proofs.Thinned.{covers-opened}
use Rattle.ca_server_core.proofs.Led.{led-opened}
use Rattle.ca_server_core.proofs.server.ServerCore.accept.Goals as goal

pub invariant_of-self : goal.invariant_of-self
invariant_of-self c =
    let i = c.self.inside in
    record {
      sound = sound-opened (records_of i.records) i.circuits c.open_on.new.circuits i.moment c.new-circuit.result c.open_on.result c.self.invariant.sound c.new-circuit.ensures c.open_on.ensures;
      covered = covers-opened i.watchers i.circuits c.open_on.new.circuits i.moment c.new-circuit.result c.open_on.result c.self.invariant.covered c.new-circuit.ensures c.open_on.ensures;
      listed = c.self.invariant.listed;
      led = led-opened (records_of i.records) i.leading i.circuits c.open_on.new.circuits i.moment c.new-circuit.result c.open_on.result c.self.invariant.led c.new-circuit.ensures c.open_on.ensures;
    }

pub returns-clause-call : goal.returns-clause-call
returns-clause-call c = accepts _ c.args.self.now c.open_on.new.circuits c.new-circuit.result c.open_on.result c.self.view_is c.new-circuit.ensures c.open_on.ensures
