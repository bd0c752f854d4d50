use Rattle.ca_records.specs.Store.{records_of}
use Rattle.ca_server_core.proofs.Covered.{covers-thinned}
use Rattle.ca_server_core.proofs.Moves.{gives-at}
use Rattle.ca_server_core.proofs.Sounds.{sound-given, sound-live}
use Rattle.ca_server_core.proofs.Thinned.{thins-given}
use Rattle.ca_server_core.proofs.Led.{led-thinned}
use Rattle.ca_server_core.proofs.server.ServerCore.give.Goals as goal

pub give_on-requires : goal.give_on-requires
give_on-requires c = sound-live (records_of c.self.inside.records) c.self.inside.circuits c.self.invariant.sound

pub invariant_of-self : goal.invariant_of-self
invariant_of-self c =
    let i = c.self.inside in
    record {
      sound = sound-given (records_of i.records) i.circuits c.give_on.new.circuits c.args.circuit i.moment c.args.bytes.now c.give_on.result c.self.invariant.sound c.give_on.ensures;
      covered = covers-thinned i.watchers i.circuits c.give_on.new.circuits (thins-given i.circuits c.give_on.new.circuits c.args.circuit i.moment c.args.bytes.now c.give_on.result c.give_on.ensures) c.self.invariant.covered;
      listed = c.self.invariant.listed;
      led = led-thinned (records_of i.records) (records_of i.records) i.leading i.circuits c.give_on.new.circuits (thins-given i.circuits c.give_on.new.circuits c.args.circuit i.moment c.args.bytes.now c.give_on.result c.give_on.ensures) c.self.invariant.led.listed c.self.invariant.led;
    }

pub returns : goal.returns
returns c = gives-at _ c.args.self.now c.args.circuit c.args.bytes.now c.give_on.result c.give_on.new.circuits c.self.view_is c.give_on.ensures
