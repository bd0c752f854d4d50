use Rattle.ca_records.specs.Store.{records_of}
use Rattle.ca_server_core.proofs.Covered.{covers-thinned}
use Rattle.ca_server_core.proofs.Moves.{sends-at}
use Rattle.ca_server_core.proofs.Sounds.{sound-sent}
use Rattle.ca_server_core.proofs.Thinned.{thins-sent}
use Rattle.ca_server_core.proofs.Led.{led-thinned}
use Rattle.ca_server_core.proofs.server.ServerCore.sent.Goals as goal

pub invariant_of-self : goal.invariant_of-self
invariant_of-self c =
    let i = c.self.inside in
    record {
      sound = sound-sent (records_of i.records) i.circuits c.sent_on.new.circuits c.args.circuit c.args.n c.self.invariant.sound c.sent_on.ensures;
      covered = covers-thinned i.watchers i.circuits c.sent_on.new.circuits (thins-sent i.circuits c.sent_on.new.circuits c.args.circuit c.args.n c.sent_on.ensures) c.self.invariant.covered;
      listed = c.self.invariant.listed;
      led = led-thinned (records_of i.records) (records_of i.records) i.leading i.circuits c.sent_on.new.circuits (thins-sent i.circuits c.sent_on.new.circuits c.args.circuit c.args.n c.sent_on.ensures) c.self.invariant.led.listed c.self.invariant.led;
    }

pub returns : goal.returns
returns c = sends-at _ c.args.self.now c.args.circuit c.args.n c.sent_on.new.circuits c.self.view_is c.requires c.sent_on.ensures
