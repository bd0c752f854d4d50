use Rattle.ca_server_core.proofs.Added.{adds-ok, sound-added}
use Rattle.ca_server_core.proofs.Listed.{listed-added}
use Rattle.ca_server_core.proofs.server.ServerCore.add_displayed.Goals as goal

pub invariant_of-self-2 : goal.invariant_of-self-2
invariant_of-self-2 c = record {
  sound = sound-added c.self.inside.records c.add_held.new.self _ c.in_ok-add_held.field-0 c.in_ok-add_held.ensures c.self.inside.circuits c.self.invariant.sound;
  covered = c.self.invariant.covered;
  listed = listed-added c.self.inside.records c.add_held.new.self _ c.in_ok-add_held.field-0 c.self.inside.watchers c.in_ok-add_held.ensures c.self.invariant.listed;
  led = record {
    leads = c.self.invariant.led.leads;
    listed = listed-added c.self.inside.records c.add_held.new.self _ c.in_ok-add_held.field-0 c.self.inside.leading c.in_ok-add_held.ensures c.self.invariant.led.listed;
  };
}

pub returns : goal.returns
returns c =
    let i = c.self.inside in
    rw c.displayed.ensures at (adds-ok i.records c.add_held.new.self _ c.in_ok-add_held.field-0 c.in_ok-add_held.ensures c.args.self.now i.port i.moment i.applied i.beacons i.circuits c.self.view_is)
