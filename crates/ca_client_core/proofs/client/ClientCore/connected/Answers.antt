use Rattle.ca_model.specs.ClientEnds.{unconnected}
use Rattle.ca_client_core.proofs.Connected.{connects-done}
use Rattle.ca_client_core.proofs.client.ClientCore.connected.Goals as goal

pub returns-in-Ok : goal.returns-in-Ok
returns-in-Ok c =
    connects-done c.args.self.now c.args.circuit (unconnected c.args.self.now c.args.circuit) c.in-Ok.field-0 c.begin.new.self c.in-Ok.ensures
