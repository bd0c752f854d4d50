use Rattle.ca_server_circuit.proofs.Leaving.{pumps-whole}
use Rattle.ca_server_circuit.proofs.end.End.pump_waiting.Goals as goal

pub returns : goal.returns
returns c =
    pumps-whole c.args.self.now c.pump_all.new.self c.pump_all.result c.sharing-whole.result c.pump_all.new.to c.sharing-whole.ensures c.pump_all.ensures.grows c.pump_all.ensures.pumps
