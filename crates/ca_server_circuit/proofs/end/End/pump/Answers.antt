use Rattle.ca_server_circuit.proofs.Pumps.{idle-end}
use Rattle.ca_server_circuit.proofs.end.End.pump.Goals as goal

pub returns-then-is_idle : goal.returns-then-is_idle
returns-then-is_idle c = idle-end _ c.args.self.now _ c.self.view_is (c.is_idle.ensures c.if-is_idle.true)
