use Rattle.ca_server_circuit.proofs.Cleared.{withdraws-served, withdraws-stray}
use Rattle.ca_server_circuit.proofs.end.End.withdraw.Goals as goal

pub returns-in-Served : goal.returns-in-Served
returns-in-Served c =
    withdraws-served c.args.circuit c.args.records.now c.withdraw.new.self c.args.self.now c.args.sid c.in-Served.seat c.in-Served.ensures.limit c.requires.puts c.in-Served.ensures.seeks c.withdraw.ensures

pub returns-in-Stray : goal.returns-in-Stray
returns-in-Stray c =
    withdraws-stray c.args.circuit c.args.records.now c.args.self.now c.args.sid c.in-Stray.field-0 c.in-Stray.ensures.limit c.requires.puts c.in-Stray.ensures.seeks
