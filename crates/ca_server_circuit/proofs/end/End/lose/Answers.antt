use Rattle.ca_server_circuit.proofs.Lost.{loses}
use Rattle.ca_server_circuit.proofs.end.End.lose.Goals as goal

pub returns-clause-ok : goal.returns-clause-ok
returns-clause-ok c = loses c.args.name.now c.args.self.now c.tell_all.new.self c.retire_all.new.self c.in_ok-tell_all.ensures.ok c.retire_all.ensures
