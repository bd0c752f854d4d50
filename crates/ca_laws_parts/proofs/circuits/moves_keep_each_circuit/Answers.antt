use Rattle.ca_laws_parts.proofs.Bytes.{keeps-cut-client, keeps-down, keeps-up}
use Rattle.ca_laws_parts.proofs.RunsServers.{keeps-cut-server}
use Rattle.ca_laws_parts.proofs.circuits.moves_keep_each_circuit.Goals as goal

pub returns : goal.returns
returns c = record { up = keeps-up; down = keeps-down; cut_client = λ kept w new k l j x at there open_it s. keeps-cut-client kept w new k l j x at there open_it s.handles; cut_server = keeps-cut-server }
