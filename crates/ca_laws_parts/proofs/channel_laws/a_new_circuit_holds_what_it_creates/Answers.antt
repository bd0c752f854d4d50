use Rattle.ca_laws_parts.specs.Flows.{Awaits}
use Rattle.ca_laws_parts.proofs.Connects.{connects-holds, connects-may, new-holds, serving-keeps, serving-may}
use Rattle.ca_laws_parts.proofs.channel_laws.a_new_circuit_holds_what_it_creates.Goals as goal

pub returns : goal.returns
returns c = record {
  new = λ kept on n x d up down few attached none. new-holds (Awaits d kept) on n x d up down few attached none;
  serving = λ kept on n x d s is serves holds. (serving-may (Awaits d kept) d s is serves, serving-keeps (Awaits d kept) on n x d s serves holds);
  connects = λ kept on n x d sends none holds. (connects-may (Awaits d kept) on n x d none holds, connects-holds (Awaits d kept) on n x d none holds sends);
}
