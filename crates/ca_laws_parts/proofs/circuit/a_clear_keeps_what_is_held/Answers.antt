use Rattle.ca_laws_parts.specs.Flows.{Awaits}
use Rattle.ca_laws_parts.proofs.Clears.{clears}
use Rattle.ca_laws_parts.proofs.circuit.a_clear_keeps_what_is_held.Goals as goal

pub returns : goal.returns
returns c kept on n x d h native rights is holds = clears (Awaits d kept) on n x d h native rights is holds
