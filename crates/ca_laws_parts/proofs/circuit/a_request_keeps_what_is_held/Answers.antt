use Rattle.ca_laws_parts.specs.Flows.{Awaits}
use Rattle.ca_laws_parts.proofs.CircuitCalls.{call-keeps, call-may}
use Rattle.ca_laws_parts.proofs.circuit.a_request_keeps_what_is_held.Goals as goal

pub returns : goal.returns
returns c = record {
  sent = λ kept on n x d s q kind channel number asks wire means suits may new holds.
      call-may (Awaits d kept) on n x d s q kind channel number asks wire means suits may new holds;
  held = λ kept on n x d s q kind channel number h l asked y asks wire means suits may new is holds.
      call-keeps (Awaits d kept) on n x d s q kind channel number asks wire means suits may new holds h l asked y is;
}
