use Rattle.ca_laws_parts.proofs.RunsServerSteps.{keeps-unhandled, others-handled, own-handled}
use Rattle.ca_laws_parts.proofs.circuits.a_servers_step_keeps_each_circuit.Goals as goal

pub returns : goal.returns
returns c = record {
  own = λ kept now w new k j y s at known held. own-handled kept w new k j y s at now known held;
  others = λ kept w new k l j y at s differs held. others-handled kept w new k j y s at l differs held;
  unhandled = keeps-unhandled;
}
