use Rattle.ca_laws_parts.proofs.CallsStepping.{read-steps, step-reads}
use Rattle.ca_laws_parts.proofs.client_calls.a_clients_steps_are_those_of_rows.Goals as goal

pub returns : goal.returns
returns c = record {
  every = λ old d answer sent new does. step-reads old d answer sent new does;
  only = λ old d read answer sent new does. read-steps old d read answer sent new does;
}
