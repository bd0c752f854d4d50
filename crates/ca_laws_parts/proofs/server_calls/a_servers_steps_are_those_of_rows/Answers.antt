use Rattle.ca_laws_parts.proofs.ServerStepping.{does-step, step-does}
use Rattle.ca_laws_parts.proofs.server_calls.a_servers_steps_are_those_of_rows.Goals as goal

pub returns : goal.returns
returns c = record {
  every = λ old h answer new does. step-does old h answer new does;
  only = λ old h answer d new does. does-step old h answer d new does;
}
