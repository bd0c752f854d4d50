use Rattle.std.proofs.Common.{◌≡◌, Some, refl, sym, ap, ◌∙◌, subst}
use Rattle.ca_model.specs.Server.{ServerCircuit}
use Rattle.ca_model.specs.Server as server
use Rattle.ca_server_circuit.specs.declared.circuit.CircuitState.{CircuitState}
use Rattle.ca_server_circuit.specs.declared.step.EndStep.{EndStep}
use Rattle.ca_server_circuit.specs.declared.step.EndStep.TheVariants as step
use Rattle.ca_server_circuit.specs.Circuits.{circuit_of}
use Rattle.ca_server_circuit.specs.Serving.{CircuitSteps}
use Rattle.ca_server_circuit.specs.Stepping.{EndSteps}
use Rattle.ca_server_circuit.proofs.circuit.Circuit.step.Goals as goal

pub returns-in-NeedBytes : goal.returns-in-NeedBytes
returns-in-NeedBytes c =
    let new = c.step-did.new.self in
    let was : server.Open c.in-Open.end ≡ c.args.self.now = ap (λ (x : CircuitState). circuit_of x) (sym c.in-Open.is) ∙ c.self.view_is in
    let did = subst (λ (d : EndStep). EndSteps c.args.port c.args.circuit c.in-Open.end c.args.records.now d new c.step-did.new.records) c.in-NeedBytes.is c.step-did.ensures in
    subst (λ (x : ServerCircuit). CircuitSteps c.args.port c.args.circuit x c.args.records.now (Some step.NeedBytes) (server.Open new) c.step-did.new.records) was
    (new, did, c.know.ensures.room, c.know.ensures.few, refl)
