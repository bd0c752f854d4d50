use Rattle.std.proofs.Common.{◌≡◌, List, ℕ, inr, sym, ap, ◌∙◌, subst}
use Rattle.ca_model.specs.Ends as why
use Rattle.ca_model.specs.Server.{ServerCircuit}
use Rattle.ca_model.specs.Server as server
use Rattle.ca_server_circuit.specs.declared.circuit.CircuitState.{CircuitState}
use Rattle.ca_server_circuit.specs.Circuits.{circuit_of}
use Rattle.ca_server_circuit.specs.Pumping.{PumpsAt}
use Rattle.ca_server_circuit.proofs.circuit.Circuit.pump.Goals as goal

pub returns-in-Err : goal.returns-in-Err
returns-in-Err c =
    let was : server.Open c.in-Open.end ≡ c.args.self.now = ap (λ (x : CircuitState). circuit_of x) (sym c.in-Open.is) ∙ c.self.view_is in
    let p = c.in-Err.ensures in
    subst (λ (z : ServerCircuit). PumpsAt c.args.circuit z c.args.records.now c.close.new.self c.close.new.records) was
    (p.0, p.1, p.2, inr (p.3, c.close.ensures.0 ∙ ap (λ (o : List ℕ). server.Ended why.OutOfMemory o) p.4, c.close.ensures.1))
