use Rattle.std.proofs.Common.{◌≡◌, sym, ap, ◌∙◌, subst}
use Rattle.ca_model.specs.Server.{ServerCircuit, ServerEnd}
use Rattle.ca_model.specs.Server as server
use Rattle.ca_server_subscriptions.specs.Concerned.{ConcernsAt}
use Rattle.ca_server_circuit.specs.declared.circuit.CircuitState.{CircuitState}
use Rattle.ca_server_circuit.specs.Circuits.{circuit_of}
use Rattle.ca_server_circuit.specs.Concerned.{ConcernsOn}
use Rattle.ca_server_circuit.proofs.circuit.Circuit.concerned_at.Goals as goal

pub returns-in-Open : goal.returns-in-Open
returns-in-Open c =
    let was : server.Open c.in-Open.end ≡ c.args.self.now = ap (λ (x : CircuitState). circuit_of x) (sym c.in-Open.is) ∙ c.self.view_is in
    let on : ConcernsAt c.args.name.now c.args.mask c.args.place c.in-Open.end.subscriptions c.in-Open.end.queues c.concerned_at.result =
    subst (λ (e : ServerEnd). ConcernsAt c.args.name.now c.args.mask c.args.place e.subscriptions e.queues c.concerned_at.result) c.end.view_is c.concerned_at.ensures in
    subst (λ (x : ServerCircuit). ConcernsOn c.args.name.now c.args.mask c.args.place x c.concerned_at.result) was on
