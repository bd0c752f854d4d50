use Rattle.std.proofs.Common.{◌≡◌, List, ℕ, inl, inr, refl, sym, ap, ◌∙◌, subst}
use Rattle.ca_model.specs.Ends as why
use Rattle.ca_model.specs.Server.{ServerCircuit, ServerEnd}
use Rattle.ca_model.specs.Server as server
use Rattle.ca_server_circuit.specs.declared.circuit.CircuitState.{CircuitState}
use Rattle.ca_server_circuit.specs.Circuits.{circuit_of}
use Rattle.ca_server_circuit.specs.CircuitOutput.{bytes_of}
use Rattle.ca_server_circuit.specs.Pumping.{PumpsOverAt}
use Rattle.ca_server_circuit.specs.Stepping.{why_is}
use Rattle.ca_server_circuit.specs.Subscribing.{events_of}
use Rattle.ca_server_subscriptions.specs.Subscribed.{HasRoom}
use Rattle.ca_server_circuit.proofs.circuit.Circuit.pump_over.Goals as goal

pub returns-in-Ok : goal.returns-in-Ok
returns-in-Ok c =
    let was : server.Open c.in-Open.end ≡ c.args.self.now = ap (λ (x : CircuitState). circuit_of x) (sym c.in-Open.is) ∙ c.self.view_is in
    let p = c.in-Ok.ensures in
    let room = subst (λ (e : ServerEnd). HasRoom (events_of e)) p.5 c.know.ensures.room in
    subst (λ (x : ServerCircuit). PumpsOverAt c.args.circuit x c.args.records.now (server.Open c.pump_over.new.self) c.args.records.now (bytes_of c.pump_over.new.to)) was
    (server.Open p.1, (p.0, p.1, p.2, inl (p.3, refl, room, refl)), p.4, ap (λ (e : ServerEnd). server.Open e) p.5)

pub returns-in-Err : goal.returns-in-Err
returns-in-Err c =
    let was : server.Open c.in-Open.end ≡ c.args.self.now = ap (λ (x : CircuitState). circuit_of x) (sym c.in-Open.is) ∙ c.self.view_is in
    let p = c.in-Err.ensures in
    subst (λ (x : ServerCircuit). PumpsOverAt c.args.circuit x c.args.records.now c.close.new.self c.close.new.records (bytes_of c.pump_over.new.to)) was
    (server.Ended why.OutOfMemory p.1.link.output, (p.0, p.1, p.2, inr (p.3, refl, c.close.ensures.1)), p.4, c.close.ensures.0 ∙ ap (λ (o : List ℕ). server.Ended why.OutOfMemory o) p.5)

pub returns-in-Ended : goal.returns-in-Ended
returns-in-Ended c =
    let was = ap (λ (x : CircuitState). circuit_of x) (sym c.in-Ended.is) ∙ c.self.view_is in
    subst (λ (x : ServerCircuit). PumpsOverAt c.args.circuit x c.args.records.now (server.Ended (why_is c.in-Ended.field-0) c.take.new.from) c.args.records.now (bytes_of c.take.new.self)) was
    (_, (refl, refl), ap bytes_of c.take.ensures.to, ap (λ (o : List ℕ). server.Ended (why_is c.in-Ended.field-0) o) c.take.ensures.from)
