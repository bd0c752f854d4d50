use Rattle.std.proofs.Common.{inl, refl, subst, sym}
use Rattle.ca_model.specs.Server.{ServerCircuit}
use Rattle.ca_server_circuit.specs.CircuitOutput.{bytes_of}
use Rattle.ca_server_circuit.specs.Pumping.{PumpsOverAt}
use Rattle.ca_server_core.proofs.pumping.pump_over_on.Goals as goal

pub returns : goal.returns
returns c =
    let s = c.args.records.now in
    let out = bytes_of c.pump_over.new.to in
    let did = subst (λ (x : ServerCircuit). PumpsOverAt c.args.circuit x s c.pump_over.new.self c.pump_over.new.records out) c.borrow_from.ensures c.pump_over.ensures in
    inl (c.in-Some.found.now, c.give_back.new.self, sym c.in-Some.ensures.value, subst (λ (x : ServerCircuit). PumpsOverAt c.args.circuit c.in-Some.found.now s x c.pump_over.new.records out) (sym c.give_back.ensures) did, refl)
