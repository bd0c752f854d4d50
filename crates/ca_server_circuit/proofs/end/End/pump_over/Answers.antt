use Rattle.std.proofs.Common.{refl, subst, sym}
use Rattle.ca_model.specs.Server.{ServerEnd}
use Rattle.ca_server_circuit.specs.CircuitOutput.{end_behind}
use Rattle.ca_server_circuit.specs.Pumping.{PumpsEnd}
use Rattle.ca_server_circuit.proofs.Leaving.{pumps-over}
use Rattle.ca_server_circuit.proofs.end.End.pump_over.Goals as goal

pub returns : goal.returns
returns c =
    let p = c.pump_all-pumped in
    let o = c.args.to.now in
    pumps-over c.args.self.now _ _ p.result o p.new.to c.take_last.new.self c.take_last.new.link c.requires.nothing p.ensures.grows
    (subst (λ (e : ServerEnd). PumpsEnd (end_behind o.before c.args.self.now) p.result (end_behind p.new.to.before e)) (sym c.self.view_is) p.ensures.pumps) c.take_last.ensures.to c.take_last.ensures.link refl
