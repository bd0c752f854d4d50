use Rattle.std.proofs.Common.{◌≡◌, sym, ap, ◌∙◌, subst}
use Rattle.std.proofs.lemmas.Bool.{both_ways}
use Rattle.ca_records.specs.Record.{RecordState}
use Rattle.ca_model.specs.Server.{ServerCircuit}
use Rattle.ca_model.specs.Server as server
use Rattle.ca_server_circuit.specs.declared.circuit.CircuitState.{CircuitState}
use Rattle.ca_server_circuit.specs.AtOnce.{ShowsAt, ShowsAtOnce}
use Rattle.ca_server_circuit.specs.Circuits.{circuit_of}
use Rattle.ca_server_circuit.proofs.AtOnce.{shows-at}
use Rattle.ca_server_circuit.proofs.circuit.Circuit.show_at_once.Goals as goal
use Rattle.ca_server_circuit.proofs.circuit.Circuit.show_at_once.Goals.{in-Ended, in-Open}

pub returns-clause-shown : goal.returns-clause-shown
returns-clause-shown c on = elim c.match-self.branch [
  | in-Open w ↦
      let was : server.Open w.in-Open.end ≡ c.args.self.now = ap (λ (x : CircuitState). circuit_of x) (sym w.in-Open.is) ∙ c.self.view_is in
      let r = w.at.result.now in
      let new = w.show_at_once-shown.new.self in
      let shows : ShowsAtOnce r.state c.args.mask w.in-Open.end new =
      subst (λ (x : RecordState). ShowsAtOnce x c.args.mask w.in-Open.end new) w.state.ensures (w.show_at_once-shown.ensures.shown (sym w.result-is ∙ on)) in
      let done =
      subst (λ (z : ServerCircuit). ShowsAt c.args.circuit c.args.place c.args.mask z c.args.records.now (server.Open new)) was
      (shows-at c.args.circuit c.args.place c.args.mask c.args.records.now r w.in-Open.end new w.at.ensures.at shows w.know.ensures.room) in
      rw (w.self-inside-is) done
  | in-Ended w ↦ absurd (both_ways c.match-self.result w.result-is on)
]
