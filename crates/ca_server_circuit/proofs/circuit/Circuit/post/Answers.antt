use Rattle.std.proofs.Common.{◌≡◌, true, sym, ap, ◌∙◌, subst}
use Rattle.std.specs.Prelude.{option_map}
use Rattle.std.specs.Arc.{arc_value}
use Rattle.std.specs.List.{list_any}
use Rattle.ca_records.specs.Puts.{Record}
use Rattle.ca_records.specs.Record.{RecordState}
use Rattle.ca_model.specs.Server.{ServerCircuit, concerns}
use Rattle.ca_model.specs.Server as server
use Rattle.ca_server_circuit.specs.declared.circuit.CircuitState.{CircuitState}
use Rattle.ca_server_circuit.specs.Circuits.{circuit_of}
use Rattle.ca_server_circuit.specs.Posting.{WatchesAt, stored_of}
use Rattle.ca_server_subscriptions.specs.Sharing.{IsCopy}
use Rattle.ca_server_circuit.proofs.Taken.{one-record}
use Rattle.ca_server_circuit.proofs.Watched.{concerned-on}
use Rattle.ca_server_circuit.proofs.circuit.Circuit.post.Goals as goal

pub at-requires : goal.at-requires
at-requires c = (c.requires.copy.0, c.requires.copy.1)

pub post-requires : goal.post-requires
post-requires c =
    let r = c.requires.copy in
    let one = one-record c.args.records.now c.args.place r.0 c.at.result.now r.1 c.at.ensures.at in
    subst (λ (x : RecordState). IsCopy (stored_of x) (option_map arc_value c.args.shared.now)) (ap (λ (x : Record). x.state) one ∙ sym c.state.ensures) r.2

pub returns-in-Err-clause-watches : goal.returns-in-Err-clause-watches
returns-in-Err-clause-watches c =
    let was : server.Open c.in-Open.end ≡ c.args.self.now = ap (λ (x : CircuitState). circuit_of x) (sym c.in-Open.is) ∙ c.self.view_is in
    let r = c.at.result.now in
    let concerned = subst (λ (x : RecordState). list_any (concerns x.name c.args.mask) c.in-Open.end.subscriptions ≡ true) c.state.ensures c.in-Err.ensures.concerned in
    subst (λ (z : ServerCircuit). WatchesAt c.args.place z c.args.records.now true) was
    (r, c.at.ensures.at, sym (concerned-on r.state.name c.args.mask c.in-Open.end.subscriptions concerned))
