use Rattle.std.proofs.Common.{◌≡◌, ◌∙◌, ℕ, ◌+◌, ◌<◌, List, ap, arith, drop, length, sym}
use Rattle.std.specs.Prelude.{filter_map, slice_get}
use Rattle.std.proofs.lemmas.List.{drop_all}
use Rattle.ca_arena.specs.declared.handle.Handle.{Handle}
use Rattle.ca_model.specs.ClientCalls.{WantedCircuit}
use Rattle.ca_client_core.specs.Wanted.{wanted_circuit, wanted_in_place}
use Rattle.ca_client_core.proofs.InPlace.{from-place, passed-one, the-one}
use Rattle.ca_client_core.proofs.client.ClientCore.wanted.Goals as goal

pub loop-index-preserved : goal.loop-index-preserved
loop-index-preserved c =
    let x = c.args.self.now in
    let i : ℕ = c.loop-index.index in
    let within : i < length x.order = omega (arith, c.loop-index-test.true, c.circuits_listed-index-end.ensures) in
    let rest : List WantedCircuit = filter_map (wanted_circuit x) (drop (i + 1) x.order) in
    sym (ap (λ (ws : List WantedCircuit). slice_get ws c.loop-index.left) (from-place (wanted_circuit x) x.order i within) ∙ passed-one (wanted_in_place x i) rest c.loop-index.left c.in-Err.rest c.in-Err.ensures)
    ∙ c.loop-index.invariant

pub returns-in-Ok : goal.returns-in-Ok
returns-in-Ok c =
    let x = c.args.self.now in
    let i : ℕ = c.loop-index.index in
    let within : i < length x.order = omega (arith, c.loop-index-test.true, c.circuits_listed-index-end.ensures) in
    let rest : List WantedCircuit = filter_map (wanted_circuit x) (drop (i + 1) x.order) in
    sym (ap (λ (ws : List WantedCircuit). slice_get ws c.loop-index.left) (from-place (wanted_circuit x) x.order i within) ∙ the-one (wanted_in_place x i) rest c.loop-index.left c.in-Ok.found c.in-Ok.ensures)
    ∙ c.loop-index.invariant

pub returns : goal.returns
returns c =
    let x = c.args.self.now in
    sym (ap (λ (hs : List Handle). slice_get (filter_map (wanted_circuit x) hs) c.loop-index.left) (drop_all c.loop-index.index x.order (omega (arith, c.loop-index-test.false, c.circuits_listed-index-end.ensures))))
    ∙ c.loop-index.invariant
