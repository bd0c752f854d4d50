use Rattle.std.proofs.Common.{ℕ, ◌+◌, ◌<◌, List, Option, ap, arith, drop, length, sym, ◌∙◌}
use Rattle.std.specs.Prelude.{filter_map}
use Rattle.ca_arena.specs.declared.handle.Handle.{Handle}
use Rattle.ca_client_core.specs.Wanted.{wanted_circuit}
use Rattle.ca_model.specs.ClientCalls.{WantedCircuit}
use Rattle.ca_world_data.specs.declared.server.ServerSide.{ServerSide}
use Rattle.ca_world_data.specs.Accepting.{first_served, first_there}
use Rattle.ca_world_data.proofs.Accepted.{served-step}
use Rattle.ca_world_data.proofs.Worlds.{one-at}
use Rattle.ca_world_data.proofs.accepting.first_served.Goals as goal

pub returns-in-Some : goal.returns-in-Some
returns-in-Some c =
    let ys : List ServerSide = c.args.servers.now in
    let order : List Handle = c.args.core.now.order in
    let i : ℕ = c.loop-place.place in
    let within : i < length order = omega (arith, c.loop-place-test.true, c.circuits_listed-place-end.ensures) in
    let one = one-at order i within in
    let rest : Option (WantedCircuit × ℕ) = first_served ys (filter_map (wanted_circuit c.args.core.now) (drop (i + 1) order)) in
    ap (λ (o : Option (WantedCircuit × ℕ)). first_there o rest) c.in-Some.ensures
    ∙ sym (served-step ys (wanted_circuit c.args.core.now) order i one.0 one.1)
    ∙ c.loop-place.invariant.left

pub loop-place-preserved : goal.loop-place-preserved
loop-place-preserved c =
    let ys : List ServerSide = c.args.servers.now in
    let order : List Handle = c.args.core.now.order in
    let i : ℕ = c.loop-place.place in
    let within : i < length order = omega (arith, c.loop-place-test.true, c.circuits_listed-place-end.ensures) in
    let one = one-at order i within in
    let rest : Option (WantedCircuit × ℕ) = first_served ys (filter_map (wanted_circuit c.args.core.now) (drop (i + 1) order)) in
    record {
      left =
          ap (λ (o : Option (WantedCircuit × ℕ)). first_there o rest) c.in_default.ensures
          ∙ sym (served-step ys (wanted_circuit c.args.core.now) order i one.0 one.1)
          ∙ c.loop-place.invariant.left;
    }
