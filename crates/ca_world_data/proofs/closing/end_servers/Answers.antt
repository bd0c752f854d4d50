use Rattle.std.proofs.Common.{◌≡◌, ℕ, ◌<◌, ◌≤◌, [], ◌∷◌, List, length, map, sym, ap, ◌∙◌, arith}
use Rattle.std.specs.Vec.Iter.{into_iter_items}
use Rattle.std.proofs.lemmas.List.{length-map, nil_from_length}
use Rattle.ca_text.specs.Place.{At}
use Rattle.ca_world_data.specs.declared.joined.Joined.{Joined}
use Rattle.ca_world_data.specs.Closing.{server_over}
use Rattle.ca_world_data.specs.Seen.{joined_of}
use Rattle.ca_world_data.proofs.Closings.{lefts-none, lefts-over, lefts-step, lefts_from}
use Rattle.ca_world_data.proofs.Worlds.{found}
use Rattle.ca_world_data.proofs.closing.end_servers.Goals as goal

pub loop-left-preserved-then-place-len : goal.loop-left-preserved-then-place-len
loop-left-preserved-then-place-len c =
    let ks : List Joined = c.loop-left.circuits.items in
    let p : ℕ = c.loop-left.place in
    let k : Joined = c.index_mut.result.now in
    let within : p < length ks = omega (arith, c.if-place-len.true, c.len.ensures) in
    let at : At ks p k = found ks p k k within c.index_mut.ensures.value in
    let steps : into_iter_items c.loop-left.left-iterator ≡ c.in-Some.left ∷ into_iter_items c.next.new.self = c.in-Some.ensures.steps.0 in
    record {
      circuits =
          lefts-step p (server_over c.args.server) ks k c.end_server.new.joined c.in-Some.left (into_iter_items c.next.new.self) at c.end_server.ensures
          ∙ ap (lefts_from p (server_over c.args.server) (map joined_of ks)) (sym steps)
          ∙ c.loop-left.invariant.circuits;
    }

pub loop-left-preserved : goal.loop-left-preserved
loop-left-preserved c =
    let ks : List Joined = c.loop-left.circuits.items in
    let p : ℕ = c.loop-left.place in
    let over : length (map joined_of ks) ≤ p = omega (arith, c.if-place-len.false, c.len.ensures, length-map ks joined_of) in
    record {
      circuits =
          lefts-over p (server_over c.args.server) (map joined_of ks) (into_iter_items c.next.new.self) over
          ∙ sym (lefts-over p (server_over c.args.server) (map joined_of ks) (into_iter_items c.loop-left.left-iterator) over)
          ∙ c.loop-left.invariant.circuits;
    }

pub returns : goal.returns
returns c =
    let ks : List Joined = c.loop-left.circuits.items in
    let p : ℕ = c.loop-left.place in
    let none : length (into_iter_items c.loop-left.left-iterator) ≡ 0 = sym c.loop-left.left-iterator.rest.ok.0 ∙ c.in-None.ensures.steps.0 in
    let empty : into_iter_items c.loop-left.left-iterator ≡ [] = nil_from_length (into_iter_items c.loop-left.left-iterator) none in
    sym (lefts-none p (server_over c.args.server) (map joined_of ks)) ∙ ap (lefts_from p (server_over c.args.server) (map joined_of ks)) (sym empty) ∙ c.loop-left.invariant.circuits
