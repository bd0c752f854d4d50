use Rattle.std.proofs.Common.{◌≡◌, ℕ, ◌<◌, ◌≤◌, ◌∙◌, length, List, map, inl, inr, slice_index_or, refl, sym, arith}
use Rattle.std.proofs.lemmas.List.{length-map}
use Rattle.ca_text.specs.Place.{At}
use Rattle.ca_text.proofs.Places.{At-set, At-within}
use Rattle.ca_world_data.specs.declared.joined.Joined.{Joined}
use Rattle.ca_world_data.specs.Seen.{joined_of}
use Rattle.ca_world_data.proofs.Counting.{each-next}
use Rattle.ca_world_data.proofs.Gone.{from-over}
use Rattle.ca_world_data.proofs.Worlds.{found}
use Rattle.ca_world_servers.specs.declared.losing.Leading.{Leading}
use Rattle.ca_world_servers.proofs.losing.lose_all.Goals as goal

pub lose_on-requires : goal.lose_on-requires
lose_on-requires c =
    let ks : List Joined = c.loop-joined.circuits in
    let i : ℕ = c.loop-joined.joined-index in
    let j : Joined = slice_index_or ks i c.joined-item.result in
    let within : i < length ks = omega (arith, c.loop-joined-test.true) in
    let at : At ks i j = found ks i j c.joined-item.result within refl in
    let was : At c.args.circuits.now i j = c.loop-joined.invariant.rest i j (omega arith) at in
    let lt : i < length c.args.circuits.now = At-within c.args.circuits.now i j was in
    let one : Leading = c.index-leading-place.result in
    let far : c.loop-joined.place < length c.args.leading.now = omega (arith, lt, c.requires.may.long, c.loop-joined.invariant.place) in
    let led : At c.args.leading.now c.loop-joined.place one = found c.args.leading.now c.loop-joined.place one one far c.index-leading-place.is in
    record { may = c.requires.may.each i j one was (rw (← c.loop-joined.invariant.place) led) }

pub loop-joined-preserved : goal.loop-joined-preserved
loop-joined-preserved c =
    let ks : List Joined = c.loop-joined.circuits in
    let i : ℕ = c.loop-joined.joined-index in
    let j : Joined = slice_index_or ks i c.joined-item.result in
    let within : i < length ks = omega (arith, c.loop-joined-test.true) in
    let at : At ks i j = found ks i j c.joined-item.result within refl in
    let was : At c.args.circuits.now i j = c.loop-joined.invariant.rest i j (omega arith) at in
    let lt : i < length c.args.circuits.now = At-within c.args.circuits.now i j was in
    let one : Leading = c.index-leading-place.result in
    let far : c.loop-joined.place < length c.args.leading.now = omega (arith, lt, c.requires.may.long, c.loop-joined.invariant.place) in
    let led : At c.args.leading.now i one = rw (← c.loop-joined.invariant.place) (found c.args.leading.now c.loop-joined.place one one far c.index-leading-place.is) in
    let sent = (c.requires.may.each i j one was led).sent in
    record {
      circuits = λ f lost. each-next f i ks j c.lose_on.new.joined at (c.lose_on.ensures sent.0 sent.1 ∙ sym (lost i j one sent.0 was led sent.1)) ∙ c.loop-joined.invariant.circuits f lost;
      rest = λ k l le there. elim (At-set ks i c.lose_on.new.joined k l there) [
        | inl here ↦ (let e : k ≡ i = here.0 in absurd (omega (arith, e, le)))
        | inr old ↦ c.loop-joined.invariant.rest k l (omega (arith, le)) old.0
      ];
      place = omega (arith, c.loop-joined.invariant.place);
    }

pub returns : goal.returns
returns c = λ f lost.
    let ks : List Joined = c.loop-joined.circuits in
    let i : ℕ = c.loop-joined.joined-index in
    let over : length (map joined_of ks) ≤ i = omega (arith, c.loop-joined-test.false, length-map ks joined_of) in
    sym (from-over i f (map joined_of ks) over) ∙ c.loop-joined.invariant.circuits f lost
