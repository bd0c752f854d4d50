use Rattle.std.proofs.Common.{◌≡◌, ℕ, ◌<◌, ◌≤◌, length, List, map, inl, inr, slice_index_or, refl, sym, arith, ◌∙◌}
use Rattle.std.proofs.lemmas.List.{length-map}
use Rattle.ca_text.specs.Place.{At}
use Rattle.ca_text.proofs.Places.{At-map, At-set}
use Rattle.ca_model.specs.ServerEvents.{numbers_posted}
use Rattle.ca_world_data.specs.declared.joined.Joined.{Joined}
use Rattle.ca_world_data.specs.Seen.{joined_of}
use Rattle.ca_world_data.proofs.Counting.{each-next}
use Rattle.ca_world_data.proofs.Gone.{from-over}
use Rattle.ca_world_data.proofs.Worlds.{found}
use Rattle.ca_world_data.proofs.numbering.post_numbers.Goals as goal

pub number_on-requires-clause-alike : goal.number_on-requires-clause-alike
number_on-requires-clause-alike c =
    let ks : List Joined = c.loop-joined.circuits in
    let i : ℕ = c.loop-joined.joined-index in
    let j : Joined = slice_index_or ks i c.joined-item.result in
    let within : i < length ks = omega (arith, c.loop-joined-test.true) in
    let at : At ks i j = found ks i j c.joined-item.result within refl in
    let was : At c.args.circuits.now i j = c.loop-joined.invariant.rest i j (omega arith) at in
    c.requires.alike i (joined_of j) (At-map joined_of c.args.circuits.now i j was)

pub number_on-requires-clause-counts : goal.number_on-requires-clause-counts
number_on-requires-clause-counts c =
    let ks : List Joined = c.loop-joined.circuits in
    let i : ℕ = c.loop-joined.joined-index in
    let j : Joined = slice_index_or ks i c.joined-item.result in
    let within : i < length ks = omega (arith, c.loop-joined-test.true) in
    let at : At ks i j = found ks i j c.joined-item.result within refl in
    c.requires.counts i j (c.loop-joined.invariant.rest i j (omega arith) at)

pub loop-joined-preserved : goal.loop-joined-preserved
loop-joined-preserved c =
    let ks : List Joined = c.loop-joined.circuits in
    let i : ℕ = c.loop-joined.joined-index in
    let j : Joined = slice_index_or ks i c.joined-item.result in
    let within : i < length ks = omega (arith, c.loop-joined-test.true) in
    let at : At ks i j = found ks i j c.joined-item.result within refl in
    record {
      circuits = each-next (numbers_posted c.args.server c.args.core.now c.args.name.now c.args.mask) i ks j c.number_on.new.joined at c.number_on.ensures ∙ c.loop-joined.invariant.circuits;
      rest = λ k l le there. elim (At-set ks i c.number_on.new.joined k l there) [
        | inl here ↦ (let e : k ≡ i = here.0 in absurd (omega (arith, e, le)))
        | inr old ↦ c.loop-joined.invariant.rest k l (omega (arith, le)) old.0
      ];
    }

pub returns : goal.returns
returns c =
    let ks : List Joined = c.loop-joined.circuits in
    let i : ℕ = c.loop-joined.joined-index in
    let over : length (map joined_of ks) ≤ i = omega (arith, c.loop-joined-test.false, length-map ks joined_of) in
    sym (from-over i (numbers_posted c.args.server c.args.core.now c.args.name.now c.args.mask) (map joined_of ks) over) ∙ c.loop-joined.invariant.circuits
