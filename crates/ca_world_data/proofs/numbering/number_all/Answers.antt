use Rattle.std.proofs.Common.{◌≡◌, ℕ, ◌≤◌, length, sym, ap, subst, arith, ◌∙◌}
use Rattle.std.specs.List.{fold}
use Rattle.std.proofs.lemmas.List.{length-map}
use Rattle.ca_arena.specs.declared.handle.Handle.{Handle}
use Rattle.ca_ids.specs.Table.{under}
use Rattle.ca_model.specs.ServerEvents.{with_number}
use Rattle.ca_model.specs.World as model
use Rattle.ca_world_data.specs.Numbering.{IsAlike, keys_at, keys_to}
use Rattle.ca_world_data.specs.Seen.{joined_of, standing_of}
use Rattle.ca_world_data.proofs.Numbers.{alike-still, numbers-all, numbers-next, numbers-none, same-server}
use Rattle.ca_world_data.proofs.numbering.number_all.Goals as goal

pub loop-place-init : goal.loop-place-init
loop-place-init c = record {
  numbered = numbers-none c.args.name.now c.args.mask (under c.args.core.now.circuits c.args.joined.now.at_server) (joined_of c.args.joined.now);
  rest = λ i s le at. at;
}

pub number_next-requires-clause-alike : goal.number_next-requires-clause-alike
number_next-requires-clause-alike c =
    let j : model.Joined = joined_of c.args.joined.now in
    let now : model.Joined = joined_of c.loop-place.joined in
    let o = under c.args.core.now.circuits j.at_server in
    let keys = keys_to c.args.name.now c.args.mask c.loop-place.place o in
    let was = c.loop-place.invariant.numbered in
    let same : now.at_server ≡ j.at_server = ap (λ (z : model.Joined). z.at_server) was ∙ same-server keys j in
    subst (λ (h : Handle). IsAlike (under c.args.core.now.circuits h) now) (sym same) (subst (λ (z : model.Joined). IsAlike o z) (sym was) (alike-still keys o j c.requires.alike))

pub number_next-requires-clause-counts : goal.number_next-requires-clause-counts
number_next-requires-clause-counts c = λ s at. c.requires.counts c.loop-place.place s (c.loop-place.invariant.rest c.loop-place.place s (omega arith) at)

pub loop-place-preserved : goal.loop-place-preserved
loop-place-preserved c =
    let j : model.Joined = joined_of c.args.joined.now in
    let now : model.Joined = joined_of c.loop-place.joined in
    let o = under c.args.core.now.circuits j.at_server in
    let p : ℕ = c.loop-place.place in
    let keys = keys_to c.args.name.now c.args.mask p o in
    let was = c.loop-place.invariant.numbered in
    let same : now.at_server ≡ j.at_server = ap (λ (z : model.Joined). z.at_server) was ∙ same-server keys j in
    let did = c.number_next.ensures.numbers ∙ ap (λ (h : Handle). fold with_number now (keys_at c.args.name.now c.args.mask p (under c.args.core.now.circuits h))) same in
    record {
      numbered = numbers-next c.args.name.now c.args.mask p o j now (joined_of c.number_next.new.joined) was did;
      rest = λ i s le at. c.loop-place.invariant.rest i s (omega (arith, le)) (c.number_next.ensures.others i s (omega (arith, le)) at);
    }

pub returns : goal.returns
returns c =
    let j : model.Joined = joined_of c.args.joined.now in
    let few = length-map c.args.joined.now.standing.items standing_of in
    let le : length j.standing ≤ c.loop-place.place = omega (arith, few, c.len-place-end.ensures, c.loop-place-test.false) in
    numbers-all c.args.name.now c.args.mask c.loop-place.place (under c.args.core.now.circuits j.at_server) j (joined_of c.loop-place.joined) c.requires.alike le c.loop-place.invariant.numbered
