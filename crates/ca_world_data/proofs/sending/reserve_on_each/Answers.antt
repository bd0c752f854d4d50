use Rattle.std.proofs.Common.{ℕ, List, get_or, refl, ◌∙◌}
use Rattle.ca_text.specs.Place.{At}
use Rattle.ca_world_data.proofs.Each.{room-until-all, room-until-more, room-until-none}
use Rattle.ca_world_data.proofs.Worlds.{found}
use Rattle.ca_world_data.proofs.sending.reserve_on_each.Goals as goal

pub loop-place-init : goal.loop-place-init
loop-place-init c = record { same = refl; room = room-until-none c.args.messages c.args.numbers.now c.args.circuits.now.items }

pub loop-place-preserved : goal.loop-place-preserved
loop-place-preserved c =
    let numbers : List ℕ = c.args.numbers.now in
    let n : ℕ = get_or numbers c.loop-place.place 0 in
    let at : At numbers c.loop-place.place n = found numbers c.loop-place.place n 0 c.loop-place-test.true refl in
    record {
      same = c.reserve_sent.ensures.same ∙ c.loop-place.invariant.same;
      room = room-until-more c.args.messages numbers c.loop-place.place n c.loop-place.circuits.items c.reserve_sent.new.circuits.items at c.loop-place.invariant.room c.in_ok-reserve_sent.ensures.room c.reserve_sent.ensures.keeps;
    }

pub returns-clause-room : goal.returns-clause-room
returns-clause-room c = room-until-all c.args.messages c.args.numbers.now c.loop-place.place c.loop-place.circuits.items c.loop-place-test.false c.loop-place.invariant.room
