use Rattle.std.proofs.Common.{◌≡◌, ℕ, List, ap, arith, get_or, length, map, refl, sym, subst, ◌∙◌}
use Rattle.std.specs.Prelude.{MatchOption}
use Rattle.ca_client_core.specs.declared.for_histories.Sending.{Sending}
use Rattle.ca_model.specs.World as model
use Rattle.ca_text.specs.Place.{At}
use Rattle.ca_world_data.specs.declared.joined.Joined.{Joined}
use Rattle.ca_world_data.specs.Found.{AreNumbered, IsAt, IsNowhere}
use Rattle.ca_world_data.specs.Seen.{joined_of}
use Rattle.ca_world_data.specs.Speaking.{GoesBy, HasRoomUp}
use Rattle.ca_world_data.proofs.Going.{goes-by, room-all, room-made}
use Rattle.ca_world_data.proofs.Withdrawals.{on-err}
use Rattle.ca_world_data.proofs.Worlds.{found}
use Rattle.ca_world_data.proofs.sending.reserve_sendings.Goals as goal

pub loop-place-preserved : goal.loop-place-preserved
loop-place-preserved c =
    let i : ℕ = c.args.client in
    let sent : List Sending = c.args.sendings.now in
    let ks : List Joined = c.loop-place.circuits.items in
    let ks' : List Joined = c.reserve_sent.new.circuits.items in
    let s : Sending = get_or sent c.loop-place.place c.index-sendings-place.result in
    let at : At sent c.loop-place.place s = found sent c.loop-place.place s c.index-sendings-place.result c.loop-place-test.true refl in
    let numbered : AreNumbered c.args.numbers.now (map joined_of ks) i = subst (λ (z : List model.Joined). AreNumbered c.args.numbers.now z i) (sym c.loop-place.invariant.same) c.requires in
    let o = c.circuit_of-number.result in
    let by : GoesBy o (map joined_of ks) i s.circuit =
    goes-by o (map joined_of ks) i s.circuit
    (subst (λ (z : List Joined). MatchOption o (IsNowhere (map joined_of z) i s.circuit) (IsAt (map joined_of z) i s.circuit)) c.deref.ensures.value c.circuit_of-number.ensures) in
    let made = subst (λ (n : ℕ). HasRoomUp n o ks') c.number_on.ensures c.in_ok-reserve_sent.ensures.room in
    record {
      same = c.reserve_sent.ensures.same ∙ c.loop-place.invariant.same;
      room = room-made i c.args.numbers.now sent c.loop-place.place s ks ks' o numbered c.loop-place.invariant.room at by c.reserve_sent.ensures.same made c.reserve_sent.ensures.keeps;
    }

pub returns-in_err-reserve_sent-clause-some : goal.returns-in_err-reserve_sent-clause-some
returns-in_err-reserve_sent-clause-some c =
    on-err c.from_residual.result (λ none. (let no : length c.args.sendings.now ≡ 0 = ap length none in omega (arith, c.loop-place-test.true, no)))

pub returns-clause-room : goal.returns-clause-room
returns-clause-room c = room-all c.args.client c.args.sendings.now c.loop-place.place c.loop-place.circuits.items c.loop-place-test.false c.loop-place.invariant.room
