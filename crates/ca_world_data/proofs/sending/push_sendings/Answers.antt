use Rattle.std.proofs.Common.{◌≡◌, ℕ, ◌∷◌, [], List, length, map, sym, ap, subst, ◌∙◌}
use Rattle.std.specs.Vec.Iter.{into_iter_items}
use Rattle.std.proofs.lemmas.List.{nil_from_length}
use Rattle.ca_client_core.specs.declared.for_histories.Sending.{Sending}
use Rattle.ca_client_core.specs.ForHistories.{sending_of}
use Rattle.ca_model.specs.History as history
use Rattle.ca_model.specs.World as model
use Rattle.ca_world_data.specs.declared.joined.Joined.{Joined}
use Rattle.ca_world_data.specs.Seen.{joined_of, names_of}
use Rattle.ca_world_data.specs.Sends.{HasRoomForAll}
use Rattle.ca_world_data.specs.Speaking.{GoesBy, sent_up, stamped}
use Rattle.ca_world_data.proofs.Going.{Goes, goes-by, none-up, room-first, went-up}
use Rattle.ca_world_data.proofs.sending.push_sendings.Goals as goal

pub push_sent-requires : goal.push_sent-requires
push_sent-requires c =
    let i : ℕ = c.args.client in
    let ks : List Joined = c.loop-sending.circuits.items in
    let s : Sending = c.in-Some.sending in
    let rest : List Sending = into_iter_items c.next.new.self in
    let room : HasRoomForAll i (s ∷ rest) ks = subst (λ (z : List Sending). HasRoomForAll i z ks) c.in-Some.ensures.steps.0 c.loop-sending.invariant.room in
    let by : GoesBy c.circuit_of-number.result (map joined_of ks) i s.circuit =
    goes-by c.circuit_of-number.result (map joined_of ks) i s.circuit
    (subst (λ (z : List Joined). Rattle.std.specs.Prelude.MatchOption c.circuit_of-number.result (Rattle.ca_world_data.specs.Found.IsNowhere (map joined_of z) i s.circuit) (Rattle.ca_world_data.specs.Found.IsAt (map joined_of z) i s.circuit)) c.deref.ensures.value c.circuit_of-number.ensures) in
    room-first i s rest ks c.circuit_of-number.result room by

pub loop-sending-preserved : goal.loop-sending-preserved
loop-sending-preserved c =
    let i : ℕ = c.args.client in
    let n : model.Names = names_of c.args.names.now in
    let ks : List Joined = c.loop-sending.circuits.items in
    let s : Sending = c.in-Some.sending in
    let rest : List Sending = into_iter_items c.next.new.self in
    let steps : into_iter_items c.loop-sending.sending-iterator ≡ s ∷ rest = c.in-Some.ensures.steps.0 in
    let all = map (sent_up i n (map sending_of c.args.sendings.items)) (map joined_of c.args.circuits.now.items) in
    let room : HasRoomForAll i (s ∷ rest) ks = subst (λ (z : List Sending). HasRoomForAll i z ks) steps c.loop-sending.invariant.room in
    let total : map (sent_up i n (map sending_of (s ∷ rest))) (map joined_of ks) ≡ all =
    subst (λ (z : List Sending). map (sent_up i n (map sending_of z)) (map joined_of ks) ≡ all) steps c.loop-sending.invariant.circuits in
    let by : GoesBy c.circuit_of-number.result (map joined_of ks) i s.circuit =
    goes-by c.circuit_of-number.result (map joined_of ks) i s.circuit
    (subst (λ (z : List Joined). Rattle.std.specs.Prelude.MatchOption c.circuit_of-number.result (Rattle.ca_world_data.specs.Found.IsNowhere (map joined_of z) i s.circuit) (Rattle.ca_world_data.specs.Found.IsAt (map joined_of z) i s.circuit)) c.deref.ensures.value c.circuit_of-number.ensures) in
    let said : history.Sent = record { message = s.message; intent = Rattle.ca_world_data.specs.Seen.intent_of c.intent_for-intent.result } in
    let is : said ≡ stamped n (sending_of s) = λ t. record { message = s.message; intent = c.intent_for-intent.ensures t } in
    let done : Goes c.args.numbers.now i n rest c.push_sent.new.circuits.items all =
    went-up c.args.numbers.now i n s rest ks c.push_sent.new.circuits.items c.circuit_of-number.result said all c.loop-sending.invariant.numbered room by is c.push_sent.ensures.goes c.push_sent.ensures.leaves total in
    record { numbered = done.numbered; room = done.room; circuits = done.circuits }

pub returns : goal.returns
returns c =
    let i : ℕ = c.args.client in
    let n : model.Names = names_of c.args.names.now in
    let ks : List Joined = c.loop-sending.circuits.items in
    let none : length (into_iter_items c.loop-sending.sending-iterator) ≡ 0 = sym c.loop-sending.sending-iterator.rest.ok.0 ∙ c.in-None.ensures.steps.0 in
    let empty : into_iter_items c.loop-sending.sending-iterator ≡ [] = nil_from_length (into_iter_items c.loop-sending.sending-iterator) none in
    sym (none-up i n (map joined_of ks)) ∙ ap (λ (z : List Sending). map (sent_up i n (map sending_of z)) (map joined_of ks)) (sym empty) ∙ c.loop-sending.invariant.circuits
