use Rattle.std.proofs.Common.{◌≤◌, ℕ, List, ap, length, map, refl, subst, sym, ◌∙◌}
use Rattle.ca_client_core.specs.declared.for_histories.Sending.{Sending}
use Rattle.ca_client_core.specs.ForHistories.{sending_of}
use Rattle.ca_model.specs.World as model
use Rattle.ca_world_data.specs.declared.joined.Joined.{Joined}
use Rattle.ca_world_data.specs.Found.{AreNumbered}
use Rattle.ca_world_data.specs.Seen.{client_of, joined_of}
use Rattle.ca_world_data.specs.Sends.{HasRoomOnEach}
use Rattle.ca_world_data.specs.Speaking.{sent_up}
use Rattle.ca_world_data.proofs.Each.{room-each}
use Rattle.ca_world_data.proofs.hearing.hear_datagram.Goals as goal

pub push_sendings-requires-clause-numbered : goal.push_sendings-requires-clause-numbered
push_sendings-requires-clause-numbered c =
    subst (λ (z : List ℕ). AreNumbered z (map joined_of c.reserve_on_each.new.circuits.items) c.args.client) (sym c.deref-2.ensures.value)
    (subst (λ (z : List model.Joined). AreNumbered c.args.side.now.circuits.items z c.args.client) (sym c.reserve_on_each.ensures.same) c.requires)

pub push_sendings-requires-clause-room : goal.push_sendings-requires-clause-room
push_sendings-requires-clause-room c =
    let numbers : List ℕ = c.args.side.now.circuits.items in
    let ks : List Joined = c.reserve_on_each.new.circuits.items in
    let sent : List Sending = c.in_ok-sent.sent.items in
    let n : ℕ = c.most_messages.result in
    let few : length sent ≤ n = c.most_messages.ensures (length sent) c.in_ok-sent.ensures.1 in
    let numbered : AreNumbered numbers (map joined_of ks) c.args.client = subst (λ (z : List model.Joined). AreNumbered numbers z c.args.client) (sym c.reserve_on_each.ensures.same) c.requires in
    let each : HasRoomOnEach n numbers ks = subst (λ (z : List ℕ). HasRoomOnEach n z ks) c.deref.ensures.value c.in_ok-reserve_on_each.ensures.room in
    room-each c.args.client n numbers sent ks numbered each few

pub returns-clause-hears : goal.returns-clause-hears
returns-clause-hears c =
    let sent : List Sending = c.in_ok-sent.sent.items in
    (map sending_of sent, c.in_ok-sent.ensures.0, refl, c.push_sendings.ensures ∙ ap (map (sent_up c.args.client (client_of c.args.side.now).names (map sending_of sent))) c.reserve_on_each.ensures.same)
