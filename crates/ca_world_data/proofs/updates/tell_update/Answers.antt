use Rattle.std.proofs.Common.{◌≡◌, ℕ, List, ◌∷◌, map, refl, sym, subst, arith}
use Rattle.std.specs.Prelude.{Vec}
use Rattle.std.specs.VecDeque.{deque_items}
use Rattle.std.specs.declared.alloc.Global.{Global}
use Rattle.std.proofs.lemmas.List.{length-map}
use Rattle.ca_text.specs.Place.{At}
use Rattle.ca_text.proofs.Places.{At-map}
use Rattle.ca_wire.specs.Fields.{Fields}
use Rattle.ca_wire.specs.Message.{spelled}
use Rattle.ca_world_data.specs.declared.joined.Joined.{Joined}
use Rattle.ca_world_data.specs.Updates.{TellsNext, shown_by}
use Rattle.ca_world_data.proofs.Worlds.{found, set-map}
use Rattle.ca_world_data.proofs.UpdateTellings.{has-rooms, room-down, room-empty, room-fits, some-number, some-room, tells-next}
use Rattle.ca_world_data.proofs.updates.tell_update.Goals as goal

-- the memory of the queues
abbrev Rooms : Type 0
Rooms = List (List (Vec ℕ Global))

pub unreachable-requires : goal.unreachable-requires
unreachable-requires c =
    let r = c.requires in
    some-number r.0 r.1 r.2 c.args.bytes.now c.args.joined.now (map deque_items c.args.rooms.now.items) r.3 c.in_default.ensures.0

pub index_mut-requires : goal.index_mut-requires
index_mut-requires c =
    let r = c.requires in
    let within = has-rooms r.0 r.1 r.2 c.args.bytes.now c.args.joined.now (map deque_items c.args.rooms.now.items) r.3 c.in-Some.queue c.in-Some.field-0-1 (c.in-Some.place, c.in-Some.cause) c.take_number.new.queues c.in-Some.ensures in
    omega (arith, within, length-map c.args.rooms.now.items deque_items, c.args.rooms.now.ok.0)

pub unreachable-requires-in_default-pop_front : goal.unreachable-requires-in_default-pop_front
unreachable-requires-in_default-pop_front c =
    let r = c.requires in
    let rooms : Rooms = map deque_items c.args.rooms.now.items in
    let within = has-rooms r.0 r.1 r.2 c.args.bytes.now c.args.joined.now rooms r.3 c.in-Some.queue c.in-Some.field-0-1 (c.in-Some.place, c.in-Some.cause) c.take_number.new.queues c.in-Some.ensures in
    let own : At rooms c.in-Some.queue (deque_items c.index_mut.result.now) =
    At-map deque_items c.args.rooms.now.items c.in-Some.queue c.index_mut.result.now (found c.args.rooms.now.items c.in-Some.queue c.index_mut.result.now c.index_mut.result.now (omega (arith, within, length-map c.args.rooms.now.items deque_items)) c.index_mut.ensures.value) in
    some-room r.0 r.1 r.2 c.args.bytes.now c.args.joined.now rooms r.3 c.in-Some.queue c.in-Some.field-0-1 (c.in-Some.place, c.in-Some.cause) c.take_number.new.queues c.in-Some.ensures
    (deque_items c.index_mut.result.now) own (omega (arith, c.in_default-pop_front.ensures.cases, c.index_mut.result.now.ok.0))

pub message_at-message-requires-clause-front : goal.message_at-message-requires-clause-front
message_at-message-requires-clause-front c =
    let r = c.requires in
    let rooms : Rooms = map deque_items c.args.rooms.now.items in
    let within = has-rooms r.0 r.1 r.2 c.args.bytes.now c.args.joined.now rooms r.3 c.in-Some.queue c.in-Some.field-0-1 (c.in-Some.place, c.in-Some.cause) c.take_number.new.queues c.in-Some.ensures in
    let own : At rooms c.in-Some.queue (deque_items c.index_mut.result.now) =
    At-map deque_items c.args.rooms.now.items c.in-Some.queue c.index_mut.result.now (found c.args.rooms.now.items c.in-Some.queue c.index_mut.result.now c.index_mut.result.now (omega (arith, within, length-map c.args.rooms.now.items deque_items)) c.index_mut.ensures.value) in
    room-fits r.0 r.1 r.2 c.args.bytes.now c.args.joined.now rooms r.3 c.in-Some.queue c.in-Some.field-0-1 (c.in-Some.place, c.in-Some.cause) c.take_number.new.queues c.in-Some.ensures
    c.in-Some-pop_front.room (deque_items c.pop_front.new.self) (subst (λ (l : List (Vec ℕ Global)). At rooms c.in-Some.queue l) c.in-Some-pop_front.ensures.items own)

pub message_at-message-requires-clause-empty : goal.message_at-message-requires-clause-empty
message_at-message-requires-clause-empty c =
    let r = c.requires in
    let rooms : Rooms = map deque_items c.args.rooms.now.items in
    let within = has-rooms r.0 r.1 r.2 c.args.bytes.now c.args.joined.now rooms r.3 c.in-Some.queue c.in-Some.field-0-1 (c.in-Some.place, c.in-Some.cause) c.take_number.new.queues c.in-Some.ensures in
    let own : At rooms c.in-Some.queue (deque_items c.index_mut.result.now) =
    At-map deque_items c.args.rooms.now.items c.in-Some.queue c.index_mut.result.now (found c.args.rooms.now.items c.in-Some.queue c.index_mut.result.now c.index_mut.result.now (omega (arith, within, length-map c.args.rooms.now.items deque_items)) c.index_mut.ensures.value) in
    room-empty r.0 r.1 r.2 c.args.bytes.now c.args.joined.now rooms r.3 c.in-Some.queue c.in-Some.field-0-1 (c.in-Some.place, c.in-Some.cause) c.take_number.new.queues c.in-Some.ensures
    c.in-Some-pop_front.room (deque_items c.pop_front.new.self) (subst (λ (l : List (Vec ℕ Global)). At rooms c.in-Some.queue l) c.in-Some-pop_front.ensures.items own)

pub push_reserved-requires : goal.push_reserved-requires
push_reserved-requires c =
    let r = c.requires in
    let rooms : Rooms = map deque_items c.args.rooms.now.items in
    let within = has-rooms r.0 r.1 r.2 c.args.bytes.now c.args.joined.now rooms r.3 c.in-Some.queue c.in-Some.field-0-1 (c.in-Some.place, c.in-Some.cause) c.take_number.new.queues c.in-Some.ensures in
    let own : At rooms c.in-Some.queue (deque_items c.index_mut.result.now) =
    At-map deque_items c.args.rooms.now.items c.in-Some.queue c.index_mut.result.now (found c.args.rooms.now.items c.in-Some.queue c.index_mut.result.now c.index_mut.result.now (omega (arith, within, length-map c.args.rooms.now.items deque_items)) c.index_mut.ensures.value) in
    room-down r.0 r.1 r.2 c.args.bytes.now c.args.joined.now rooms r.3 c.in-Some.queue c.in-Some-pop_front.room (deque_items c.pop_front.new.self) (subst (λ (l : List (Vec ℕ Global)). At rooms c.in-Some.queue l) c.in-Some-pop_front.ensures.items own)

pub returns : goal.returns
returns c e u us may =
    let bytes : List ℕ = c.args.bytes.now in
    let rooms : Rooms = map deque_items c.args.rooms.now.items in
    let made : Fields = c.message_at-message.result in
    let is : made ≡ u.message = c.message_at-message.ensures u.message (spelled (shown_by us)) (may.good 0 u.message refl) may.are in
    let within = has-rooms e u us bytes c.args.joined.now rooms may c.in-Some.queue c.in-Some.field-0-1 (c.in-Some.place, c.in-Some.cause) c.take_number.new.queues c.in-Some.ensures in
    let own : At rooms c.in-Some.queue (deque_items c.index_mut.result.now) =
    At-map deque_items c.args.rooms.now.items c.in-Some.queue c.index_mut.result.now (found c.args.rooms.now.items c.in-Some.queue c.index_mut.result.now c.index_mut.result.now (omega (arith, within, length-map c.args.rooms.now.items deque_items)) c.index_mut.ensures.value) in
    let here : At rooms c.in-Some.queue (c.in-Some-pop_front.room ∷ deque_items c.pop_front.new.self) = subst (λ (l : List (Vec ℕ Global)). At rooms c.in-Some.queue l) c.in-Some-pop_front.ensures.items own in
    let j : Joined = c.args.joined.now in
    let new : Joined = record j { lists = record j.lists { down = c.push_reserved.new.self }; queues = c.take_number.new.queues } in
    subst (λ (l : Rooms). TellsNext u us bytes j c.spelled_size-size.result new l) (sym (set-map deque_items c.args.rooms.now.items c.in-Some.queue c.pop_front.new.self))
    (tells-next e u us bytes j rooms may c.in-Some.queue c.in-Some.field-0-1 (c.in-Some.place, c.in-Some.cause) c.take_number.new.queues c.in-Some.ensures c.in-Some-pop_front.room (deque_items c.pop_front.new.self) here
    c.push_reserved.new.self made c.spelled_size-size.result is c.spelled_size-size.ensures c.push_reserved.ensures.items c.push_reserved.ensures.len c.push_reserved.ensures.capacity)
