use Rattle.std.proofs.Common.{◌≡◌, ℕ, ◌<◌, Bool, List, length, refl, ap, ◌∙◌, arith}
use Rattle.ca_queue.specs.Queue.{Queue}
use Rattle.ca_text.specs.Place.{At}
use Rattle.ca_model.specs.ClientEvents.{place_of}
use Rattle.ca_world_data.specs.declared.history.Cause.{Cause}
use Rattle.ca_world_data.specs.Seen.{queue_of}
use Rattle.ca_world_data.proofs.Counting.{queue_in}
use Rattle.ca_world_data.proofs.Worlds.{found}
use Rattle.ca_world_servers.specs.Handling.{has_room}
use Rattle.ca_world_servers.proofs.Handled.{first-roomy, none-first, same-next}
use Rattle.ca_world_servers.proofs.handling.reserve_first.Goals as goal

pub returns-in_err-reserve-clause-same : goal.returns-in_err-reserve-clause-same
returns-in_err-reserve-clause-same c =
    let ws : List (Queue (ℕ × Cause) × Bool) = c.args.queues.now.items in
    let n : ℕ = c.first_with_room-at.result in
    let w : Queue (ℕ × Cause) × Bool = c.index_mut.result.now in
    let within : n < length ws = omega (arith, c.if-at-len.true, c.len.ensures, c.args.queues.now.ok) in
    let at : At ws n w = found ws n w w within c.index_mut.ensures.value in
    same-next queue_in n ws w w c.reserve.new.self at refl (ap queue_of c.reserve.ensures.same)

pub returns-in_ok-reserve-clause-same : goal.returns-in_ok-reserve-clause-same
returns-in_ok-reserve-clause-same c =
    let ws : List (Queue (ℕ × Cause) × Bool) = c.args.queues.now.items in
    let n : ℕ = c.first_with_room-at.result in
    let w : Queue (ℕ × Cause) × Bool = c.index_mut.result.now in
    let within : n < length ws = omega (arith, c.if-at-len.true, c.len.ensures, c.args.queues.now.ok) in
    let at : At ws n w = found ws n w w within c.index_mut.ensures.value in
    same-next queue_in n ws w w c.reserve.new.self at refl (ap queue_of c.reserve.ensures.same)

pub returns-in_ok-reserve-clause-roomy : goal.returns-in_ok-reserve-clause-roomy
returns-in_ok-reserve-clause-roomy c =
    let ws : List (Queue (ℕ × Cause) × Bool) = c.args.queues.now.items in
    let n : ℕ = c.first_with_room-at.result in
    let w : Queue (ℕ × Cause) × Bool = c.index_mut.result.now in
    let is : n ≡ place_of has_room ws = c.first_with_room-at.ensures ∙ ap (place_of has_room) c.deref.ensures.value in
    let within : n < length ws = omega (arith, c.if-at-len.true, c.len.ensures, c.args.queues.now.ok) in
    let at : At ws n w = found ws n w w within c.index_mut.ensures.value in
    first-roomy ws n w c.reserve.new.self is at c.reserve.ensures.same c.in_ok-reserve.ensures.room

pub returns-else-at-len-clause-roomy : goal.returns-else-at-len-clause-roomy
returns-else-at-len-clause-roomy c =
    let ws : List (Queue (ℕ × Cause) × Bool) = c.args.queues.now.items in
    let n : ℕ = c.first_with_room-at.result in
    let is : n ≡ place_of has_room ws = c.first_with_room-at.ensures ∙ ap (place_of has_room) c.deref.ensures.value in
    none-first ws (omega (arith, c.if-at-len.false, c.len.ensures, c.args.queues.now.ok, is))
