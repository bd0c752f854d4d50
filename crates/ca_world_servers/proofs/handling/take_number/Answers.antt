use Rattle.std.proofs.Common.{◌≡◌, map, ℕ, ◌<◌, ◌≤◌, Bool, List, length, sym, ap, subst, ◌∙◌, arith}
use Rattle.std.specs.Prelude.{slice_set}
use Rattle.ca_queue.specs.Queue.{Queue}
use Rattle.ca_text.specs.Place.{At}
use Rattle.ca_model.specs.History as history
use Rattle.ca_model.specs.ClientEvents.{place_of}
use Rattle.ca_world_data.specs.declared.history.Cause.{Cause}
use Rattle.ca_world_data.proofs.Counting.{queue_in}
use Rattle.ca_world_data.proofs.Worlds.{found}
use Rattle.ca_world_servers.specs.Handling.{has_room}
use Rattle.ca_world_servers.proofs.Handled.{begun-images, first-takes, none-has, none-takes, room-there}
use Rattle.ca_world_servers.proofs.handling.take_number.Goals as goal

pub begin_in-requires-clause-new : goal.begin_in-requires-clause-new
begin_in-requires-clause-new c =
    let ws : List (Queue (ℕ × Cause) × Bool) = c.args.queues.now.items in
    let n : ℕ = c.first_with_room-at.result in
    let w : Queue (ℕ × Cause) × Bool = c.index_mut.result.now in
    let is : n ≡ place_of has_room ws = c.first_with_room-at.ensures ∙ ap (place_of has_room) c.deref.ensures.value in
    let within : n < length ws = omega (arith, c.if-at-len.true, c.len.ensures, c.args.queues.now.ok) in
    let at : At ws n w = found ws n w w within c.index_mut.ensures.value in
    let first : At ws (place_of has_room ws) w = subst (λ (k : ℕ). At ws k w) is at in
    none-has ws n w c.args.key c.requires.new at

pub begin_in-requires-clause-room : goal.begin_in-requires-clause-room
begin_in-requires-clause-room c =
    let ws : List (Queue (ℕ × Cause) × Bool) = c.args.queues.now.items in
    let n : ℕ = c.first_with_room-at.result in
    let w : Queue (ℕ × Cause) × Bool = c.index_mut.result.now in
    let is : n ≡ place_of has_room ws = c.first_with_room-at.ensures ∙ ap (place_of has_room) c.deref.ensures.value in
    let within : n < length ws = omega (arith, c.if-at-len.true, c.len.ensures, c.args.queues.now.ok) in
    let at : At ws n w = found ws n w w within c.index_mut.ensures.value in
    let first : At ws (place_of has_room ws) w = subst (λ (k : ℕ). At ws k w) is at in
    room-there ws w first

pub begin_in-requires-clause-roomy : goal.begin_in-requires-clause-roomy
begin_in-requires-clause-roomy c =
    let ws : List (Queue (ℕ × Cause) × Bool) = c.args.queues.now.items in
    let n : ℕ = c.first_with_room-at.result in
    let w : Queue (ℕ × Cause) × Bool = c.index_mut.result.now in
    let is : n ≡ place_of has_room ws = c.first_with_room-at.ensures ∙ ap (place_of has_room) c.deref.ensures.value in
    let within : n < length ws = omega (arith, c.if-at-len.true, c.len.ensures, c.args.queues.now.ok) in
    let at : At ws n w = found ws n w w within c.index_mut.ensures.value in
    c.requires.roomy w (subst (λ (k : ℕ). At ws k w) is at)

pub returns-then-at-len : goal.returns-then-at-len
returns-then-at-len c =
    let ws : List (Queue (ℕ × Cause) × Bool) = c.args.queues.now.items in
    let n : ℕ = c.first_with_room-at.result in
    let w : Queue (ℕ × Cause) × Bool = c.index_mut.result.now in
    let is : n ≡ place_of has_room ws = c.first_with_room-at.ensures ∙ ap (place_of has_room) c.deref.ensures.value in
    let within : n < length ws = omega (arith, c.if-at-len.true, c.len.ensures, c.args.queues.now.ok) in
    let at : At ws n w = found ws n w w within c.index_mut.ensures.value in
    let first : At ws (place_of has_room ws) w = subst (λ (k : ℕ). At ws k w) is at in
    let new : Queue (ℕ × Cause) × Bool = c.begin_in.new.queue in
    ap (λ (k : ℕ). map queue_in (slice_set ws k new)) is ∙ (first-takes c.args.key (c.args.place, history.Update 0) ws w new first (begun-images c.args.key c.args.place w.0 new.0 c.begin_in.ensures))

pub returns-else-at-len : goal.returns-else-at-len
returns-else-at-len c =
    let ws : List (Queue (ℕ × Cause) × Bool) = c.args.queues.now.items in
    let n : ℕ = c.first_with_room-at.result in
    let is : n ≡ place_of has_room ws = c.first_with_room-at.ensures ∙ ap (place_of has_room) c.deref.ensures.value in
    let over : length ws ≤ place_of has_room ws = omega (arith, c.if-at-len.false, c.len.ensures, c.args.queues.now.ok, is) in
    sym (none-takes c.args.key (c.args.place, history.Update 0) ws over)
