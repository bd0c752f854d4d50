use Rattle.std.proofs.Common.{ℕ, ◌<◌, ◌≤◌, Bool, length, List, map, sym, ap, arith, ◌∙◌}
use Rattle.std.proofs.lemmas.List.{length-map}
use Rattle.ca_queue.specs.Queue.{Queue, switched}
use Rattle.ca_text.specs.Place.{At}
use Rattle.ca_world_data.specs.declared.history.Cause.{Cause}
use Rattle.ca_world_data.specs.Seen.{queue_of}
use Rattle.ca_world_data.proofs.Counting.{queue_in}
use Rattle.ca_world_data.proofs.Gone.{from-over}
use Rattle.ca_world_data.proofs.Worlds.{found}
use Rattle.ca_world_servers.proofs.Handled.{change-next}
use Rattle.ca_world_servers.proofs.handling.switch_all.Goals as goal

pub loop-queue-preserved : goal.loop-queue-preserved
loop-queue-preserved c =
    let qs : List (Queue (ℕ × Cause) × Bool) = c.loop-queue.queues in
    let i : ℕ = c.loop-queue.queue-index in
    let q : Queue (ℕ × Cause) × Bool = c.queue-item.result in
    let within : i < length qs = omega (arith, c.loop-queue-test.true) in
    let at : At qs i q = found qs i q q within c.queue-item.is in
    record { queues = change-next queue_in (switched c.args.on) i qs q _ c.set_events.new.self at c.queue-item.is (ap queue_of c.set_events.ensures.switches) ∙ c.loop-queue.invariant.queues }

pub returns : goal.returns
returns c =
    let qs : List (Queue (ℕ × Cause) × Bool) = c.loop-queue.queues in
    let i : ℕ = c.loop-queue.queue-index in
    let over : length (map queue_in qs) ≤ i = omega (arith, c.loop-queue-test.false, length-map qs queue_in) in
    sym (from-over i (switched c.args.on) (map queue_in qs) over) ∙ c.loop-queue.invariant.queues
