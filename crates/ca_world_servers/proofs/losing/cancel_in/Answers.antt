use Rattle.std.proofs.Common.{◌<◌, ◌≤◌, ◌∙◌, length, map, slice_index_or, refl, sym, arith}
use Rattle.std.proofs.lemmas.List.{length-map}
use Rattle.ca_queue.specs.Queue.{cancelled}
use Rattle.ca_text.specs.Place.{At}
use Rattle.ca_world_data.proofs.Counting.{queue_in}
use Rattle.ca_world_data.proofs.Gone.{from-over}
use Rattle.ca_world_data.proofs.Worlds.{found}
use Rattle.ca_world_servers.proofs.Losings.{cancels-next}
use Rattle.ca_world_servers.proofs.losing.cancel_in.Goals as goal

pub loop-queue-preserved : goal.loop-queue-preserved
loop-queue-preserved c =
    let ws = c.loop-queue.queues in
    let i = c.loop-queue.queue-index in
    let w = slice_index_or ws i c.queue-item.result in
    let within : i < length ws = omega (arith, c.loop-queue-test.true) in
    let at : At ws i w = found ws i w c.queue-item.result within refl in
    record { queues = cancels-next c.args.key i ws w c.cancel.new.self at c.cancel.ensures.cancels ∙ c.loop-queue.invariant.queues }

pub returns : goal.returns
returns c =
    let ws = c.loop-queue.queues in
    let i = c.loop-queue.queue-index in
    let over : length (map queue_in ws) ≤ i = omega (arith, c.loop-queue-test.false, length-map ws queue_in) in
    sym (from-over i (cancelled c.args.key) (map queue_in ws) over) ∙ c.loop-queue.invariant.queues
