use Rattle.std.proofs.Common.{◌<◌, length, arith}
use Rattle.std.proofs.lemmas.List.{length-map}
use Rattle.ca_text.specs.Limits.{queue_subscriptions}
use Rattle.ca_queue.proofs.Laid.{adds}
use Rattle.ca_queue.proofs.list_queue.ListQueueQueues.add.Goals as goal

pub invariant_of-self-2 : goal.invariant_of-self-2
invariant_of-self-2 g c =
    let few = c.self.invariant.sound.few in
    let less : length c.self.inside.subscriptions.items < queue_subscriptions =
    omega (arith, few, length-map c.self.inside.subscriptions.items (λ s. s.key)) in
    let are = adds c.args.key c.self.inside.entries.items c.self.inside.subscriptions.items c.self.inside.events_on _ _ _ _ c.self.invariant less (rw (← c.self.view_is) at c.requires) c.in_ok-make_room.ensures.places c.in_ok-make_room.ensures.room in
    rw (c.push_reserved.ensures.items, c.push_reserved.ensures.capacity, c.in_ok-make_room.ensures.subscriptions, c.in_ok-make_room.ensures.entries) are.laid_out

pub returns-clause-sound : goal.returns-clause-sound
returns-clause-sound g c = (invariant_of-self-2 g c).sound
