use Rattle.ca_queue.proofs.Laid.{cancels}
use Rattle.ca_queue.proofs.list_queue.ListQueueQueues.cancel.Goals as goal

pub invariant_of-self : goal.invariant_of-self
invariant_of-self g c =
    let are = cancels c.args.key c.self.inside.entries.items c.drop_entries.new.entries.items c.self.inside.subscriptions.items c.forget.new.subscriptions.items c.self.inside.events_on _ _ c.self.invariant c.drop_entries.ensures.items c.forget.ensures.items in
    rw (c.drop_entries.ensures.capacity, c.forget.ensures.capacity) are.laid_out

pub returns-clause-cancels : goal.returns-clause-cancels
returns-clause-cancels g c =
    let are = cancels c.args.key c.self.inside.entries.items c.drop_entries.new.entries.items c.self.inside.subscriptions.items c.forget.new.subscriptions.items c.self.inside.events_on _ _ c.self.invariant c.drop_entries.ensures.items c.forget.ensures.items in
    rw (← c.self.view_is) are.is

pub returns-clause-sound : goal.returns-clause-sound
returns-clause-sound g c =
    let are = cancels c.args.key c.self.inside.entries.items c.drop_entries.new.entries.items c.self.inside.subscriptions.items c.forget.new.subscriptions.items c.self.inside.events_on _ _ c.self.invariant c.drop_entries.ensures.items c.forget.ensures.items in
    are.laid_out.sound
