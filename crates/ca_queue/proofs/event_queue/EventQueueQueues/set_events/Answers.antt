use Rattle.std.proofs.Common.{◌-◌, arith}
use Rattle.ca_queue.proofs.Rounds.{switched-one}
use Rattle.ca_queue.proofs.event_queue.EventQueueQueues.set_events.Goals as goal

pub occupied-requires-clause-noted : goal.occupied-requires-clause-noted
occupied-requires-clause-noted g c = c.self.invariant.round.noted

pub occupied-requires-clause-apart : goal.occupied-requires-clause-apart
occupied-requires-clause-apart g c = c.self.invariant.round.sound.apart

pub occupied-requires-clause-known : goal.occupied-requires-clause-known
occupied-requires-clause-known g c = c.self.invariant.round.sound.known

pub invariant_of-self : goal.invariant_of-self
invariant_of-self g c =
    switched-one c.self.inside.ring c.self.inside.lasts.0 c.self.inside.lasts.1 c.self.inside.events_on c.args.on c.self.inside.puts c.self.inside.extra (c.waiting.result - c.occupied.result) c.self.invariant
    (omega (arith, c.waiting.ensures, c.occupied.ensures.count, c.occupied.ensures.within))

pub returns-clause-sound : goal.returns-clause-sound
returns-clause-sound g c = (invariant_of-self g c).round.sound
