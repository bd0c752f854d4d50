use Rattle.std.proofs.Common.{ℕ, ◌-◌, ap, arith}
use Rattle.ca_queue.specs.Ring.{ring_queue, waits}
use Rattle.ca_queue.proofs.Laid.{gives_none, leaves_all}
use Rattle.ca_queue.proofs.Rounds.{behind-is, crowd-none, crowd-some, gives-front, noted-left, taken-off, taken-on}
use Rattle.ca_queue.proofs.event_queue.EventQueueQueues.take.Goals as goal

pub invariant_of-self : goal.invariant_of-self
invariant_of-self g c =
    (taken-on c.self.inside.puts c.self.inside.extra c.self.inside.ring c.pop.new.ring c.self.inside.lasts.0 c.self.inside.lasts.1 c.self.inside.events_on c.self.invariant c.if-self.true c.pop.ensures.leaves).kept

pub returns-then-self-clause-sound : goal.returns-then-self-clause-sound
returns-then-self-clause-sound g c = (invariant_of-self g c).round.sound

pub returns-then-self-eq0-clause-gives : goal.returns-then-self-eq0-clause-gives
returns-then-self-eq0-clause-gives g c =
    rw (← c.self.view_is)
    (gives_none c.self.inside.events_on (waits c.self.inside.ring) (crowd-none c.self.inside.extra c.self.inside.puts c.self.inside.lasts.0 c.self.inside.events_on (waits c.self.inside.ring) c.self.invariant.round c.if-self.false (omega (arith, c.if-self-eq0.true))))

pub returns-then-self-eq0-clause-leaves : goal.returns-then-self-eq0-clause-leaves
returns-then-self-eq0-clause-leaves g c =
    rw (← c.self.view_is)
    (leaves_all (ring_queue (waits c.self.inside.ring) c.self.inside.lasts.0 c.self.inside.events_on) (crowd-none c.self.inside.extra c.self.inside.puts c.self.inside.lasts.0 c.self.inside.events_on (waits c.self.inside.ring) c.self.invariant.round c.if-self.false (omega (arith, c.if-self-eq0.true))))

pub last_of-requires : goal.last_of-requires
last_of-requires g c =
    behind-is c.in_ok-key.key c.find-number.result c.self.inside.puts c.last.result c.puts_since-behind.result c.find-number.new.self.0 (waits c.pop-2.new.ring)
    (noted-left c.self.inside.puts c.self.inside.ring c.pop-2.new.ring c.self.inside.lasts c.find-number.new.self c.self.invariant.round.noted c.find-number.ensures.same c.in_ok-key.ensures.leaves)
    c.find-number.ensures.at c.last.ensures c.puts_since-behind.ensures

pub invariant_of-self-2 : goal.invariant_of-self-2
invariant_of-self-2 g c =
    (taken-off (c.in_ok-key.key, c.in_ok-key.entry) c.self.inside.puts c.self.inside.extra (c.self.inside.extra - c.one_if_some.result) c.last_of.result c.self.inside.ring c.pop-2.new.ring c.self.inside.lasts c.find-number.new.self c.self.inside.events_on c.self.invariant c.find-number.ensures.same c.if-self.false (omega (arith, c.if-self-eq0.false)) c.in_ok-key.ensures.gives c.in_ok-key.ensures.leaves c.last_of.ensures (ap (λ (n : ℕ). c.self.inside.extra - n) c.one_if_some.ensures.one)).kept

pub returns-clause-gives : goal.returns-clause-gives
returns-clause-gives g c =
    rw (← c.self.view_is)
    (gives-front (c.in_ok-key.key, c.in_ok-key.entry) c.self.inside.events_on (waits c.self.inside.ring) c.in_ok-key.ensures.gives (crowd-some c.self.inside.extra c.self.inside.puts c.self.inside.lasts.0 c.self.inside.events_on (waits c.self.inside.ring) c.self.invariant.round c.if-self.false (omega (arith, c.if-self-eq0.false))))

pub returns-clause-leaves : goal.returns-clause-leaves
returns-clause-leaves g c =
    rw (← c.self.view_is)
    (taken-off (c.in_ok-key.key, c.in_ok-key.entry) c.self.inside.puts c.self.inside.extra (c.self.inside.extra - c.one_if_some.result) c.last_of.result c.self.inside.ring c.pop-2.new.ring c.self.inside.lasts c.find-number.new.self c.self.inside.events_on c.self.invariant c.find-number.ensures.same c.if-self.false (omega (arith, c.if-self-eq0.false)) c.in_ok-key.ensures.gives c.in_ok-key.ensures.leaves c.last_of.ensures (ap (λ (n : ℕ). c.self.inside.extra - n) c.one_if_some.ensures.one)).is

pub returns-clause-sound : goal.returns-clause-sound
returns-clause-sound g c = (invariant_of-self-2 g c).round.sound
