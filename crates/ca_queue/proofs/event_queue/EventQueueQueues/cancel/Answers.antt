use Rattle.std.proofs.Common.{◌-◌, sym, ap, ◌∙◌, subst, arith}
use Rattle.ca_queue.specs.Keys.{AreApart}
use Rattle.ca_queue.specs.Ring.{keys_of_lasts, waits}
use Rattle.ca_queue.proofs.Rounds.{apart-left, cancelled-one, known-left, known-now, noted-now}
use Rattle.ca_queue.proofs.event_queue.EventQueueQueues.cancel.Goals as goal

pub go_round-requires-clause-apart : goal.go_round-requires-clause-apart
go_round-requires-clause-apart g c =
    subst (λ ls. AreApart (keys_of_lasts ls)) (sym c.forget.ensures.lasts) (apart-left c.args.key c.self.inside.lasts.0 c.self.invariant.round.sound.apart)

pub go_round-requires-clause-known : goal.go_round-requires-clause-known
go_round-requires-clause-known g c =
    known-left c.args.key c.self.inside.lasts.0 c.forget.new.self.0 c.self.inside.events_on (waits c.self.inside.ring) c.self.invariant.round.sound c.forget.ensures.lasts

pub occupied-requires-clause-noted : goal.occupied-requires-clause-noted
occupied-requires-clause-noted g c =
    noted-now c.args.key c.go_round.new.puts c.self.inside.ring c.go_round.new.ring c.go_round.new.lasts.0 c.go_round.ensures.ring c.go_round.ensures.noted

pub occupied-requires-clause-apart : goal.occupied-requires-clause-apart
occupied-requires-clause-apart g c =
    subst AreApart (sym (c.go_round.ensures.keys ∙ ap keys_of_lasts c.forget.ensures.lasts)) (apart-left c.args.key c.self.inside.lasts.0 c.self.invariant.round.sound.apart)

pub occupied-requires-clause-known : goal.occupied-requires-clause-known
occupied-requires-clause-known g c =
    known-now c.args.key c.self.inside.ring c.go_round.new.ring (keys_of_lasts c.forget.new.self.0) (keys_of_lasts c.go_round.new.lasts.0) c.go_round.ensures.ring c.go_round.ensures.keys
    (known-left c.args.key c.self.inside.lasts.0 c.forget.new.self.0 c.self.inside.events_on (waits c.self.inside.ring) c.self.invariant.round.sound c.forget.ensures.lasts)

pub invariant_of-self : goal.invariant_of-self
invariant_of-self g c =
    (cancelled-one c.args.key c.self.inside.ring c.go_round.new.ring c.self.inside.lasts.0 c.forget.new.self.0 c.go_round.new.lasts.0 c.self.inside.lasts.1 c.forget.new.self.1 c.go_round.new.lasts.1 c.self.inside.events_on c.self.inside.puts c.go_round.new.puts c.self.inside.extra (c.waiting.result - c.occupied.result) c.self.invariant c.forget.ensures.lasts c.forget.ensures.room c.go_round.ensures.ring c.go_round.ensures.keys c.go_round.ensures.room c.go_round.ensures.noted c.go_round.ensures.goes_round
    (omega (arith, c.waiting.ensures, c.occupied.ensures.count, c.occupied.ensures.within))).kept

pub returns-clause-cancels : goal.returns-clause-cancels
returns-clause-cancels g c =
    rw (← c.self.view_is)
    (cancelled-one c.args.key c.self.inside.ring c.go_round.new.ring c.self.inside.lasts.0 c.forget.new.self.0 c.go_round.new.lasts.0 c.self.inside.lasts.1 c.forget.new.self.1 c.go_round.new.lasts.1 c.self.inside.events_on c.self.inside.puts c.go_round.new.puts c.self.inside.extra (c.waiting.result - c.occupied.result) c.self.invariant c.forget.ensures.lasts c.forget.ensures.room c.go_round.ensures.ring c.go_round.ensures.keys c.go_round.ensures.room c.go_round.ensures.noted c.go_round.ensures.goes_round
    (omega (arith, c.waiting.ensures, c.occupied.ensures.count, c.occupied.ensures.within))).is

pub returns-clause-sound : goal.returns-clause-sound
returns-clause-sound g c = (invariant_of-self g c).round.sound
