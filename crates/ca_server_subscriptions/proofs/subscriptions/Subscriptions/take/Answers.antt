use Rattle.std.proofs.Common.{ℕ, Option, refl, sym, subst}
use Rattle.ca_queue.specs.declared.entry.SubKey.{SubKey}
use Rattle.ca_queue.specs.Circuit.{Takes}
use Rattle.ca_model.specs.Speech.{Stored}
use Rattle.ca_server_subscriptions.proofs.Placing.{in-err}
use Rattle.ca_server_subscriptions.proofs.Pumps.{gives-one, may-give, none-rests, placed-taken, taken-some}
use Rattle.ca_server_subscriptions.proofs.subscriptions.Subscriptions.take.Goals as goal

pub returns-then-is_empty-clause-gives : goal.returns-then-is_empty-clause-gives
returns-then-is_empty-clause-gives c =
    rw (← c.self.view_is) (none-rests c.self.inside.standing.entries c.self.inside.queues c.self.invariant.0 (c.is_empty.ensures.0 c.if-is_empty.true), refl)

pub returns-in_err-key-clause-some : goal.returns-in_err-key-clause-some
returns-in_err-key-clause-some c =
    let (key, (v, (place, new, t))) = c.in_err-key.ensures.some in
    in-err c.from_residual.result (may-give c.self.inside.standing.entries c.self.inside.queues c.self.invariant.0 place key v new t c.args.self.now c.self.view_is c.self.invariant.3)

pub unreachable-requires : goal.unreachable-requires
unreachable-requires c =
    let t = subst (λ (o : Option (ℕ × SubKey × Stored)). Takes c.self.inside.queues o c.take.new.self) c.in-Some.is c.in_ok-key.ensures.ok in
    taken-some c.self.inside.standing.entries c.self.inside.queues c.self.invariant.0 c.in-Some.field-0-0 c.in-Some.key c.in-Some.update c.take.new.self t (sym c.in_default-find.ensures)

pub invariant_of-self-2 : goal.invariant_of-self-2
invariant_of-self-2 c =
    let t = subst (λ (o : Option (ℕ × SubKey × Stored)). Takes c.self.inside.queues o c.take.new.self) c.in-Some.is c.in_ok-key.ensures.ok in (
      placed-taken c.self.inside.standing.entries c.self.inside.queues c.self.invariant.0 c.in-Some.field-0-0 c.in-Some.key c.in-Some.update c.take.new.self t,
      c.self.invariant.1,
      c.self.invariant.2,
      c.self.invariant.3,
      c.self.invariant.4,
    )

pub returns-clause-gives : goal.returns-clause-gives
returns-clause-gives c =
    let t = subst (λ (o : Option (ℕ × SubKey × Stored)). Takes c.self.inside.queues o c.take.new.self) c.in-Some.is c.in_ok-key.ensures.ok in
    gives-one c.self.inside.standing.entries c.self.inside.queues c.self.invariant.0 c.in-Some.field-0-0 c.in-Some.key c.in-Some.update c.take.new.self t c.args.self.now c.in-Some-find.standing.now c.wanted.result
    c.self.view_is (sym c.in-Some-find.ensures) c.wanted.ensures.wanted
