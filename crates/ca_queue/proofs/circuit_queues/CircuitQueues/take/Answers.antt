use Rattle.std.proofs.Common.{◌≡◌, true, map, None, sym, ap, ◌∙◌, subst, arith}
use Rattle.std.specs.Prelude.{slice_set}
use Rattle.ca_queue.specs.Circuit.{AreIdleBehind, AreInOne}
use Rattle.ca_queue.specs.Keys.{is_among}
use Rattle.ca_queue.specs.Queue.{Queue, with_front_taken}
use Rattle.ca_queue.specs.Waiting.{taken}
use Rattle.ca_queue.proofs.Circuits.{all-before, at-index, at-now, idle-all, idle-set, index-within, kept-in-one, more-before, none-taken, set-as, set-as-before}
use Rattle.ca_queue.proofs.circuit_queues.CircuitQueues.take.Goals as goal

pub loop-place-init : goal.loop-place-init
loop-place-init g c = (
  c.self.view_is,
  (λ i q lt at. absurd (omega arith)),
  subst (λ (qs : _). AreIdleBehind c.self.inside.last qs) c.self.view_is c.self.invariant.1,
)

pub invariant_of-self : goal.invariant_of-self
invariant_of-self g c = (
  subst AreInOne (c.self.view_is ∙ sym c.loop-place.invariant.0) c.self.invariant.0,
  subst (λ (qs : _). AreIdleBehind c.loop-place.self-inside.last qs) (sym c.loop-place.invariant.0) c.loop-place.invariant.2,
)

-- this queue is after the last in which something waited
pub invariant_of-self-then-place-self : goal.invariant_of-self-then-place-self
invariant_of-self-then-place-self g c = (
  subst AreInOne (c.self.view_is ∙ sym c.loop-place.invariant.0) c.self.invariant.0,
  subst (λ (qs : _). AreIdleBehind c.loop-place.self-inside.last qs) (sym c.loop-place.invariant.0) c.loop-place.invariant.2,
)

pub returns-then-place-self : goal.returns-then-place-self
returns-then-place-self g c = (
  idle-all c.loop-place.self-inside.last c.loop-place.place c.args.self.now c.loop-place.invariant.2 (omega (arith, c.if-place-self.true)) c.loop-place.invariant.1,
  c.loop-place.invariant.0,
)

pub invariant_of-self-in-Some : goal.invariant_of-self-in-Some
invariant_of-self-in-Some g c =
    let k = c.self.inside.queues.ok in
    let items = c.loop-place.self-inside.queues.items in
    let lt = index-within g.Q.Queues.contents items c.self.inside.queues.items _ c.loop-place.place c.len-place-end.result c.loop-place.invariant.0 c.self.view_is (omega (arith, c.len-place-end.ensures, k)) c.loop-place-test.true in
    let last = c.loop-place.self-inside.last in (
      kept-in-one g.Q.Queues.contents items c.loop-place.place _ c.take.new.self (subst AreInOne (c.self.view_is ∙ sym c.loop-place.invariant.0) c.self.invariant.0)
          (at-index g.Q.Queues.contents items c.loop-place.place _ lt c.index_mut.ensures.value)
          (λ key some. subst (λ (q : Queue _). is_among key q.subscriptions ≡ true) c.take.ensures.leaves some),
      subst (λ (qs : _). AreIdleBehind last qs) (sym (set-as g.Q.Queues.contents items c.loop-place.place c.take.new.self _ c.take.ensures.leaves))
          (idle-set last last c.loop-place.place (map g.Q.Queues.contents items) _ (subst (λ (qs : _). AreIdleBehind last qs) (sym c.loop-place.invariant.0) c.loop-place.invariant.2) (omega (arith, c.if-place-self.false))),
    )

pub returns-in-Some : goal.returns-in-Some
returns-in-Some g c =
    let k = c.self.inside.queues.ok in
    let items = c.loop-place.self-inside.queues.items in
    let lt = index-within g.Q.Queues.contents items c.self.inside.queues.items _ c.loop-place.place c.len-place-end.result c.loop-place.invariant.0 c.self.view_is (omega (arith, c.len-place-end.ensures, k)) c.loop-place-test.true in (
      g.Q.Queues.contents c.index_mut.result.now,
      at-now g.Q.Queues.contents items _ c.loop-place.place _ c.loop-place.invariant.0 lt c.index_mut.ensures.value,
      c.loop-place.invariant.1,
      sym c.take.ensures.gives ∙ c.in-Some.is,
      set-as g.Q.Queues.contents items c.loop-place.place c.take.new.self _ c.take.ensures.leaves
          ∙ ap (λ (qs : _). slice_set qs c.loop-place.place (with_front_taken (g.Q.Queues.contents c.index_mut.result.now))) c.loop-place.invariant.0,
    )

pub loop-place-preserved : goal.loop-place-preserved
loop-place-preserved g c =
    let k = c.self.inside.queues.ok in
    let items = c.loop-place.self-inside.queues.items in
    let lt = index-within g.Q.Queues.contents items c.self.inside.queues.items _ c.loop-place.place c.len-place-end.result c.loop-place.invariant.0 c.self.view_is (omega (arith, c.len-place-end.ensures, k)) c.loop-place-test.true in
    let at = at-index g.Q.Queues.contents items c.loop-place.place _ lt c.index_mut.ensures.value in
    let none : taken (g.Q.Queues.contents c.index_mut.result.now).events_on (g.Q.Queues.contents c.index_mut.result.now).waiting ≡ None = sym c.in_default.ensures.gives in (
      set-as-before g.Q.Queues.contents items c.loop-place.place _ c.take.new.self at (c.take.ensures.leaves ∙ none-taken (g.Q.Queues.contents c.index_mut.result.now) none) ∙ c.loop-place.invariant.0,
      more-before (λ (q : Queue _). taken q.events_on q.waiting ≡ None) _ c.loop-place.place (g.Q.Queues.contents c.index_mut.result.now)
          (at-now g.Q.Queues.contents items _ c.loop-place.place _ c.loop-place.invariant.0 lt c.index_mut.ensures.value) none c.loop-place.invariant.1,
      c.loop-place.invariant.2,
    )

pub returns : goal.returns
returns g c =
    let k = c.self.inside.queues.ok in (
      (λ i q lt at. c.loop-place.invariant.1 i q (all-before g.Q.Queues.contents c.self.inside.queues.items _ c.loop-place.place c.len-place-end.result c.self.view_is (omega (arith, c.len-place-end.ensures, k)) c.loop-place-test.false i q at) at),
      c.loop-place.invariant.0,
    )
