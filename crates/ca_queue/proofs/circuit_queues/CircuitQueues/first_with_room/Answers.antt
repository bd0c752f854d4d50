use Rattle.std.proofs.Common.{◌≤◌, length, sym, ◌∙◌, arith}
use Rattle.std.proofs.lemmas.Bool.{leb-true, leb-false}
use Rattle.ca_text.specs.Limits.{queue_subscriptions}
use Rattle.ca_queue.specs.Queue.{Queue}
use Rattle.ca_queue.proofs.Circuits.{all-before, at-now, index-within, more-before}
use Rattle.ca_queue.proofs.circuit_queues.CircuitQueues.first_with_room.Goals as goal

pub loop-place-init : goal.loop-place-init
loop-place-init g c = λ i q lt at. absurd (omega arith)

pub returns-then-not-is_full : goal.returns-then-not-is_full
returns-then-not-is_full g c =
    let k = c.self.inside.queues.ok in
    let items = c.self.inside.queues.items in
    let lt = index-within g.Q.Queues.contents items items _ c.loop-place.place c.len-place-end.result c.self.view_is c.self.view_is (omega (arith, c.len-place-end.ensures, k)) c.loop-place-test.true in (
      g.Q.Queues.contents c.index.result.now,
      (
        at-now g.Q.Queues.contents items _ c.loop-place.place _ c.self.view_is lt c.index.ensures,
        (let f = leb-false _ _ (sym c.is_full.ensures ∙ c.if-not-is_full.true) in omega (arith, f)),
        c.loop-place.invariant,
      ),
    )

pub loop-place-preserved : goal.loop-place-preserved
loop-place-preserved g c =
    let k = c.self.inside.queues.ok in
    let items = c.self.inside.queues.items in
    let lt = index-within g.Q.Queues.contents items items _ c.loop-place.place c.len-place-end.result c.self.view_is c.self.view_is (omega (arith, c.len-place-end.ensures, k)) c.loop-place-test.true in
    more-before (λ (q : Queue _). queue_subscriptions ≤ length q.subscriptions) _ c.loop-place.place (g.Q.Queues.contents c.index.result.now)
    (at-now g.Q.Queues.contents items _ c.loop-place.place _ c.self.view_is lt c.index.ensures)
    (leb-true _ _ (sym c.is_full.ensures ∙ c.if-not-is_full.false)) c.loop-place.invariant

pub returns : goal.returns
returns g c = λ i q at.
    let k = c.self.inside.queues.ok in
    c.loop-place.invariant i q (all-before g.Q.Queues.contents c.self.inside.queues.items _ c.loop-place.place c.len-place-end.result c.self.view_is (omega (arith, c.len-place-end.ensures, k)) c.loop-place-test.false i q at) at
