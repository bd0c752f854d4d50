use Rattle.std.proofs.Common.{◌≡◌, ◌++◌, ◌∷◌, [], List, map, sym, ap, ◌∙◌, subst, arith, replicate}
use Rattle.std.proofs.lemmas.List.{map-append}
use Rattle.ca_text.specs.Place.{At}
use Rattle.ca_queue.specs.Circuit.{AreInOne}
use Rattle.ca_queue.specs.Queue.{Queue, no_queue}
use Rattle.ca_queue.proofs.Circuits.{idle-none, none-anywhere, replicate-more}
use Rattle.ca_queue.proofs.circuit_queues.CircuitQueues.new.Goals as goal

pub loop-init : goal.loop-init
loop-init g c = record {
  are = ap (map g.Q.Queues.contents) c.in_ok-queues.ensures.items;
  len = c.in_ok-queues.ensures.len;
  room = c.in_ok-queues.ensures.capacity;
}

pub push_reserved-requires : goal.push_reserved-requires
push_reserved-requires g c = omega (arith, c.loop.invariant.len, c.loop.invariant.room, c.loop-test.true)

pub loop-preserved : goal.loop-preserved
loop-preserved g c = record {
  are =
      ap (map g.Q.Queues.contents) c.push_reserved.ensures.items
      ∙ (map-append g.Q.Queues.contents c.loop.queues.items (c.new.result ∷ [])
      ∙ (ap (λ (qs : List (Queue _)). qs ++ g.Q.Queues.contents c.new.result ∷ []) c.loop.invariant.are
      ∙ (ap (λ (q : Queue _). replicate c.loop.counter no_queue ++ q ∷ []) c.new.ensures.made ∙ replicate-more c.loop.counter no_queue)));
  len = (let a = c.push_reserved.ensures.len in let b = c.loop.invariant.len in omega (arith, a, b));
  room = (let a = c.push_reserved.ensures.capacity in let b = c.loop.invariant.room in omega (arith, a, b));
}

pub returns : goal.returns
returns g c = (let e : c.loop.counter ≡ 8 = omega (arith, c.loop-test.false, c.loop.auto.counter-end) in c.loop.invariant.are ∙ ap (λ n. replicate n no_queue) e)

pub invariant_of-result : goal.invariant_of-result
invariant_of-result g c = (
  subst AreInOne (sym c.loop.invariant.are) (none-anywhere c.loop.counter),
  λ i q at lt. idle-none c.loop.counter i q (subst (λ (qs : List (Queue _)). At qs i q) c.loop.invariant.are at),
)
