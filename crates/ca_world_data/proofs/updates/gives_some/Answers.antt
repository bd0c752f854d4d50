use Rattle.std.proofs.Common.{◌≡◌, ℕ, List, None, Option, Some, map, arith, refl, sym, ◌∙◌}
use Rattle.std.specs.Prelude.{is_some, true}
use Rattle.ca_arena.proofs.Places.{none_from_test}
use Rattle.ca_queue.specs.declared.list_queue.ListQueue.{ListQueue}
use Rattle.ca_queue.specs.Queue.{Queue}
use Rattle.ca_queue.specs.Waiting.{taken}
use Rattle.ca_queue.proofs.Circuits.{at-index, more-before}
use Rattle.ca_world_data.specs.declared.history.Cause.{Cause}
use Rattle.ca_world_data.proofs.UpdateTellings.{seen}
use Rattle.ca_world_data.proofs.updates.gives_some.Goals as goal

some-there : {A : Type 0} (o : Option A) → is_some o ≡ true → (x : A) × (o ≡ Some x)
some-there None is = absurd cc
some-there (Some x) is = (x, refl)

pub returns-then-may_give-clause-gives : goal.returns-then-may_give-clause-gives
returns-then-may_give-clause-gives c = λ held.
    let qs : List (ListQueue (ℕ × Cause)) = c.args.queues.now in
    let q : ListQueue (ℕ × Cause) = c.queue-item.result in
    let w = some-there (taken (seen q).events_on (seen q).waiting) (sym c.may_give.ensures ∙ c.if-may_give.true) in
    (c.loop-queue.queue-index, seen q, w.0, at-index seen qs c.loop-queue.queue-index q (omega arith) c.queue-item.is, w.1)

pub loop-queue-preserved : goal.loop-queue-preserved
loop-queue-preserved c =
    let qs : List (ListQueue (ℕ × Cause)) = c.args.queues.now in
    let q : ListQueue (ℕ × Cause) = c.queue-item.result in
    let none = none_from_test (taken (seen q).events_on (seen q).waiting) (sym c.may_give.ensures ∙ c.if-may_give.false) in
    record {
      none =
          more-before (λ (r : Queue (ℕ × Cause)). taken r.events_on r.waiting ≡ None) (map seen qs) c.loop-queue.queue-index (seen q)
          (at-index seen qs c.loop-queue.queue-index q (omega arith) c.queue-item.is) none c.loop-queue.invariant.none;
    }

pub returns-clause-rests : goal.returns-clause-rests
returns-clause-rests c = λ held i r lt at. c.loop-queue.invariant.none i r (omega (arith, lt)) at
