use Rattle.std.proofs.Common.{◌≡◌, ℕ, ◌<◌, length, List, None, map, arith, refl, sym, ap, ◌∙◌}
use Rattle.std.specs.Prelude.{slice_set}
use Rattle.ca_text.specs.Place.{At}
use Rattle.ca_queue.specs.Queue.{Queue, with_front_taken}
use Rattle.ca_queue.specs.Waiting.{taken}
use Rattle.ca_queue.specs.declared.list_queue.ListQueue.{ListQueue}
use Rattle.ca_queue.proofs.Circuits.{all-before, at-index, at-now, index-within, more-before, none-taken, set-as, set-as-before}
use Rattle.ca_world_data.specs.declared.history.Cause.{Cause}
use Rattle.ca_world_data.proofs.updates.take_number.Goals as goal

-- as a queue is seen
abbrev seen : ListQueue (ℕ × Cause) → Queue (ℕ × Cause)
seen q = q.0

pub returns-in-Some : goal.returns-in-Some
returns-in-Some c =
    let was : List (ListQueue (ℕ × Cause)) = c.args.queues.now.items in
    let items : List (ListQueue (ℕ × Cause)) = c.loop-place.queues.items in
    let k = c.args.queues.now.ok in
    let within : c.loop-place.place < length items = index-within seen items was (map seen was) c.loop-place.place c.len-place-end.result c.loop-place.invariant.same refl (omega (arith, c.len-place-end.ensures, k)) c.loop-place-test.true in (
      seen c.index_mut.result.now,
      at-now seen items (map seen was) c.loop-place.place c.index_mut.result.now c.loop-place.invariant.same within c.index_mut.ensures.value,
      c.loop-place.invariant.none,
      sym c.take.ensures.gives ∙ c.in-Some.is,
      set-as seen items c.loop-place.place c.take.new.self _ c.take.ensures.leaves
          ∙ ap (λ (qs : List (Queue (ℕ × Cause))). slice_set qs c.loop-place.place (with_front_taken (seen c.index_mut.result.now))) c.loop-place.invariant.same,
    )

pub loop-place-preserved : goal.loop-place-preserved
loop-place-preserved c =
    let was : List (ListQueue (ℕ × Cause)) = c.args.queues.now.items in
    let items : List (ListQueue (ℕ × Cause)) = c.loop-place.queues.items in
    let q : Queue (ℕ × Cause) = seen c.index_mut.result.now in
    let k = c.args.queues.now.ok in
    let within : c.loop-place.place < length items = index-within seen items was (map seen was) c.loop-place.place c.len-place-end.result c.loop-place.invariant.same refl (omega (arith, c.len-place-end.ensures, k)) c.loop-place-test.true in
    let at : At (map seen items) c.loop-place.place q = at-index seen items c.loop-place.place c.index_mut.result.now within c.index_mut.ensures.value in
    let none : taken q.events_on q.waiting ≡ None = sym c.in_default.ensures.gives in
    record {
      same = set-as-before seen items c.loop-place.place c.index_mut.result.now c.take.new.self at (c.take.ensures.leaves ∙ none-taken q none) ∙ c.loop-place.invariant.same;
      none =
          more-before (λ (r : Queue (ℕ × Cause)). taken r.events_on r.waiting ≡ None) (map seen was) c.loop-place.place q
          (at-now seen items (map seen was) c.loop-place.place c.index_mut.result.now c.loop-place.invariant.same within c.index_mut.ensures.value) none c.loop-place.invariant.none;
    }

pub returns : goal.returns
returns c =
    let was : List (ListQueue (ℕ × Cause)) = c.args.queues.now.items in
    let k = c.args.queues.now.ok in (
      (λ i q lt at. c.loop-place.invariant.none i q (all-before seen was (map seen was) c.loop-place.place c.len-place-end.result refl (omega (arith, c.len-place-end.ensures, k)) c.loop-place-test.false i q at) at),
      c.loop-place.invariant.same,
    )
