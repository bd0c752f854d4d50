use Rattle.std.proofs.Common.{◌≡◌, ◌<◌, ◌+◌, ◌++◌, ℕ, List, [], ◌∷◌, length, map, sym, ap, subst, ◌∙◌, arith}
use Rattle.std.specs.Prelude.{Vec}
use Rattle.std.specs.VecDeque.{deque_items}
use Rattle.std.specs.declared.alloc.Global.{Global}
use Rattle.std.proofs.lemmas.List.{length-append, length-map, map-append}
use Rattle.ca_queue.specs.declared.list_queue.ListQueue.{ListQueue}
use Rattle.ca_queue.specs.Queue.{Queue}
use Rattle.ca_queue.proofs.Circuits.{at-index}
use Rattle.ca_text.specs.Place.{At}
use Rattle.ca_text.proofs.Places.{At-within}
use Rattle.ca_model.specs.Speech.{Stored}
use Rattle.ca_world_data.specs.declared.history.Cause.{Cause}
use Rattle.ca_world_data.specs.Updates.{AreRoomsFor}
use Rattle.ca_world_data.proofs.UpdateRooms.{more-at}
use Rattle.ca_world_data.proofs.UpdatesGiven.{as-long, as-many}
use Rattle.ca_world_data.proofs.UpdateTellings.{seen, seen-bare}
use Rattle.ca_world_data.proofs.updates.make_rooms.Goals as goal

pub loop-place-preserved : goal.loop-place-preserved
loop-place-preserved c =
    let qs : List (ListQueue (ℕ × Cause)) = c.args.joined.now.queues.items in
    let place : ℕ = c.loop-place.place in
    let x : ListQueue (ℕ × Cause) = c.index.result.now in
    let within : place < length qs = omega (arith, c.len-place-end.ensures, c.loop-place-test.true, c.args.joined.now.queues.ok.0) in
    let was : List (List (Vec ℕ Global)) = map deque_items c.loop-place.rooms.items in
    let own : List (Vec ℕ Global) = deque_items c.in_ok-rooms_of.field-0 in
    let now : map deque_items c.push.new.self.items ≡ was ++ own ∷ [] = ap (map deque_items) c.in_ok-push.ensures.items ∙ map-append deque_items c.loop-place.rooms.items _ in
    let long : length was ≡ place = length-map c.loop-place.rooms.items deque_items ∙ c.loop-place.invariant.many in
    record {
      many = ap (λ l. length l) c.in_ok-push.ensures.items ∙ length-append c.loop-place.rooms.items _ ∙ ap (λ (n : ℕ). n + 1) c.loop-place.invariant.many;
      each = λ e has i lt.
          subst (λ (l : List (List (Vec ℕ Global))). (o : List (Vec ℕ Global)) × At l i o × ((q : Queue Stored) → At e.queues i q → AreRoomsFor e q.waiting o)) (sym now)
          (more-at (λ (k : ℕ) (o : List (Vec ℕ Global)). (q : Queue Stored) → At e.queues k q → AreRoomsFor e q.waiting o) was own place long (c.loop-place.invariant.each e has)
          (λ q at.
          let many : length q.waiting ≡ length (seen x).waiting = as-long e.queues (map seen qs) (c.requires e has ∙ seen-bare qs) place q (seen x) at (at-index seen qs place x within c.index.ensures) in
          c.in_ok-rooms_of.ensures e q has at (omega (arith, many, c.waiting-waiting.ensures)))
          i lt);
    }

pub returns : goal.returns
returns c e has some place q at =
    let qs : List (ListQueue (ℕ × Cause)) = c.args.joined.now.queues.items in
    let within : place < length e.queues = At-within e.queues place q at in
    let many : length e.queues ≡ length (map seen qs) = as-many e.queues (map seen qs) (c.requires e has ∙ seen-bare qs) in
    let r = c.loop-place.invariant.each e has place (omega (arith, within, many, length-map qs seen, c.len-place-end.ensures, c.loop-place-test.false, c.args.joined.now.queues.ok.0)) in
    (r.0, r.1, r.2 q at)
