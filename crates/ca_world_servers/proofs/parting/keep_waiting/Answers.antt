use Rattle.std.proofs.Common.{◌≡◌, ℕ, ◌<◌, ◌≤◌, [], ◌∷◌, List, length, map, refl, sym, ap, ◌∙◌, arith}
use Rattle.std.specs.Prelude.{Vec, slice_index_or}
use Rattle.std.specs.declared.alloc.Global.{Global}
use Rattle.std.specs.Vec.Iter.{into_iter_items}
use Rattle.std.proofs.lemmas.List.{length-map, nil_from_length}
use Rattle.ca_text.specs.Place.{At}
use Rattle.ca_world_data.specs.declared.server.PutPlace.{PutPlace}
use Rattle.ca_world_data.specs.declared.server.RecordSide.{RecordSide}
use Rattle.ca_world_data.specs.Seen.{record_of}
use Rattle.ca_world_data.proofs.Worlds.{found}
use Rattle.ca_world_servers.specs.Parting.{places_in}
use Rattle.ca_world_servers.proofs.Parted.{kept-none, kept-over, kept-step, kept_from}
use Rattle.ca_world_servers.proofs.parting.keep_waiting.Goals as goal

pub loop-waiting-preserved-then-place-records : goal.loop-waiting-preserved-then-place-records
loop-waiting-preserved-then-place-records c =
    let rs : List RecordSide = c.loop-waiting.records in
    let p : ℕ = c.loop-waiting.place in
    let r : RecordSide = slice_index_or rs p c.index-records-place.result in
    let within : p < length rs = omega (arith, c.if-place-records.true) in
    let at : At rs p r = found rs p r c.index-records-place.result within refl in
    let steps : into_iter_items c.loop-waiting.waiting-iterator ≡ c.in-Some.waiting ∷ into_iter_items c.next.new.self = c.in-Some.ensures.steps.0 in
    record {
      records =
          kept-step p rs r c.in-Some.waiting (map places_in (into_iter_items c.next.new.self)) at
          ∙ ap (λ (l : List (Vec PutPlace Global)). kept_from p (map places_in l) (map record_of rs)) (sym steps)
          ∙ c.loop-waiting.invariant.records;
    }

pub loop-waiting-preserved : goal.loop-waiting-preserved
loop-waiting-preserved c =
    let rs : List RecordSide = c.loop-waiting.records in
    let p : ℕ = c.loop-waiting.place in
    let over : length (map record_of rs) ≤ p = omega (arith, c.if-place-records.false, length-map rs record_of) in
    record {
      records =
          kept-over p (map places_in (into_iter_items c.next.new.self)) (map record_of rs) over
          ∙ sym (kept-over p (map places_in (into_iter_items c.loop-waiting.waiting-iterator)) (map record_of rs) over)
          ∙ c.loop-waiting.invariant.records;
    }

pub returns : goal.returns
returns c =
    let rs : List RecordSide = c.loop-waiting.records in
    let p : ℕ = c.loop-waiting.place in
    let none : length (into_iter_items c.loop-waiting.waiting-iterator) ≡ 0 = sym c.loop-waiting.waiting-iterator.rest.ok.0 ∙ c.in-None.ensures.steps.0 in
    let empty : into_iter_items c.loop-waiting.waiting-iterator ≡ [] = nil_from_length (into_iter_items c.loop-waiting.waiting-iterator) none in
    sym (kept-none p (map record_of rs))
    ∙ ap (λ (l : List (Vec PutPlace Global)). kept_from p (map places_in l) (map record_of rs)) (sym empty)
    ∙ c.loop-waiting.invariant.records
