use Rattle.std.proofs.Common.{ℕ, ◌<◌, ◌≤◌, ◌+◌, length, List, map, sym, ap, arith, ◌∙◌}
use Rattle.std.specs.Prelude.{if◌then◌else◌, slice_set}
use Rattle.std.specs.Str.{bytes_eq}
use Rattle.std.proofs.lemmas.List.{length-map}
use Rattle.ca_text.specs.Place.{At}
use Rattle.ca_text.proofs.Places.{At-map}
use Rattle.ca_model.specs.ServerEvents.{next_busy}
use Rattle.ca_model.specs.World as model
use Rattle.ca_world_data.specs.declared.server.RecordSide.{RecordSide}
use Rattle.ca_world_data.specs.Seen.{record_of}
use Rattle.ca_world_data.proofs.Gone.{from-here, from-over, map_from}
use Rattle.ca_world_data.proofs.Worlds.{found, set-map}
use Rattle.ca_world.proofs.next_write.next_records.Goals as goal

pub loop-record-preserved : goal.loop-record-preserved
loop-record-preserved c =
    let f : model.RecordSide → model.RecordSide = λ r. if bytes_eq r.name c.args.name.now then next_busy r else r in
    let rs : List RecordSide = c.loop-record.records in
    let i : ℕ = c.loop-record.record-index in
    let r : RecordSide = c.record-item.result in
    let within : i < length rs = omega (arith, c.loop-record-test.true) in
    let at : At rs i r = found rs i r r within c.record-item.is in
    record {
      records =
          ap (map_from (i + 1) f) (set-map record_of rs i c.next_if.new.side ∙ ap (slice_set (map record_of rs) i) (c.next_if.ensures ∙ ap (λ (z : RecordSide). f (record_of z)) (sym c.record-item.is)))
          ∙ from-here i f (map record_of rs) (record_of r) (At-map record_of rs i r at)
          ∙ c.loop-record.invariant.records;
    }

pub returns : goal.returns
returns c =
    let f : model.RecordSide → model.RecordSide = λ r. if bytes_eq r.name c.args.name.now then next_busy r else r in
    let rs : List RecordSide = c.loop-record.records in
    let i : ℕ = c.loop-record.record-index in
    let over : length (map record_of rs) ≤ i = omega (arith, c.loop-record-test.false, length-map rs record_of) in
    sym (from-over i f (map record_of rs) over) ∙ c.loop-record.invariant.records
