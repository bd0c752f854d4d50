use Rattle.std.proofs.Common.{◌≡◌, ℕ, None, map, ◌∙◌}
use Rattle.ca_records.specs.Record.{RecordState}
use Rattle.ca_model.specs.World.{record_begun}
use Rattle.ca_world_data.specs.declared.server.RecordSide.{RecordSide}
use Rattle.ca_world_data.specs.Seen.{place_of, record_of}
use Rattle.ca_world_data.proofs.Openings.{begun-next}
use Rattle.ca_world_data.proofs.opening.begin_records.Goals as goal

pub loop-number-preserved : goal.loop-number-preserved
loop-number-preserved c =
    let i : ℕ = c.loop-number.number in
    let x : RecordState = c.at.result.now in
    let r : RecordSide = record { name = c.in_ok-name.name; number = i; busy = None; waiting = c.new.result } in
    let is : record_of r ≡ record_begun i x = λ t. record { name = (c.in_ok-name.ensures.items ∙ c.name.ensures) t; number = i; busy = None; waiting = map place_of (c.new.ensures.items t) } in
    record { sides = begun-next record_of record_begun c.loop-number.sides.items r c.push.new.self.items c.args.records.now i x c.at.ensures.at c.in_ok-push.ensures.items is ∙ c.loop-number.invariant.sides }
