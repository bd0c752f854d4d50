use Rattle.std.proofs.Common.{ℕ, ◌<◌, ◌≤◌, length, List, map, sym, arith, ◌∙◌}
use Rattle.std.proofs.lemmas.List.{length-map}
use Rattle.ca_text.specs.Place.{At}
use Rattle.ca_model.specs.ServerEvents.{without_puts}
use Rattle.ca_world_data.specs.declared.server.RecordSide.{RecordSide}
use Rattle.ca_world_data.specs.EndsWith.{gone_with}
use Rattle.ca_world_data.specs.Seen.{joined_of, record_of}
use Rattle.ca_world_data.proofs.Gone.{from-over, gone-next}
use Rattle.ca_world_data.proofs.Worlds.{found}
use Rattle.ca_world_data.proofs.reporting.withdraw_gone.Goals as goal

pub loop-record-preserved : goal.loop-record-preserved
loop-record-preserved c =
    let rs : List RecordSide = c.loop-record.records in
    let i : ℕ = c.loop-record.record-index in
    let r : RecordSide = c.record-item.result in
    let within : i < length rs = omega (arith, c.loop-record-test.true) in
    let at : At rs i r = found rs i r r within c.record-item.is in
    record { records = gone-next (gone_with c.args.closed c.args.server c.args.core.now (map joined_of c.args.circuits.now)) i rs r _ c.withdraw_from.new.waiting at c.record-item.is c.withdraw_from.ensures ∙ c.loop-record.invariant.records }

pub returns : goal.returns
returns c =
    let rs : List RecordSide = c.loop-record.records in
    let i : ℕ = c.loop-record.record-index in
    let over : length (map record_of rs) ≤ i = omega (arith, c.loop-record-test.false, length-map rs record_of) in
    sym (from-over i (without_puts (gone_with c.args.closed c.args.server c.args.core.now (map joined_of c.args.circuits.now))) (map record_of rs) over) ∙ c.loop-record.invariant.records
