use Rattle.std.proofs.Common.{ℕ, ◌<◌, ◌≤◌, length, List, map, sym, arith, ◌∙◌}
use Rattle.std.proofs.lemmas.List.{length-map}
use Rattle.ca_text.specs.Place.{At}
use Rattle.ca_world_data.specs.declared.server.RecordSide.{RecordSide}
use Rattle.ca_world_data.specs.Seen.{place_of, record_of}
use Rattle.ca_world_data.proofs.Gone.{from-over}
use Rattle.ca_world_data.proofs.Worlds.{found}
use Rattle.ca_world_servers.specs.Handling.{made_busy}
use Rattle.ca_world_servers.proofs.Handled.{change-next, if_named}
use Rattle.ca_world_servers.proofs.handling.make_busy.Goals as goal

pub loop-record-preserved : goal.loop-record-preserved
loop-record-preserved c =
    let rs : List RecordSide = c.loop-record.records in
    let i : ℕ = c.loop-record.record-index in
    let r : RecordSide = c.record-item.result in
    let within : i < length rs = omega (arith, c.loop-record-test.true) in
    let at : At rs i r = found rs i r r within c.record-item.is in
    record { records = change-next record_of (if_named c.args.name.now (made_busy (place_of c.args.put))) i rs r _ c.busy_if.new.side at c.record-item.is c.busy_if.ensures ∙ c.loop-record.invariant.records }

pub returns : goal.returns
returns c =
    let rs : List RecordSide = c.loop-record.records in
    let i : ℕ = c.loop-record.record-index in
    let over : length (map record_of rs) ≤ i = omega (arith, c.loop-record-test.false, length-map rs record_of) in
    sym (from-over i (if_named c.args.name.now (made_busy (place_of c.args.put))) (map record_of rs) over) ∙ c.loop-record.invariant.records
