use Rattle.std.proofs.Common.{ℕ, ◌<◌, ◌≤◌, length, List, map, inl, inr, refl, subst, sym, arith, ◌∙◌}
use Rattle.std.proofs.lemmas.List.{length-map}
use Rattle.ca_text.specs.Place.{At}
use Rattle.ca_text.proofs.Places.{At-set}
use Rattle.ca_world_data.specs.declared.server.RecordSide.{RecordSide}
use Rattle.ca_world_data.specs.Seen.{place_of, record_of}
use Rattle.ca_world_data.proofs.Gone.{from-over}
use Rattle.ca_world_data.proofs.Worlds.{found}
use Rattle.ca_world_servers.specs.Handling.{MayWait, with_waiting}
use Rattle.ca_world_servers.proofs.Handled.{change-next, if_named}
use Rattle.ca_world_servers.proofs.handling.add_waiting.Goals as goal

pub wait_if-requires : goal.wait_if-requires
wait_if-requires c =
    let rs : List RecordSide = c.loop-record.records in
    let i : ℕ = c.loop-record.record-index in
    let r : RecordSide = c.record-item.result in
    let within : i < length rs = omega (arith, c.loop-record-test.true) in
    let at : At rs i r = found rs i r r within c.record-item.is in
    subst (MayWait c.args.name.now) c.record-item.is (c.loop-record.invariant.room i r (omega arith) at)

pub loop-record-init : goal.loop-record-init
loop-record-init c = record { records = refl; room = λ k r behind at. c.requires k r at }

pub loop-record-preserved : goal.loop-record-preserved
loop-record-preserved c =
    let rs : List RecordSide = c.loop-record.records in
    let i : ℕ = c.loop-record.record-index in
    let r : RecordSide = c.record-item.result in
    let within : i < length rs = omega (arith, c.loop-record-test.true) in
    let at : At rs i r = found rs i r r within c.record-item.is in
    record {
      room = λ k x behind there.
          elim (At-set rs i _ k x there) [
            | inl here ↦ absurd (omega (arith, behind, here.0))
            | inr was ↦ c.loop-record.invariant.room k x (omega (arith, behind)) was.0
          ];
      records = change-next record_of (if_named c.args.name.now (with_waiting (place_of c.args.put))) i rs r _ c.wait_if.new.side at c.record-item.is c.wait_if.ensures ∙ c.loop-record.invariant.records;
    }

pub returns : goal.returns
returns c =
    let rs : List RecordSide = c.loop-record.records in
    let i : ℕ = c.loop-record.record-index in
    let over : length (map record_of rs) ≤ i = omega (arith, c.loop-record-test.false, length-map rs record_of) in
    sym (from-over i (if_named c.args.name.now (with_waiting (place_of c.args.put))) (map record_of rs) over) ∙ c.loop-record.invariant.records
