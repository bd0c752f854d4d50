use Rattle.std.proofs.Common.{◌≡◌, ℕ, suc, ◌<◌, inl, inr, length, List, map, refl, sym, subst, ◌∙◌, arith}
use Rattle.std.specs.Prelude.{slice_set}
use Rattle.std.proofs.lemmas.Bool.Decides.{leb_tells}
use Rattle.ca_text.specs.Place.{At}
use Rattle.ca_text.proofs.Places.{At-set, At-within}
use Rattle.ca_world_data.specs.declared.server.RecordSide.{RecordSide}
use Rattle.ca_world_data.specs.Seen.{record_of}
use Rattle.ca_world_data.proofs.Worlds.{found}
use Rattle.ca_world_servers.specs.Handling.{MayWait}
use Rattle.ca_world_servers.proofs.Handled.{same-next}
use Rattle.ca_world_servers.proofs.handling.reserve_waiting.Goals as goal

pub returns-in_err-reserve_if-clause-same : goal.returns-in_err-reserve_if-clause-same
returns-in_err-reserve_if-clause-same c =
    let rs : List RecordSide = c.loop-record.records in
    let i : ℕ = c.loop-record.record-index in
    let r : RecordSide = c.record-item.result in
    let within : i < length rs = omega (arith, c.loop-record-test.true) in
    let at : At rs i r = found rs i r r within c.record-item.is in
    let same : map record_of (slice_set rs i c.reserve_if.new.side) ≡ map record_of rs = same-next record_of i rs r _ c.reserve_if.new.side at c.record-item.is c.reserve_if.ensures.same in
    same ∙ c.loop-record.invariant.same

pub loop-record-init : goal.loop-record-init
loop-record-init c = record { same = refl; room = λ k r lt at. absurd (omega (arith, lt)) }

pub loop-record-preserved : goal.loop-record-preserved
loop-record-preserved c =
    let rs : List RecordSide = c.loop-record.records in
    let i : ℕ = c.loop-record.record-index in
    let r : RecordSide = c.record-item.result in
    let within : i < length rs = omega (arith, c.loop-record-test.true) in
    let at : At rs i r = found rs i r r within c.record-item.is in
    let same : map record_of (slice_set rs i c.reserve_if.new.side) ≡ map record_of rs = same-next record_of i rs r _ c.reserve_if.new.side at c.record-item.is c.reserve_if.ensures.same in
    record {
      same = same ∙ c.loop-record.invariant.same;
      room = λ k x lt there.
          elim (At-set rs i c.reserve_if.new.side k x there) [
            | inl here ↦ subst (MayWait c.args.name.now) (sym here.1) c.in_ok-reserve_if.ensures.room
            | inr was ↦
                elim (leb_tells (suc k) i) [
                  | inl before ↦ c.loop-record.invariant.room k x (omega (arith, before.1)) was.0
                  | inr not_before ↦ absurd (was.1 (omega (arith, not_before.1, lt)))
                ]
          ];
    }

pub returns-clause-room : goal.returns-clause-room
returns-clause-room c = λ i r at. c.loop-record.invariant.room i r (omega (arith, c.loop-record-test.false, At-within c.loop-record.records i r at)) at
