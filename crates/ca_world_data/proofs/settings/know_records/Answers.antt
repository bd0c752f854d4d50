use Rattle.std.proofs.Common.{◌≡◌, ℕ, inl, inr, arith, subst}
use Rattle.std.proofs.lemmas.Bool.{cases_lt}
use Rattle.ca_records.specs.Record.{IsRecord, RecordState}
use Rattle.ca_text.specs.Place.{At}
use Rattle.ca_text.proofs.Places.{At-one, At-within}
use Rattle.ca_world_data.proofs.settings.know_records.Goals as goal

pub loop-place-preserved : goal.loop-place-preserved
loop-place-preserved c = λ j r within at. elim (cases_lt j c.loop-place.place) [
  | inl before ↦ c.loop-place.invariant j r before at
  | inr after ↦
      let here : j ≡ c.loop-place.place = omega (arith, within, after) in
      let same : c.at.result.now ≡ r = At-one c.args.records.now c.loop-place.place c.at.result.now r c.at.ensures.at (subst (λ (k : ℕ). At c.args.records.now k r) here at) in
      subst (λ (x : RecordState). IsRecord x) same c.held.ensures.record
]

pub returns-clause-each : goal.returns-clause-each
returns-clause-each c = λ j r at. c.loop-place.invariant j r (omega (arith, At-within c.args.records.now j r at, c.loop-place-test.false, c.len-place-end.ensures.len, c.loop-place.auto.place-end)) at
