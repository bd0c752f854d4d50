use Rattle.std.proofs.Common.{◌≡◌, ◌∙◌, ℕ, ◌<◌, List, length, sym, arith}
use Rattle.std.proofs.lemmas.Slice.Eq.{bytes_eq-Decides}
use Rattle.ca_text.specs.Place.{At}
use Rattle.ca_text.proofs.Places.{At-within}
use Rattle.ca_world_data.specs.declared.server.RecordSide.{RecordSide}
use Rattle.ca_world_data.proofs.Worlds.{found}
use Rattle.ca_world.proofs.Finishings.{names-differ, none-next}
use Rattle.ca_world.proofs.finish.find_record.Goals as goal

pub returns-then-eq : goal.returns-then-eq
returns-then-eq c =
    let rs : List RecordSide = c.args.records.now in
    let i : ℕ = c.loop-one.one-index in
    let r : RecordSide = c.one-item.result in
    let within : i < length rs = omega (arith, c.loop-one-test.true) in
    let same : c.as_slice.result.now ≡ c.args.name.now = (bytes_eq-Decides c.as_slice.result.now c.args.name.now).0 (sym c.eq.ensures ∙ c.if-eq.true) in
    (i, found rs i r r within c.one-item.is, sym c.as_slice.ensures.value ∙ same)

pub loop-one-preserved : goal.loop-one-preserved
loop-one-preserved c =
    let rs : List RecordSide = c.args.records.now in
    let name : List ℕ = c.args.name.now in
    let i : ℕ = c.loop-one.one-index in
    let r : RecordSide = c.one-item.result in
    let within : i < length rs = omega (arith, c.loop-one-test.true) in
    let at : At rs i r = found rs i r r within c.one-item.is in
    record { before = none-next rs name i r c.loop-one.invariant.before at (λ is. names-differ c.as_slice.result.now name (sym c.eq.ensures ∙ c.if-eq.false) (c.as_slice.ensures.value ∙ is)) }

pub returns : goal.returns
returns c = λ place r at is.
    let rs : List RecordSide = c.args.records.now in
    let within : place < length rs = At-within rs place r at in
    c.loop-one.invariant.before place (omega (arith, within, c.loop-one-test.false)) r at is
