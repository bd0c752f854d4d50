use Rattle.std.proofs.Common.{ℕ, ◌<◌, length, List, ap, arith, ◌∙◌}
use Rattle.ca_text.specs.Place.{At}
use Rattle.ca_world_data.specs.declared.server.RecordSide.{RecordSide}
use Rattle.ca_world_data.specs.Withdrawing.{withdrawn_of}
use Rattle.ca_world_data.proofs.Withdrawals.{on-err, some-record}
use Rattle.ca_world_data.proofs.Worlds.{found}
use Rattle.ca_world_data.proofs.withdrawing.withdrawals.Goals as goal

pub returns-in_err-tell_withdrawn-clause-lacks : goal.returns-in_err-tell_withdrawn-clause-lacks
returns-in_err-tell_withdrawn-clause-lacks c =
    let rs : List RecordSide = c.args.records.now in
    let i : ℕ = c.loop-record.record-index in
    let r : RecordSide = c.record-item.result in
    let within : i < length rs = omega (arith, c.loop-record-test.true) in
    let at : At rs i r = found rs i r r within c.record-item.is in
    on-err c.from_residual.result (some-record c.args.circuit i rs r at (λ none. c.in_err-tell_withdrawn.ensures.lacks (ap (withdrawn_of c.args.circuit) c.deref.ensures.value ∙ none)))
