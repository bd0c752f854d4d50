use Rattle.std.proofs.Common.{ℕ, ◌<◌, length, List, refl, arith, eq-eqb}
use Rattle.ca_world_data.specs.declared.server.PutPlace.{PutPlace}
use Rattle.ca_world_data.proofs.Withdrawals.{on-err, some-put}
use Rattle.ca_world_data.proofs.Worlds.{found}
use Rattle.ca_world_data.proofs.withdrawing.tell_withdrawn.Goals as goal

pub returns-in_err-push-clause-lacks : goal.returns-in_err-push-clause-lacks
returns-in_err-push-clause-lacks c =
    let ps : List PutPlace = c.args.waiting.now in
    let i : ℕ = c.loop-put.put-index in
    let within : i < length ps = omega (arith, c.loop-put-test.true) in
    on-err c.from_residual.result (some-put c.args.circuit i ps _ (found ps i _ _ within refl) (eq-eqb _ _ c.if-put-circuit.true))
