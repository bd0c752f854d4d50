use Rattle.std.proofs.Common.{sym, subst, ◌∙◌}
use Rattle.ca_server_circuit.specs.declared.step.FollowUp.{FollowUp}
use Rattle.ca_server_core.specs.Noting.{TriesAt}
use Rattle.ca_server_core.proofs.Noted.{free-at}
use Rattle.ca_server_core.proofs.serving.finish_busy.Goals as goal

pub returns-then-not-is_busy-clause-tries : goal.returns-then-not-is_busy-clause-tries
returns-then-not-is_busy-clause-tries c =
    let n = c.args.applied.now in
    let t = c.args.circuits.now in
    let s = c.args.records.now in
    subst (λ (e : FollowUp). TriesAt e n t s n t s) (sym c.in-Wrote.is)
    (free-at c.in-Wrote.place n t s c.at.result.now c.at.ensures.at c.at.ensures.found (sym c.is_busy.ensures ∙ c.if-not-is_busy.true))
