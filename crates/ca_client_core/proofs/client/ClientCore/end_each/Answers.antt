use Rattle.std.proofs.Common.{◌∙◌, arith, subst, sym, take}
use Rattle.ca_model.specs.ClientEnds.{Ticking}
use Rattle.ca_client_core.specs.Moments.{all_ended, end_step}
use Rattle.ca_client_core.specs.Ticked.{Reports}
use Rattle.ca_client_core.proofs.Rounds.{fold-next, there}
use Rattle.ca_client_core.proofs.client.ClientCore.end_each.Goals as goal

pub loop-index-preserved : goal.loop-index-preserved
loop-index-preserved c =
    let i = c.loop-index.index in
    let cs = c.args.ends.now in (
      λ t r.
          subst (λ (u : Ticking). Reports u c.end_silent.new.self c.end_silent.new.closings.items) (sym (fold-next end_step cs i _ t (there cs i _ c.loop-index-test.true)))
          (c.end_silent.ensures.reports (all_ended (take i cs) t) (c.loop-index.invariant.0 t r)),
      omega (arith, c.end_silent.ensures.len, c.loop-index.invariant.1),
      c.end_silent.ensures.capacity ∙ c.loop-index.invariant.2,
    )
