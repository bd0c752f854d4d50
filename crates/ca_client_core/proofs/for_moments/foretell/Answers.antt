use Rattle.std.proofs.Common.{◌≡◌, ◌∙◌, ap, max, Err, []}
use Rattle.ca_text.specs.declared.refusal.Refusal.TheVariants.{OutOfMemory}
use Rattle.ca_model.specs.Client.{Client, later}
use Rattle.ca_model.specs.ClientEnds.{ClientTicks}
use Rattle.ca_client_core.specs.Foretold.{Foretells, Tries}
use Rattle.ca_client_core.specs.Ticked.{LacksMemory}
use Rattle.ca_client_core.proofs.Tried.{err-says, foretold-lacks, foretold-so, ok-says}
use Rattle.ca_client_core.proofs.for_moments.foretell.Goals as goal

pub returns-clause-ok : goal.returns-clause-ok
returns-clause-ok c =
    let x = c.args.core.now in
    let w = c.set_moment.new.self in
    let at : c.max.result ≡ later c.args.now x = c.max.ensures ∙ ap (λ (y : Client). max y.moment c.args.now) c.core.view_is in
    ok-says (Tries w) (Foretells x c.args.now) c.try_out-told.result (λ f tries. foretold-so x w c.args.now c.max.result f at c.set_moment.ensures tries) c.try_out-told.ensures.ok

pub returns-clause-some : goal.returns-clause-some
returns-clause-some c =
    let x = c.args.core.now in
    let w = c.set_moment.new.self in
    let at : c.max.result ≡ later c.args.now x = c.max.ensures ∙ ap (λ (y : Client). max y.moment c.args.now) c.core.view_is in
    err-says (LacksMemory w) (ClientTicks x c.args.now (Err OutOfMemory) [] x) c.try_out-told.result (foretold-lacks x w c.args.now c.max.result at c.set_moment.ensures) c.try_out-told.ensures.some
