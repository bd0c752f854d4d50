use Rattle.std.proofs.Common.{ap, sym, ◌∙◌}
use Rattle.ca_ids.specs.Table.{under}
use Rattle.ca_model.specs.Server.{Server}
use Rattle.ca_server_core.proofs.Histories.{concerned-there}
use Rattle.ca_server_core.proofs.for_histories.concerned_at.Goals as goal

pub returns-in-Some : goal.returns-in-Some
returns-in-Some c =
    concerned-there c.args.name.now c.args.mask c.args.place (under c.args.core.now.circuits c.args.circuit) c.in-Some.found.now c.concerned_at.result
    (ap (λ (y : Server). under y.circuits c.args.circuit) (sym c.core.view_is) ∙ sym c.in-Some.ensures) c.concerned_at.ensures
