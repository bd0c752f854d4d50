use Rattle.std.proofs.Common.{◌≡◌, Option, Some, ap, sym, ◌∙◌, subst}
use Rattle.ca_ids.specs.Table.{under}
use Rattle.ca_model.specs.Server.{Server, ServerCircuit}
use Rattle.ca_server_core.specs.ForHistories.{SizesUnder}
use Rattle.ca_server_core.proofs.for_histories.update_size.Goals as goal

pub returns-in-Some : goal.returns-in-Some
returns-in-Some c =
    let there : under c.args.core.now.circuits c.args.circuit ≡ Some c.in-Some.found.now = ap (λ (y : Server). under y.circuits c.args.circuit) (sym c.core.view_is) ∙ sym c.in-Some.ensures in
    subst (λ (o : Option ServerCircuit). SizesUnder o c.args.place c.args.index c.update_size.result) (sym there) c.update_size.ensures
