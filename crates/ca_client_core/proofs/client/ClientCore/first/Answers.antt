use Rattle.std.proofs.Common.{◌∙◌, ap}
use Rattle.ca_ids.specs.Table.{under}
use Rattle.ca_model.specs.Client.{Client}
use Rattle.ca_client_core.proofs.Firsts.{first-found, first-none}
use Rattle.ca_client_core.proofs.client.ClientCore.first.Goals as goal

pub returns-in-Some : goal.returns-in-Some
returns-in-Some c = first-found c.args.self.now c.args.circuit c.in-Some.found.now c.first.result (c.in-Some.ensures ∙ ap (λ (y : Client). under y.circuits c.args.circuit) c.self.view_is) c.first.ensures

pub returns-in-None : goal.returns-in-None
returns-in-None c = first-none c.args.self.now c.args.circuit (c.in-None.ensures ∙ ap (λ (y : Client). under y.circuits c.args.circuit) c.self.view_is)
