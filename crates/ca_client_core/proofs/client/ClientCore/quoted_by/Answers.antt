use Rattle.std.proofs.Common.{◌≡◌, ◌∙◌, List, MatchOption, Some, ap, subst, ℕ}
use Rattle.ca_ids.specs.Table.{under}
use Rattle.ca_wire.specs.Reading.{BeginsHeader, NoHeader}
use Rattle.ca_model.specs.Client.{Client}
use Rattle.ca_client_core.proofs.Firsts.{first-some, payload-found, whole-found}
use Rattle.ca_client_core.proofs.client.ClientCore.quoted_by.Goals as goal

pub payload-requires : goal.payload-requires
payload-requires c =
    whole-found c.args.self.now c.args.circuit c.in-Some.found.now c.args.head.now (c.in-Some.ensures ∙ ap (λ (y : Client). under y.circuits c.args.circuit) c.self.view_is) c.requires

pub returns-in-Some : goal.returns-in-Some
returns-in-Some c =
    let there = c.in-Some.ensures ∙ ap (λ (y : Client). under y.circuits c.args.circuit) c.self.view_is in
    subst (λ (t : List ℕ). MatchOption c.quoted.result (NoHeader t) (BeginsHeader t)) (payload-found c.args.self.now c.args.circuit c.in-Some.found.now c.args.head.now c.payload.result.now there c.payload.ensures) c.quoted.ensures

pub returns-in-None : goal.returns-in-None
returns-in-None c =
    first-some c.args.self.now c.args.circuit c.args.head.now (c.in-None.ensures ∙ ap (λ (y : Client). under y.circuits c.args.circuit) c.self.view_is) c.requires
