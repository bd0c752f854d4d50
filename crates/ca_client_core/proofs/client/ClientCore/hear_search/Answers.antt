use Rattle.std.proofs.Common.{◌≡◌, ◌∙◌, None, Ok, Option, Some, ap, sym}
use Rattle.ca_ids.specs.Table.{under}
use Rattle.ca_model.specs.Client.{Client, ClientCircuit}
use Rattle.ca_client_core.specs.First.{first_on}
use Rattle.ca_client_core.proofs.Dispatched.{heard-first, search-done, search-out}
use Rattle.ca_client_core.proofs.Firsts.{first-there}
use Rattle.ca_client_core.proofs.client.ClientCore.hear_search.Goals as goal

pub unreachable-requires : goal.unreachable-requires
unreachable-requires c =
    let there = first-there c.args.self.now c.args.circuit c.args.head.now c.take.new.self c.requires.first c.take.ensures in
    let none : ◌≡◌ {A = Option ClientCircuit} None (Some there.0) = (c.in_default.ensures ∙ ap (λ (y : Client). under y.circuits c.args.circuit) c.self.view_is) ∙ there.1 in
    absurd cc

pub returns-in_err-hear_found : goal.returns-in_err-hear_found
returns-in_err-hear_found c =
    let x = c.args.self.now in
    let h = c.args.circuit in
    let m = first_on x h c.args.head.now in
    let y = c.take.new.self in
    let d = c.in-Some.found.now in
    let from = c.found.inside.address in
    let error = c.in_err-hear_found.field-0.0 in
    let new = c.hear_found.new.self in
    let there : under y.circuits h ≡ Some d = ap (λ (z : Client). under z.circuits h) (sym c.self.view_is) ∙ sym c.in-Some.ensures in
    heard-first x h c.args.head.now c.from_residual.result y new c.take.ensures
    (search-out y h d from m error c.from_residual.result new c.requires.command there (ap (λ (e : ClientCircuit). e.address) c.found.view_is) c.in_err-hear_found.ensures c.from_residual.ensures.0)

pub returns : goal.returns
returns c =
    let x = c.args.self.now in
    let h = c.args.circuit in
    let m = first_on x h c.args.head.now in
    let y = c.take.new.self in
    let d = c.in-Some.found.now in
    let from = c.found.inside.address in
    let done = c.in_ok-hear_found.field-0 in
    let new = c.hear_found.new.self in
    let there : under y.circuits h ≡ Some d = ap (λ (z : Client). under z.circuits h) (sym c.self.view_is) ∙ sym c.in-Some.ensures in
    heard-first x h c.args.head.now (Ok c.none.result) y new c.take.ensures
    (search-done y h d from m done c.none.result new c.requires.command there (ap (λ (e : ClientCircuit). e.address) c.found.view_is) c.none.ensures c.in_ok-hear_found.ensures)
