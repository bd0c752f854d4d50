use Rattle.std.proofs.Common.{◌≡◌, ◌≢◌, ◌∙◌, [], Ok, refl, rules}
use Rattle.ca_model.specs.Hears as hears
use Rattle.ca_model.specs.Hears.{becomes, doing}
use Rattle.ca_client_core.specs.First.{without_first}
use Rattle.ca_client_core.specs.Hearing.{updated}
use Rattle.ca_client_core.proofs.Dispatched.{heard-first, update-out}
use Rattle.ca_client_core.proofs.Firsts.{no-payload, some-payload}
use Rattle.ca_client_core.proofs.client.ClientCore.hear_event_add.Goals as goal

pub returns-then-head-eq0 : goal.returns-then-head-eq0
returns-then-head-eq0 c =
    let none : c.args.head.now.header.size ≡ 0 = search rules in
    heard-first c.args.self.now c.args.circuit c.args.head.now (Ok c.none.result) c.take.new.self c.hear_confirmation.new.self c.take.ensures
    (becomes c.hear_confirmation.new.self, hears.Confirmation c.requires.command (no-payload c.args.self.now c.args.circuit c.args.head.now none) c.hear_confirmation.ensures, c.none.ensures, refl)

pub returns-in_err-told : goal.returns-in_err-told
returns-in_err-told c =
    let some : c.args.head.now.header.size ≢ 0 = search rules in
    update-out c.self.inside.user c.args.self.now c.args.circuit c.args.head.now c.from_residual.result c.requires.command c.requires.first (some-payload c.args.self.now c.args.circuit c.args.head.now c.requires.first some) c.from_residual.ensures.0

pub returns : goal.returns
returns c =
    let some : c.args.head.now.header.size ≢ 0 = search rules in
    let y = without_first c.args.circuit c.args.head.now c.args.self.now in
    (doing [] (updated c.in_ok-told.told) y, hears.Update c.requires.command (some-payload c.args.self.now c.args.circuit c.args.head.now c.requires.first some) (c.in_ok-told.ensures.ok y), c.one.ensures ∙ c.updated.ensures, c.take-2.ensures)
