use Rattle.std.proofs.Common.{ℕ, List, length, sym, ◌∙◌, subst}
use Rattle.std.proofs.lemmas.Bool.{leb-false}
use Rattle.ca_text.specs.Limits.{output_limit}
use Rattle.ca_wire.specs.Messages.{scalar}
use Rattle.ca_server_subscriptions.specs.Passing.{PassesBy}
use Rattle.ca_server_circuit.specs.Pumping.{scalar_update}
use Rattle.ca_server_circuit.proofs.AtOnce.{if-ok, shows-at-once}
use Rattle.ca_server_circuit.proofs.end.End.show_at_once.Goals as goal

pub returns-in-Some-value_scalar-clause-shown : goal.returns-in-Some-value_scalar-clause-shown
returns-in-Some-value_scalar-clause-shown c on =
    let w = c.in-Some.wanted in
    let passes : PassesBy c.args.of.now.name c.args.mask w c.self.inside.subscriptions =
    subst (λ (name : List ℕ). PassesBy name c.args.mask w c.self.inside.subscriptions) c.name.ensures c.in-Some.ensures.passes in
    let sent = if-ok c.send_scalar.result (sym c.is_ok.ensures.value ∙ on) c.send_scalar.ensures.ok in
    shows-at-once _ c.args.self.now c.args.of.now c.args.mask w (scalar (scalar_update w c.in-Some-value_scalar.payload)) c.send_scalar.new.link c.only_one.new.self c.self.view_is
    (leb-false output_limit (length c.self.inside.link.output) (sym c.if-is_full.ensures)) passes c.in-Some.ensures.stays c.in-Some-value_scalar.ensures sent
