use Rattle.std.proofs.Common.{◌≡◌, ◌∙◌, List, ℕ, ap}
use Rattle.ca_wire.specs.Messages.{mask_in}
use Rattle.ca_model.specs.Due.{subscription_in}
use Rattle.ca_model.specs.Server.{Subscription}
use Rattle.ca_model.specs.Speech.{Stored}
use Rattle.ca_server_circuit.specs.Stepping.{first_at, message_of}
use Rattle.ca_server_circuit.proofs.Joining.{joined-end}
use Rattle.ca_server_circuit.proofs.end.End.join.Goals as goal

pub returns-clause-ok : goal.returns-clause-ok
returns-clause-ok c =
    let e = c.args.self.now in
    let h = c.args.head.now.header in
    let m = first_at e.link.input.bytes c.args.head.now in
    let mask : c.mask_in-mask.result ≡ mask_in m = c.mask_in-mask.ensures h ∙ ap (λ (b : List ℕ). mask_in (message_of h b)) c.payload.ensures in
    let name = c.in_ok-name.ensures.items ∙ c.name.ensures in
    let asked : Subscription = record { wanted = c.named_by.result; name = c.in_ok-name.name.items; mask = c.mask_in-mask.result } in
    let same : asked ≡ subscription_in m c.args.of.now.name = λ i. record { wanted = c.named_by.ensures i; name = name i; mask = mask i } in
    let lent : Stored = record { value = c.held.result.now; meta = c.meta.result.now } in
    let shown : Stored = record { value = c.args.of.now.value; meta = c.args.of.now.meta } in
    let alike : lent ≡ shown = λ i. record { value = c.held.ensures.held i; meta = c.meta.ensures i } in
    joined-end _ e c.begin.new.self asked (subscription_in m c.args.of.now.name) _ _ c.self.view_is same (c.in_ok-update.ensures.ok ∙ alike) c.in_ok-begin.ensures.ok
