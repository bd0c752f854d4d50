use Rattle.std.proofs.Common.{◌≤◌, subst, arith}
use Rattle.ca_text.specs.Limits.{payload_limit}
use Rattle.ca_dbr.specs.Elements.{Elements}
use Rattle.ca_dbr.specs.Held.{IsHeldValue}
use Rattle.ca_display.specs.Image.{size_in}
use Rattle.ca_model.proofs.Showing.{size_in-small}
use Rattle.ca_server_circuit.proofs.Sizes.{shows-within}
use Rattle.ca_server_circuit.proofs.updates.payload_size.Goals as goal

pub overflow_add-result : goal.overflow_add-result
overflow_add-result c =
    let small : size_in c.in-Ok.ensures.0 c.count_for-count.result ≤ payload_limit = size_in-small c.in-Ok.ensures.0 c.count_for-count.result c.count_for-count.ensures.limit in
    let is = c.in-Ok.ensures.2 in
    omega (arith, small, is)

pub returns : goal.returns
returns c =
    shows-within c.args.wanted.now c.args.shown.now (subst (λ (e : Elements). IsHeldValue e) c.held.ensures.held c.know.ensures) c.in-Ok.ensures.0 c.count_for-count.result c.in-Ok.size
    c.in-Ok.ensures.1 c.count_for-count.ensures.count c.in-Ok.ensures.2
