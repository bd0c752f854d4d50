use Rattle.std.proofs.Common.{◌∙◌, ap, arith}
use Rattle.ca_dbr.specs.Elements.{elements}
use Rattle.ca_dbr.specs.Held.{bare}
use Rattle.ca_server_circuit.proofs.Pumps.{if-scalar}
use Rattle.ca_server_circuit.proofs.updates.value_scalar.Goals as goal

pub returns : goal.returns
returns c =
    let few = c.if-wanted-gt1.false in
    if-scalar c.args.wanted.now (record { value = c.args.of.now.value; meta = c.args.of.now.meta }) (elements c.value.result.now) c.scalar.result (omega (arith, few)) (c.value.ensures.bare ∙ ap bare c.held.ensures.held)
    c.scalar.ensures.some
