use Rattle.std.proofs.Common.{◌%◌, ◌∙◌, ap}
use Rattle.std.proofs.lemmas.Bool.{eq-eqb}
use Rattle.ca_dbr.specs.Elements.{elements}
use Rattle.ca_dbr.specs.Held.{bare}
use Rattle.ca_server_circuit.proofs.Shows.{if-scalar}
use Rattle.ca_server_circuit.proofs.fast.read.shown_scalar.Goals as goal

pub returns : goal.returns
returns c =
    if-scalar c.args.of.now c.args.rights c.args.wanted.now (elements c.value.result.now) c.scalar.result c.held.ensures.record (eq-eqb (c.args.rights % 2) 1 c.if-rights-ne1.false) c.if-wanted-gt1.false
    (c.value.ensures.bare ∙ ap bare c.held.ensures.held) c.scalar.ensures.some
