use Rattle.std.proofs.Common.{◌∙◌, List, ap, arith}
use Rattle.std.proofs.lemmas.List.{take_all}
use Rattle.ca_arena.specs.declared.handle.Handle.{Handle}
use Rattle.ca_ids.specs.Table.{with_all_held}
use Rattle.ca_model.specs.Client.{ClientCircuit}
use Rattle.ca_client_tables.specs.Finding.{circuit_in}
use Rattle.ca_client_tables.proofs.Opened.{looked-more}
use Rattle.ca_client_tables.proofs.finding.circuit_to.Goals as goal

pub loop-place-preserved : goal.loop-place-preserved
loop-place-preserved c =
    c.first_to-found.ensures
    ∙ looked-more c.args.address c.args.priority c.args.opening.now c.args.circuits.now c.loop-place.place _ c.loop-place.found c.requires c.loop-place-test.true c.index-opening-place.is c.loop-place.invariant

pub returns : goal.returns
returns c =
    c.loop-place.invariant
    ∙ ap (λ (es : List (Handle × ClientCircuit)). circuit_in c.args.address c.args.priority (with_all_held es c.args.circuits.now)) (take_all c.loop-place.place c.args.opening.now (omega (arith, c.loop-place-test.false)))
