use Rattle.std.proofs.Common.{arith}
use Rattle.ca_dbr.specs.Elements.{elements}
use Rattle.ca_dbr.specs.Shown.{first_elements}
use Rattle.ca_dbr.specs.Data.{data_of}
use Rattle.ca_display.specs.Conversion.{display_converted}
use Rattle.ca_display.proofs.Shown.{first_elements-all, unconverted}
use Rattle.ca_display.proofs.conversion.convert_first.Goals as goal

pub returns-then-count-clause-ok : goal.returns-then-count-clause-ok
returns-then-count-clause-ok c =
    rw (first_elements-all c.args.count (elements c.args.value.now) (omega (arith, c.if-count.true, c.count.ensures))) c.convert_display.ensures.ok

pub returns-then-count-clause-err : goal.returns-then-count-clause-err
returns-then-count-clause-err c =
    let e = elements c.args.value.now in
    rw (first_elements-all c.args.count e (omega (arith, c.if-count.true, c.count.ensures)))
    (unconverted (display_converted (data_of c.args.display.now) e c.args.base) _ c.convert_display.ensures.err)

pub returns-in-Ok-clause-ok : goal.returns-in-Ok-clause-ok
returns-in-Ok-clause-ok c = rw c.in-Ok.ensures at c.convert_display-in-Ok.ensures.ok

pub returns-in-Ok-clause-err : goal.returns-in-Ok-clause-err
returns-in-Ok-clause-err c =
    let first = first_elements c.args.count (elements c.args.value.now) in
    unconverted (display_converted (data_of c.args.display.now) first c.args.base) _ (rw c.in-Ok.ensures at c.convert_display-in-Ok.ensures.err)
