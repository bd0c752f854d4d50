use Rattle.std.proofs.Common.{◌∙◌, ap}
use Rattle.std.specs.Prelude.{Err}
use Rattle.ca_dbr.specs.Elements.{elements}
use Rattle.ca_dbr.proofs.Faults.{shown-memory}
use Rattle.ca_dbr.proofs.shown.write_shown.Goals as goal

pub returns-in-Err-put_shown-clause-room : goal.returns-in-Err-put_shown-clause-room
returns-in-Err-put_shown-clause-room c want =
    absurd (shown-memory (elements c.args.value.now) c.args.count c.in-Some.data_type.base (c.in-Err-put_shown.ensures.shown.0 ∙ ap (λ r. Err r) want))
