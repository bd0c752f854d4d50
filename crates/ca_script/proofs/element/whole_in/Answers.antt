use Rattle.std.proofs.Common.{refl}
use Rattle.ca_script.proofs.ElementRefusals.{whole-is-text}
use Rattle.ca_script.proofs.element.whole_in.Goals as goal

pub returns-in_default-clause-err : goal.returns-in_default-clause-err
returns-in_default-clause-err c = (refl, λ z h fits. c.in_default.ensures.cases.0 (whole-is-text c.args.word.now z h))
