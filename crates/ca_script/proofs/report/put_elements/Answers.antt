use Rattle.std.proofs.Common.{◌∙◌, ap}
use Rattle.ca_dbr.specs.declared.data_type.BaseType.{BaseType}
use Rattle.ca_dbr.specs.Types.{base_number}
use Rattle.ca_script.proofs.Plain.{plain-written}
use Rattle.ca_script.proofs.report.put_elements.Goals as goal

pub returns-clause-err : goal.returns-clause-err
returns-clause-err c =
    plain-written _ _ _ _ _ _ (c.number.ensures ∙ ap (λ (b : BaseType). base_number b) c.base_type.ensures) c.write_value.ensures.written
