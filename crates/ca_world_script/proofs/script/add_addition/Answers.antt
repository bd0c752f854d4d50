use Rattle.std.proofs.Common.{◌∷◌}
use Rattle.std.specs.Prelude.{codes}
use Rattle.ca_text.specs.declared.refusal.Refusal.{Refusal}
use Rattle.ca_script.specs.Grammar.{Refuses}
use Rattle.ca_script.proofs.Sayings.{handed-on}
use Rattle.ca_world_script.specs.Index.{added_of}
use Rattle.ca_world_script.specs.Scripts.{AddsAdd, reading}
use Rattle.ca_world_script.proofs.ServerLines.{addition-refused}
use Rattle.ca_world_script.proofs.script.add_addition.Goals as goal

pub returns-in_err-addition-clause-err : goal.returns-in_err-addition-clause-err
returns-in_err-addition-clause-err c =
    handed-on c.from_residual.result c.in_err-addition.field-0.0 (λ (e : Refusal). Refuses (AddsAdd (reading c.args.script.now (added_of c.args.types.now)) (codes "add" ∷ c.args.words)) e) c.from_residual.ensures.1
    (addition-refused (reading c.args.script.now (added_of c.args.types.now)) c.args.words c.in_err-addition.field-0.0 c.in_err-addition.ensures.err)
