use Rattle.std.proofs.Common.{◌∷◌}
use Rattle.std.specs.Prelude.{codes}
use Rattle.ca_text.specs.declared.refusal.Refusal.{Refusal}
use Rattle.ca_script.specs.Grammar.{Refuses}
use Rattle.ca_script.proofs.Sayings.{handed-on}
use Rattle.ca_world_script.specs.Scripts.{AddsClient, reading}
use Rattle.ca_world_script.proofs.ServerLines.{client-refused}
use Rattle.ca_world_script.proofs.script.add_client.Goals as goal

pub returns-in_err-client-clause-err : goal.returns-in_err-client-clause-err
returns-in_err-client-clause-err c = λ added.
    handed-on c.from_residual.result c.in_err-client.field-0.0 (λ (e : Refusal). Refuses (AddsClient (reading c.args.script.now added) (codes "client" ∷ c.args.words)) e) c.from_residual.ensures.1
    (client-refused (reading c.args.script.now added) c.args.words c.in_err-client.field-0.0 c.in_err-client.ensures.err)
