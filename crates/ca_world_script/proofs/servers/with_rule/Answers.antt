use Rattle.std.proofs.Common.{◌∷◌}
use Rattle.std.specs.Prelude.{codes}
use Rattle.ca_text.specs.declared.refusal.Refusal.{Refusal}
use Rattle.ca_script.specs.Grammar.{Refuses}
use Rattle.ca_script.proofs.Sayings.{handed-on}
use Rattle.ca_world_script.specs.Servers.{TakesRule}
use Rattle.ca_world_script.proofs.ServerLines.{rule-unread}
use Rattle.ca_world_script.proofs.servers.with_rule.Goals as goal

pub returns-in_err-rule-clause-err : goal.returns-in_err-rule-clause-err
returns-in_err-rule-clause-err c =
    handed-on c.from_residual.result c.in_err-rule.field-0.0 (λ (e : Refusal). Refuses (TakesRule c.args.server (codes "rule" ∷ c.args.words)) e) c.from_residual.ensures.1
    (rule-unread c.args.server c.args.words c.in_err-rule.field-0.0 c.in_err-rule.ensures.err)
