use Rattle.std.proofs.Common.{◌∙◌, sym, rules}
use Rattle.std.specs.Prelude.{codes}
use Rattle.ca_text.specs.declared.refusal.Refusal.{Refusal}
use Rattle.ca_script.specs.Grammar.{Refuses, parted}
use Rattle.ca_script.proofs.Leading.{kind-refused}
use Rattle.ca_script.proofs.Sayings.{handed-on}
use Rattle.ca_world_script.specs.Servers.{TakesLine, TakesRecord, TakesRule}
use Rattle.ca_world_script.proofs.ServerLines.{line-unread, of-record, of-rule}
use Rattle.ca_world_script.proofs.servers.with_line.Goals as goal

pub returns-in_err-first-clause-err : goal.returns-in_err-first-clause-err
returns-in_err-first-clause-err c =
    handed-on c.from_residual.result c.in_err-first.field-0.0 (λ (e : Refusal). Refuses (TakesLine c.args.server (parted 32 c.args.line.now)) e) c.from_residual.ensures.1
    (line-unread c.args.server (parted 32 c.args.line.now) c.in_err-first.field-0.0 (c.in_err-first.ensures.err.0, λ w ws e long. c.in_err-first.ensures.err.1 w ws (c.new-words.ensures ∙ e) long))

pub returns-then-is_word-clause-err : goal.returns-then-is_word-clause-err
returns-then-is_word-clause-err c =
    kind-refused TakesLine TakesRecord (codes "record") of-record c.with_record.result c.args.server (parted 32 c.args.line.now) _ c.in_ok-first.first.now (sym c.new-words.ensures ∙ c.in_ok-first.ensures.ok.0) (search rules) c.with_record.ensures.err

pub returns-then-is_word-2-clause-err : goal.returns-then-is_word-2-clause-err
returns-then-is_word-2-clause-err c =
    kind-refused TakesLine TakesRule (codes "rule") of-rule c.with_rule.result c.args.server (parted 32 c.args.line.now) _ c.in_ok-first.first.now (sym c.new-words.ensures ∙ c.in_ok-first.ensures.ok.0) (search rules) c.with_rule.ensures.err
