use Rattle.std.proofs.Common.{◌∙◌, sym, rules, refl}
use Rattle.ca_text.specs.declared.refusal.Refusal.{Refusal}
use Rattle.ca_script.specs.Grammar.{Refuses, parted}
use Rattle.ca_script.specs.RecordFiles.{TakesLine, file_reading}
use Rattle.ca_script.proofs.FileLines.{file-line-refused, record-refused, record-taken, rule-refused}
use Rattle.ca_script.proofs.Sayings.{handed-on}
use Rattle.ca_script.proofs.record_file.read_line.Goals as goal

pub returns-in_err-first-clause-err : goal.returns-in_err-first-clause-err
returns-in_err-first-clause-err c =
    handed-on c.from_residual.result c.in_err-first.field-0.0 (λ (e : Refusal). Refuses (TakesLine (file_reading c.args.file.now) (parted 32 c.args.line.now)) e) c.from_residual.ensures.1
    (file-line-refused (file_reading c.args.file.now) (parted 32 c.args.line.now) c.in_err-first.field-0.0 (c.in_err-first.ensures.err.0, λ w ws e long. c.in_err-first.ensures.err.1 w ws (c.new-words.ensures ∙ e) long))

pub returns-then-is_word-clause-ok : goal.returns-then-is_word-clause-ok
returns-then-is_word-clause-ok c =
    record-taken c.read_record.result (file_reading c.args.file.now) _ (parted 32 c.args.line.now) _ c.in_ok-first.first.now (sym c.new-words.ensures ∙ c.in_ok-first.ensures.ok.0) (search rules) refl c.read_record.ensures.ok

pub returns-then-is_word-clause-err : goal.returns-then-is_word-clause-err
returns-then-is_word-clause-err c =
    record-refused c.read_record.result (file_reading c.args.file.now) (parted 32 c.args.line.now) _ c.in_ok-first.first.now (sym c.new-words.ensures ∙ c.in_ok-first.ensures.ok.0) (search rules) c.read_record.ensures.err

pub returns-in_err-rule-clause-err : goal.returns-in_err-rule-clause-err
returns-in_err-rule-clause-err c =
    handed-on c.from_residual-in_err-rule.result c.in_err-rule.field-0.0 (λ (e : Refusal). Refuses (TakesLine (file_reading c.args.file.now) (parted 32 c.args.line.now)) e) c.from_residual-in_err-rule.ensures.1
    (rule-refused (file_reading c.args.file.now) (parted 32 c.args.line.now) _ c.in_ok-first.first.now c.in_err-rule.field-0.0 (sym c.new-words.ensures ∙ c.in_ok-first.ensures.ok.0) (search rules) c.in_err-rule.ensures.err)
