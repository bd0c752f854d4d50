use Rattle.std.proofs.Common.{◌≡◌, rules}
use Rattle.ca_text.specs.declared.refusal.Refusal.{Refusal}
use Rattle.ca_script.specs.Grammar.{Refuses}
use Rattle.ca_script.specs.Lines.{SaysRecord}
use Rattle.ca_dbr.specs.Elements.{elements}
use Rattle.ca_script.proofs.LineRefusals.{no-pace, no-type, record-unfit}
use Rattle.ca_script.proofs.Refusals.{says-none}
use Rattle.ca_script.proofs.Sayings.{handed-on}
use Rattle.ca_script.proofs.lines.read_record.Goals as goal

pub returns-in_err-word-clause-err : goal.returns-in_err-word-clause-err
returns-in_err-word-clause-err c =
    let why = c.in_err-word.ensures.err in
    handed-on c.from_residual-in_err-word.result c.in_err-word.field-0.0 (λ (e : Refusal). Refuses (SaysRecord c.args.words c.args.records.now) e) c.from_residual-in_err-word.ensures.1
    (says-none (SaysRecord c.args.words c.args.records.now) _ why.0 (no-type c.args.words _ c.args.records.now _ c.in_ok-name.ensures.ok.0 why.1))

pub returns-in_err-word-2-clause-err : goal.returns-in_err-word-2-clause-err
returns-in_err-word-2-clause-err c =
    let why = c.in_err-word-2.ensures.err in
    handed-on c.from_residual-in_err-word-2.result c.in_err-word-2.field-0.0 (λ (e : Refusal). Refuses (SaysRecord c.args.words c.args.records.now) e) c.from_residual-in_err-word-2.ensures.1
    (says-none (SaysRecord c.args.words c.args.records.now) _ why.0
    (no-pace c.args.words _ _ _ c.args.records.now _ _ _ c.in_ok-name.ensures.ok.0 c.in_ok-word.ensures.ok.0 c.in_ok-count.ensures.ok.1 why.1))

pub returns-in_default-refusal : goal.returns-in_default-refusal
returns-in_default-refusal c =
    let same : c.in-Ok.count ≡ c.in_ok-count.count = search rules in
    record {
      ok = tt;
      err = record-unfit c.args.words _ _ _ _ c.args.records.now c.define.new.self c.in_ok-name.name.now _ _ _ c.in-Ok.count c.in_ok-slow.slow (elements c.in_ok-value.value) c.in-Err.refusal c.in_ok-name.ensures.ok.0 c.in_ok-word.ensures.ok.0 c.in_ok-count.ensures.ok same c.in_ok-word-2.ensures.ok.0 c.in_ok-value.ensures.ok c.in_default-refusal.not-OutOfMemory c.in-Err.ensures;
    }
