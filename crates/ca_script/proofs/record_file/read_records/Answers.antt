use Rattle.std.proofs.Common.{◌≡◌, ◌<◌, ℕ, Bor, List, length, refl, ap, arith, rules}
use Rattle.ca_text.specs.declared.refusal.Refusal.{Refusal}
use Rattle.ca_script.specs.Grammar.{Refuses}
use Rattle.ca_script.specs.RecordFiles.{SaysFile, TakesLine, file_reading, no_lines}
use Rattle.ca_script.proofs.FileLines.{SameNames, goes-line, same-names}
use Rattle.ca_script.proofs.Heads.{on_err, empty-of, lines-begin, lines-next}
use Rattle.ca_script.proofs.Leading.{follows-left, lead-refused, leads-here, leads-on}
use Rattle.ca_script.proofs.Sayings.{handed-on}
use Rattle.ca_script.proofs.record_file.read_records.Goals as goal

pub loop-left-preserved : goal.loop-left-preserved
loop-left-preserved c =
    let long : 0 < length c.loop-left.left.now = search rules in
    let next = lines-next c.loop-left.left.now c.cut.result.0.now c.unwrap_or-left.result.now c.cut.result.1 _ (λ e. absurd (omega (arith, long, ap (λ (xs : List ℕ). length xs) e))) c.cut.ensures.pieces (ap (λ (b : Bor (List ℕ)). b.now) c.unwrap_or-left.ensures) refl in
    record {
      leads = λ final h. c.loop-left.invariant.leads final (leads-on TakesLine (file_reading c.loop-left.file) (file_reading c.read_line.new.file) final c.cut.result.0.now c.loop-left.left.now c.unwrap_or-left.result.now next c.in_ok-read_line.ensures.ok h);
      follows = λ final h. let rest = c.loop-left.invariant.follows final h in follows-left TakesLine SameNames goes-line same-names (file_reading c.loop-left.file) (file_reading c.read_line.new.file) rest.0 c.cut.result.0.now c.loop-left.left.now c.unwrap_or-left.result.now next c.in_ok-read_line.ensures.ok rest.1;
      some = λ _. c.loop-left.invariant.some long;
    }

pub returns-clause-says : goal.returns-clause-says
returns-clause-says c =
    let none : length c.loop-left.left.now ≡ 0 = search rules in
    c.loop-left.invariant.leads (file_reading c.loop-left.file) (leads-here TakesLine (file_reading c.loop-left.file) c.loop-left.left.now (empty-of c.loop-left.left.now none))

pub returns-in_err-read_line-clause-err : goal.returns-in_err-read_line-clause-err
returns-in_err-read_line-clause-err c =
    let long : 0 < length c.loop-left.left.now = search rules in
    let next = lines-begin c.loop-left.left.now c.cut.result.0.now c.cut.result.1 (λ e. absurd (omega (arith, long, ap (λ (xs : List ℕ). length xs) e))) c.cut.ensures.pieces in
    handed-on c.from_residual.result c.in_err-read_line.field-0.0 (λ (e : Refusal). Refuses (SaysFile c.args.text.now) e) c.from_residual.ensures.1
    (lead-refused TakesLine (file_reading c.loop-left.file) no_lines c.cut.result.0.now c.args.text.now c.loop-left.left.now next.0 c.in_err-read_line.field-0.0 next.1 c.loop-left.invariant.follows c.in_err-read_line.ensures.err)

pub returns-in_err-read_line-clause-some : goal.returns-in_err-read_line-clause-some
returns-in_err-read_line-clause-some c =
    let long : 0 < length c.loop-left.left.now = search rules in
    on_err c.from_residual.result (λ none. let some = c.loop-left.invariant.some long in absurd (omega arith))
