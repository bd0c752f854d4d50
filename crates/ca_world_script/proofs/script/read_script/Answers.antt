use Rattle.std.proofs.Common.{◌≡◌, ◌<◌, ℕ, Bor, List, [], ◌∷◌, ◌++◌, length, refl, ap, arith, rules}
use Rattle.ca_text.specs.declared.refusal.Refusal.{Refusal}
use Rattle.ca_script.proofs.Heads.{on_err, empty-of, lines-begin, lines-next, lines-none}
use Rattle.ca_script.proofs.Sayings.{handed-on}
use Rattle.ca_world_script.specs.Scripts.{Adds, RefusesScript, nothing, reading}
use Rattle.ca_world_script.specs.Index.{added_of}
use Rattle.ca_world_script.proofs.Lasts.{lead-more, parts-done, parts-on, script-refused}
use Rattle.ca_world_script.proofs.script.read_script.Goals as goal

pub loop-left-init : goal.loop-left-init
loop-left-init c =
    record {
      above = [];
      split = refl;
      leads = λ i. record { clients = c.new.ensures.items i; servers = c.new-2.ensures.items i; events = c.new-3.ensures.items i; added = c.new-types.ensures i };
      some = λ h. h;
    }

pub loop-left-preserved : goal.loop-left-preserved
loop-left-preserved c =
    let i = c.loop-left.invariant in
    let long : 0 < length c.loop-left.left.now = search rules in
    let next = lines-next c.loop-left.left.now c.cut.result.0.now c.unwrap_or-left.result.now c.cut.result.1 _ (λ e. absurd (omega (arith, long, ap (λ (xs : List ℕ). length xs) e))) c.cut.ensures.pieces (ap (λ (b : Bor (List ℕ)). b.now) c.unwrap_or-left.ensures) refl in
    record {
      above = i.above ++ c.cut.result.0.now ∷ [];
      split = parts-on c.args.text.now c.loop-left.left.now c.unwrap_or-left.result.now c.cut.result.0.now i.above i.split next;
      leads = lead-more Adds nothing (reading c.loop-left.script (added_of c.loop-left.types)) (reading c.read_line.new.script (added_of c.read_line.new.types)) i.above c.cut.result.0.now i.leads c.in_ok-read_line.ensures.ok;
      some = λ _. i.some long;
    }

pub returns-clause-says : goal.returns-clause-says
returns-clause-says c =
    let i = c.loop-left.invariant in
    let none : length c.loop-left.left.now ≡ 0 = search rules in
    ((added_of c.loop-left.types), parts-done c.args.text.now c.loop-left.left.now i.above (reading c.loop-left.script (added_of c.loop-left.types)) i.split (lines-none c.loop-left.left.now (empty-of c.loop-left.left.now none)) i.leads)

pub returns-in_err-read_line-clause-err : goal.returns-in_err-read_line-clause-err
returns-in_err-read_line-clause-err c =
    let i = c.loop-left.invariant in
    let long : 0 < length c.loop-left.left.now = search rules in
    let next = lines-begin c.loop-left.left.now c.cut.result.0.now c.cut.result.1 (λ e. absurd (omega (arith, long, ap (λ (xs : List ℕ). length xs) e))) c.cut.ensures.pieces in
    handed-on c.from_residual.result c.in_err-read_line.field-0.0 (λ (e : Refusal). RefusesScript c.args.text.now e) c.from_residual.ensures.1
    (script-refused c.args.text.now c.loop-left.left.now c.cut.result.0.now i.above next.0 (reading c.loop-left.script (added_of c.loop-left.types)) c.in_err-read_line.field-0.0 i.split next.1 i.leads c.in_err-read_line.ensures.err)

pub returns-in_err-read_line-clause-some : goal.returns-in_err-read_line-clause-some
returns-in_err-read_line-clause-some c =
    let long : 0 < length c.loop-left.left.now = search rules in
    on_err c.from_residual.result (λ none. let some = c.loop-left.invariant.some long in absurd (omega arith))
