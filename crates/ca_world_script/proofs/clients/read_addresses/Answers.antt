use Rattle.std.proofs.Common.{◌≡◌, ℕ, List, [], rules}
use Rattle.ca_text.specs.declared.refusal.Refusal.{Refusal}
use Rattle.ca_script.specs.Grammar.{Refuses}
use Rattle.ca_script.specs.Lines.{AreEach}
use Rattle.ca_script.proofs.ElementRefusals.{none-first, none-some}
use Rattle.ca_script.proofs.Heads.{each-done}
use Rattle.ca_script.proofs.Sayings.{handed-on}
use Rattle.ca_world_script.specs.Lines.{IsAddress}
use Rattle.ca_world_script.proofs.Eaches.{each-left, each-on}
use Rattle.ca_world_script.proofs.clients.read_addresses.Goals as goal

pub returns-clause-ok : goal.returns-clause-ok
returns-clause-ok c =
    let empty : ◌≡◌ {A = List (List ℕ)} c.loop-words.words [] = search rules in
    each-done IsAddress c.args.words c.loop-words.words c.loop-words.items.items c.loop-words.invariant.reads empty

pub returns-in_err-word-clause-err : goal.returns-in_err-word-clause-err
returns-in_err-word-clause-err c =
    let some : ◌≡◌ {A = List (List ℕ)} c.loop-words.words [] → ⊥ = search rules in
    handed-on c.from_residual.result c.in_err-word.field-0.0 (λ (e : Refusal). Refuses (AreEach IsAddress c.args.words) e) c.from_residual.ensures.1
    (none-some IsAddress c.args.words c.loop-words.words c.in_err-word.field-0.0 some c.loop-words.invariant.leaves c.in_err-word.ensures.err)

pub returns-in_err-read_address-clause-err : goal.returns-in_err-read_address-clause-err
returns-in_err-read_address-clause-err c =
    handed-on c.from_residual-in_err-read_address.result c.in_err-read_address.field-0.0 (λ (e : Refusal). Refuses (AreEach IsAddress c.args.words) e) c.from_residual-in_err-read_address.ensures.1
    (none-first IsAddress c.args.words c.loop-words.words c.word.new.self c.in_ok-word.field-0.now c.in_err-read_address.field-0.0 c.in_ok-word.ensures.ok.0 c.loop-words.invariant.leaves c.in_err-read_address.ensures.err)

pub loop-words-preserved : goal.loop-words-preserved
loop-words-preserved c =
    let i = c.loop-words.invariant in
    record {
      reads = each-on IsAddress c.args.words c.loop-words.words c.word.new.self c.in_ok-word.field-0.now c.in_ok-read_address.field-0 c.loop-words.items.items c.push.new.self.items c.in_ok-word.ensures.ok.0 c.in_ok-word.ensures.ok.1 c.in_ok-read_address.ensures.ok c.in_ok-push.ensures.items i.reads;
      leaves = each-left IsAddress c.args.words c.loop-words.words c.word.new.self c.in_ok-word.field-0.now c.in_ok-word.ensures.ok.0 i.leaves;
    }
