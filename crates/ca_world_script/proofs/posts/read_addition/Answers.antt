use Rattle.ca_text.specs.declared.refusal.Refusal.{Refusal}
use Rattle.ca_script.specs.Grammar.{Refuses}
use Rattle.ca_script.proofs.Sayings.{handed-on}
use Rattle.ca_world_script.proofs.EventRefusals.{SaysAddition, addition-unpaced, addition-untyped}
use Rattle.ca_world_script.proofs.posts.read_addition.Goals as goal

pub returns-in_err-word-clause-err : goal.returns-in_err-word-clause-err
returns-in_err-word-clause-err c =
    handed-on c.from_residual-in_err-word.result c.in_err-word.field-0.0 (λ (e : Refusal). Refuses (SaysAddition c.args.words) e) c.from_residual-in_err-word.ensures.1
    (addition-untyped c.args.words _ _ _ _ _ c.in_ok-server.ensures.ok.1 c.in_ok-name.ensures.ok.0 c.in_err-word.ensures.err)

pub returns-in_err-word-2-clause-err : goal.returns-in_err-word-2-clause-err
returns-in_err-word-2-clause-err c =
    handed-on c.from_residual-in_err-word-2.result c.in_err-word-2.field-0.0 (λ (e : Refusal). Refuses (SaysAddition c.args.words) e) c.from_residual-in_err-word-2.ensures.1
    (addition-unpaced c.args.words _ _ _ _ _ _ _ _ _ c.in_ok-server.ensures.ok.1 c.in_ok-name.ensures.ok.0 c.in_ok-word.ensures.ok.0 c.in_ok-count.ensures.ok.1 c.in_err-word-2.ensures.err)
