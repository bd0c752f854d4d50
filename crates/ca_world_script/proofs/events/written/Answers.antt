use Rattle.ca_text.specs.declared.refusal.Refusal.{Refusal}
use Rattle.ca_script.specs.Grammar.{Refuses}
use Rattle.ca_script.proofs.Refusals.{says-none}
use Rattle.ca_script.proofs.Sayings.{handed-on}
use Rattle.ca_world_script.specs.Events.{SaysWritten}
use Rattle.ca_world_script.proofs.EventRefusals.{written-unnumbered}
use Rattle.ca_world_script.proofs.ValueRefusals.{written-unread, written-untyped}
use Rattle.ca_world_script.proofs.events.written.Goals as goal

pub returns-in_err-base-clause-err : goal.returns-in_err-base-clause-err
returns-in_err-base-clause-err c =
    let why = c.in_err-base.ensures.err in
    handed-on c.from_residual-in_err-base.result c.in_err-base.field-0.0 (λ (e : Refusal). Refuses (SaysWritten c.args.words) e) c.from_residual-in_err-base.ensures.1
    (says-none (SaysWritten c.args.words) _ why.0
    (written-untyped c.args.words _ _ _ _ _ _ c.in_err-base.field-0.0 c.in_ok-client.ensures.ok c.in_ok-channel.ensures.ok c.in_ok-number.ensures.ok why.1))

pub returns-in_err-value-clause-err : goal.returns-in_err-value-clause-err
returns-in_err-value-clause-err c =
    handed-on c.from_residual-in_err-value.result c.in_err-value.field-0.0 (λ (e : Refusal). Refuses (SaysWritten c.args.words) e) c.from_residual-in_err-value.ensures.1
    (written-unread c.args.words _ _ _ _ _ _ c.in_ok-base.base c.in_err-value.field-0.0 c.in_ok-client.ensures.ok c.in_ok-channel.ensures.ok c.in_ok-number.ensures.ok c.in_ok-base.ensures.ok c.in_err-value.ensures.err)

pub returns-in_err-number-clause-err : goal.returns-in_err-number-clause-err
returns-in_err-number-clause-err c =
    handed-on c.from_residual-in_err-number.result c.in_err-number.field-0.0 (λ (e : Refusal). Refuses (SaysWritten c.args.words) e) c.from_residual-in_err-number.ensures.1
    (written-unnumbered c.args.words _ _ _ _ _ c.in_ok-client.ensures.ok.1 c.in_ok-channel.ensures.ok.1 c.in_err-number.ensures.err)
