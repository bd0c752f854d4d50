use Rattle.ca_text.specs.declared.refusal.Refusal.{Refusal}
use Rattle.ca_script.specs.Grammar.{Refuses}
use Rattle.ca_script.proofs.Sayings.{handed-on}
use Rattle.ca_world_script.specs.Events.{SaysDatagram}
use Rattle.ca_world_script.proofs.EventRefusals.{datagram-undone, datagram-unended, datagram-unsent}
use Rattle.ca_world_script.proofs.datagrams.read_datagram.Goals as goal

pub returns-in_err-end-clause-err : goal.returns-in_err-end-clause-err
returns-in_err-end-clause-err c =
    handed-on c.from_residual.result c.in_err-end.field-0.0 (λ (e : Refusal). Refuses (SaysDatagram c.args.words) e) c.from_residual.ensures.1
    (datagram-unended c.args.words _ c.in_err-end.ensures.err)

pub returns-in_err-digits-clause-err : goal.returns-in_err-digits-clause-err
returns-in_err-digits-clause-err c =
    handed-on c.from_residual-in_err-digits.result c.in_err-digits.field-0.0 (λ (e : Refusal). Refuses (SaysDatagram c.args.words) e) c.from_residual-in_err-digits.ensures.1
    (datagram-undone c.args.words _ _ _ _ _ _ _ c.in_ok-end.ensures.ok.0 c.in_ok-number.ensures.ok.1 c.in_ok-sender.ensures.ok.0 c.in_err-digits.ensures.err)

pub returns-in_err-from-clause-err : goal.returns-in_err-from-clause-err
returns-in_err-from-clause-err c =
    handed-on c.from_residual-in_err-from.result c.in_err-from.field-0.0 (λ (e : Refusal). Refuses (SaysDatagram c.args.words) e) c.from_residual-in_err-from.ensures.1
    (datagram-unsent c.args.words _ _ _ _ _ _ _ c.in_ok-end.ensures.ok.0 c.in_ok-number.ensures.ok.1 c.in_ok-sender.ensures.ok.0 c.in_err-from.ensures.err)
