use Rattle.ca_text.specs.declared.refusal.Refusal.{Refusal}
use Rattle.ca_script.specs.Grammar.{Refuses}
use Rattle.ca_script.proofs.Sayings.{handed-on}
use Rattle.ca_world_script.specs.Events.{SaysSubscribe}
use Rattle.ca_world_script.proofs.EventRefusals.{subscribe-masked, subscribe-uncounted}
use Rattle.ca_world_script.proofs.events.read_subscribe.Goals as goal

pub returns-in_err-client-clause-err : goal.returns-in_err-client-clause-err
returns-in_err-client-clause-err c =
    handed-on c.from_residual.result c.in_err-client.field-0.0 (λ (e : Refusal). Refuses (SaysSubscribe c.args.words) e) c.from_residual.ensures.1
    (subscribe-uncounted c.args.words _ c.in_err-client.ensures.err)

pub returns-in_err-mask-clause-err : goal.returns-in_err-mask-clause-err
returns-in_err-mask-clause-err c =
    handed-on c.from_residual-in_err-mask.result c.in_err-mask.field-0.0 (λ (e : Refusal). Refuses (SaysSubscribe c.args.words) e) c.from_residual-in_err-mask.ensures.1
    (subscribe-masked c.args.words _ _ _ _ _ _ _ c.in_ok-client.ensures.ok.1 c.in_ok-channel.ensures.ok c.in_err-mask.ensures.err)
