use Rattle.ca_text.specs.declared.refusal.Refusal.{Refusal}
use Rattle.ca_script.specs.Grammar.{Refuses}
use Rattle.ca_script.proofs.Sayings.{handed-on}
use Rattle.ca_world_script.specs.Lines.{SaysClient}
use Rattle.ca_world_script.proofs.ClientRefusals.{client-said, client-unfit, client-unread}
use Rattle.ca_world_script.proofs.clients.read_client.Goals as goal

pub returns-in_err-name_servers-clause-err : goal.returns-in_err-name_servers-clause-err
returns-in_err-name_servers-clause-err c =
    handed-on c.from_residual-in_err-name_servers.result c.in_err-name_servers.field-0.0 (λ (e : Refusal). Refuses (SaysClient c.args.words) e) c.from_residual-in_err-name_servers.ensures.1
    (client-unread c.args.words _ _ _ _ c.in_err-name_servers.field-0.0 c.in_ok-user.ensures.ok.0 c.in_ok-host.ensures.ok.0 c.in_err-name_servers.ensures.err)

pub returns-in-Ok-clause-ok : goal.returns-in-Ok-clause-ok
returns-in-Ok-clause-ok c =
    client-said c.args.words _ _ _ _ c.in_ok-user-2.user.items c.in_ok-host-2.host.items c.in_ok-name_servers.name_servers.items c.in-Ok.client c.in_ok-user.ensures.ok c.in_ok-host.ensures.ok c.in_ok-name_servers.ensures.ok c.in_ok-user-2.ensures.items c.in_ok-host-2.ensures.items c.in-Ok.ensures

pub returns-in-Err-clause-err : goal.returns-in-Err-clause-err
returns-in-Err-clause-err c =
    client-unfit c.args.words _ _ _ _ c.in_ok-user-2.user.items c.in_ok-host-2.host.items c.in_ok-name_servers.name_servers.items c.in-Err.field-0 c.in_ok-user.ensures.ok.0 c.in_ok-host.ensures.ok.0 c.in_ok-name_servers.ensures.ok c.in_ok-user-2.ensures.items c.in_ok-host-2.ensures.items c.in-Err.ensures
