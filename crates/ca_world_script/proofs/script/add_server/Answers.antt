use Rattle.std.proofs.Common.{◌≡◌, true, ◌∷◌, rules}
use Rattle.std.specs.Prelude.{codes}
use Rattle.ca_text.specs.declared.refusal.Refusal.{Refusal}
use Rattle.ca_script.specs.Grammar.{Refuses}
use Rattle.ca_script.proofs.Sayings.{handed-on}
use Rattle.ca_world_data.specs.Settings.{is_taken}
use Rattle.ca_world_script.specs.Scripts.{AddsServer, reading}
use Rattle.ca_world_script.proofs.ServerLines.{server-taken, server-unread}
use Rattle.ca_world_script.proofs.script.add_server.Goals as goal

pub returns-in_err-host-clause-err : goal.returns-in_err-host-clause-err
returns-in_err-host-clause-err c = λ added.
    handed-on c.from_residual.result c.in_err-host.field-0.0 (λ (e : Refusal). Refuses (AddsServer (reading c.args.script.now added) (codes "server" ∷ c.args.words)) e) c.from_residual.ensures.1
    (server-unread (reading c.args.script.now added) c.args.words c.in_err-host.field-0.0 c.in_err-host.ensures.err)

pub returns-then-has_address-clause-err : goal.returns-then-has_address-clause-err
returns-then-has_address-clause-err c = λ added.
    let taken : is_taken (record { host = c.in_ok-host.host; port = c.in_ok-host.port }) c.args.script.now.servers.items ≡ true = search rules in
    server-taken (reading c.args.script.now added) c.args.words (record { host = c.in_ok-host.host; port = c.in_ok-host.port }) c.in_ok-host.ensures.ok taken
