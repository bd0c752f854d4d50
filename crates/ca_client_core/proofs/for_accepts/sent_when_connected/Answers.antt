use Rattle.std.proofs.Common.{◌≢◌, []}
use Rattle.ca_client_core.specs.ForAccepts.{connecting_sent}
use Rattle.ca_client_core.proofs.Awaited.{connecting-some}
use Rattle.ca_client_core.proofs.Foretold.{on_err}
use Rattle.ca_client_core.proofs.for_accepts.sent_when_connected.Goals as goal

pub returns-in_err-list_set_up-clause-some : goal.returns-in_err-list_set_up-clause-some
returns-in_err-list_set_up-clause-some c =
    let some : connecting_sent c.args.core.now c.args.circuit ≢ [] = connecting-some c.args.core.now c.args.circuit c.in-Some.found.now c.in-Some.ensures in
    on_err c.from_residual.result some

pub returns-in_err-list_creations-clause-some : goal.returns-in_err-list_creations-clause-some
returns-in_err-list_creations-clause-some c =
    let some : connecting_sent c.args.core.now c.args.circuit ≢ [] = connecting-some c.args.core.now c.args.circuit c.in-Some.found.now c.in-Some.ensures in
    on_err c.from_residual-in_err-list_creations.result some
