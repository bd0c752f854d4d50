use Rattle.std.proofs.Common.{ℕ, sym, subst}
use Rattle.ca_server_core.proofs.Posted.{same-error}
use Rattle.ca_model.specs.History.{Collected}
use Rattle.ca_world_data.specs.declared.client.ClientSide.{ClientSide}
use Rattle.ca_world_data.specs.Handing.{HandsOver}
use Rattle.ca_world_data.specs.Logs.{lines_in}
use Rattle.ca_world_data.specs.Seen.{client_of}
use Rattle.ca_world.proofs.Collecting.{hands-ready, hands-unasked}
use Rattle.ca_world.proofs.collect.collect_from.Goals as goal

pub returns-in_err-place : goal.returns-in_err-place
returns-in_err-place c =
    let n : ℕ = c.args.request in
    let x : ClientSide = c.args.side.now in
    subst (λ r. HandsOver n (Collected n) (client_of x) (lines_in c.args.logs.now.items) r (lines_in c.prepare_handing.new.logs.items))
    (sym (same-error c.from_residual.result c.in_err-place.field-0.0 c.from_residual.ensures.1))
    (hands-unasked n (Collected n) x (lines_in c.args.logs.now.items) (lines_in c.prepare_handing.new.logs.items) c.in_err-place.field-0.0 c.in_err-place.ensures.ready c.prepare_handing.ensures.logs)

pub returns : goal.returns
returns c =
    hands-ready c.args.request (Collected c.args.request) c.args.side.now (lines_in c.args.logs.now.items) c.prepare_handing.new.logs.items c.in_ok-place.place tt (lines_in c.push_line.new.logs.items)
    c.in_ok-place.ensures.ready c.prepare_handing.ensures.logs c.push_line.ensures
