use Rattle.std.proofs.Common.{◌≡◌, rules, true}
use Rattle.ca_client_core.specs.Moments.{is_echo_due}
use Rattle.ca_client_core.proofs.Rounds.{echo-now, undone-echo, undone-still}
use Rattle.ca_client_core.proofs.client.ClientCore.echo_on.Goals as goal

pub returns-in_err-echo-clause-kept : goal.returns-in_err-echo-clause-kept
returns-in_err-echo-clause-kept c =
    undone-still c.args.marks.now.items c.push.new.self.items c.args.self.now c.echo.new.self c.args.circuit c.mark.result c.in_ok-push.ensures.items c.mark.ensures c.in_err-echo.ensures.err

pub returns-clause-kept : goal.returns-clause-kept
returns-clause-kept c =
    undone-echo c.args.marks.now.items c.push.new.self.items c.args.self.now c.echo.new.self c.args.circuit c.mark.result c.in_ok-push.ensures.items c.mark.ensures c.in_ok-echo.ensures.ok

pub returns-clause-ok : goal.returns-clause-ok
returns-clause-ok c t is =
    let due : is_echo_due c.args.self.now c.args.circuit ≡ true = search rules in
    echo-now c.args.self.now c.echo.new.self c.args.circuit t due c.in_ok-echo.ensures.ok is
