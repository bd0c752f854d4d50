use Rattle.std.proofs.Common.{sym}
use Rattle.ca_server_subscriptions.proofs.Waits.{gives-found, gives-none, gives-unfound}
use Rattle.ca_server_subscriptions.proofs.subscriptions.Subscriptions.update_at.Goals as goal

pub returns-in_err-key-clause-gives : goal.returns-in_err-key-clause-gives
returns-in_err-key-clause-gives c =
    let i = c.self.inside in
    rw c.from_residual.ensures (gives-none i.standing.entries i.queues c.self.invariant.0 c.args.self.now c.self.view_is c.args.place c.args.index c.in_err-key.ensures)

pub returns-in_err-standing-clause-gives : goal.returns-in_err-standing-clause-gives
returns-in_err-standing-clause-gives c =
    let i = c.self.inside in
    rw c.from_residual-in_err-standing.ensures
    (gives-unfound i.standing.entries i.queues c.self.invariant.0 c.args.self.now c.self.view_is c.args.place c.args.index (c.in_ok-key.key, c.in_ok-key.update.now) c.in_ok-key.ensures (sym c.in_err-standing.ensures.value))

pub returns-clause-gives : goal.returns-clause-gives
returns-clause-gives c =
    let i = c.self.inside in
    gives-found i.standing.entries i.queues c.self.invariant.0 c.args.self.now c.self.view_is c.args.place c.args.index (c.in_ok-key.key, c.in_ok-key.update.now) c.in_ok-key.ensures
    c.in_ok-standing.standing.now c.wanted.result (sym c.in_ok-standing.ensures.value) c.wanted.ensures.wanted
