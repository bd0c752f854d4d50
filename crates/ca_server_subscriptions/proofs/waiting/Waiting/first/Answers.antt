use Rattle.std.proofs.Common.{◌<◌, arith, length, refl}
use Rattle.ca_server_subscriptions.proofs.Owing.{owed-next}
use Rattle.ca_server_subscriptions.proofs.Receivers.{index-at}
use Rattle.ca_server_subscriptions.proofs.waiting.Waiting.first.Goals as goal

pub returns : goal.returns
returns c =
    let i = c.self.inside in
    let some = c.in_ok-first.ensures.variant.0 refl in
    let all = i.owed.ok.0 in
    let within : 0 < length i.owed.items = omega (arith, some, all) in
    owed-next i.events_on i.empty i.owed.items c.in_ok-first.first.now i.update i.queues c.args.self.now c.self.invariant c.if-not-self.false
    (index-at i.owed.items 0 c.in_ok-first.first.now within c.in_ok-first.ensures.lookup) c.self.view_is
