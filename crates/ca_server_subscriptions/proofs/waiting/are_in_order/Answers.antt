use Rattle.std.proofs.Common.{◌-◌, ◌<◌, ℕ, length, refl, sym, subst, arith}
use Rattle.std.proofs.lemmas.Bool.{ltb-true}
use Rattle.ca_server_subscriptions.proofs.Receivers.{index-at}
use Rattle.ca_server_subscriptions.proofs.Posts.{InOrderFrom, order-all, order-next, order-none}
use Rattle.ca_server_subscriptions.proofs.waiting.are_in_order.Goals as goal

pub checking-init : goal.checking-init
checking-init c = order-none c.args.receivers.now (length c.args.receivers.now) 18446744073709551615 refl

pub checking-preserved : goal.checking-preserved
checking-preserved c =
    let left = c.checking.left in
    let some = c.checking-test.true in
    let r = c.in-Some.receiver.now in
    let is = c.in-Some.ensures.lookup in
    let within : left - 1 < length c.args.receivers.now = ltb-true (left - 1) (length c.args.receivers.now) (sym is.0) in
    let le = c.if-queue-least.false in
    let queue = c.queue-queue.ensures in
    subst (λ (n : ℕ). InOrderFrom c.args.receivers.now (left - 1) n) (sym queue)
    (order-next c.args.receivers.now left (left - 1) c.checking.least r (omega (arith, some)) (index-at c.args.receivers.now (left - 1) r within is.1) (omega (arith, le, queue)) c.checking.invariant)

pub returns : goal.returns
returns c is = (let none = c.checking-test.false in order-all c.args.receivers.now c.checking.left c.checking.least (omega (arith, none)) c.checking.invariant)
