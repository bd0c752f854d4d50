use Rattle.std.proofs.Common.{◌≡◌, length, ap, ◌∙◌, arith}
use Rattle.ca_queue.specs.Keys.{same}
use Rattle.ca_server_subscriptions.specs.Subscribed.{Subscribed, is_of_sid, without_those}
use Rattle.ca_server_subscriptions.proofs.Dropping.{fewer, those-less, those-out}
use Rattle.ca_server_subscriptions.proofs.subscriptions.Subscriptions.clear.Goals as goal

pub clearing-smaller : goal.clearing-smaller
clearing-smaller c =
    let less = fewer c.in-Some.key c.clearing.self c.in-Some.ensures.1 in
    let left : length c.cancel.new.self.subscriptions ≡ length (without_those (same c.in-Some.key) c.clearing.self).subscriptions = ap (λ (s : Subscribed). length s.subscriptions) c.cancel.ensures in
    omega (arith, less, left)

pub clearing-preserved : goal.clearing-preserved
clearing-preserved c =
    ap (without_those (is_of_sid c.args.sid)) c.cancel.ensures ∙ those-less (is_of_sid c.args.sid) c.in-Some.key c.clearing.self c.in-Some.ensures.0 ∙ c.clearing.invariant

pub returns : goal.returns
returns c = those-out (is_of_sid c.args.sid) c.args.self.now c.clearing.self c.clearing.invariant c.in_default.ensures c.know.ensures.known
