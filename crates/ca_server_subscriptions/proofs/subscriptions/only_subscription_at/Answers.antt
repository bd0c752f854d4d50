use Rattle.std.proofs.Common.{sym, ◌∙◌}
use Rattle.ca_server_subscriptions.proofs.Placing.{Entry}
use Rattle.ca_server_subscriptions.proofs.Receivers.{only_one-on}
use Rattle.ca_server_subscriptions.proofs.subscriptions.only_subscription_at.Goals as goal

pub returns : goal.returns
returns c =
    let e : Entry = (c.in-Some.field-0-0.now, c.in-Some.standing.now) in (
      e.0,
      only_one-on c.args.only_one c.args.name.now c.args.standing.now.entries c.in_ok-place.place e c.requires c.in_ok-place.was (sym c.in-Some.ensures.entry) (sym c.is_on.ensures ∙ c.if-not-is_on.false),
      c.in-Some.ensures.value,
    )
