use Rattle.std.proofs.Common.{◌≡◌, List, length, sym, ap, ◌∙◌}
use Rattle.ca_server_subscriptions.specs.ByRecord.{Receiver}
use Rattle.ca_server_subscriptions.proofs.Placing.{Entry}
use Rattle.ca_server_subscriptions.proofs.Receivers.{only_one-found}
use Rattle.ca_server_subscriptions.proofs.subscriptions.only_place.Goals as goal

pub returns : goal.returns
returns c =
    let e : Entry = (c.in-Some.field-0-0.now, c.in-Some.standing.now) in
    let one : length c.args.receivers.now ≡ 1 = c.if-receivers-ne1.false in
    only_one-found c.args.name.now c.args.standing.now.entries c.args.place e (sym c.in-Some.ensures.entry) (sym c.is_on.ensures ∙ c.if-not-is_on.false)
    (sym (ap (λ (rs : List Receiver). length rs) c.requires) ∙ one)
