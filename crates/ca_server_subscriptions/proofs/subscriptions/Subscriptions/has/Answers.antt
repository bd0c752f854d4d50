use Rattle.std.proofs.Common.{List, sym, ap, ◌∙◌}
use Rattle.ca_queue.specs.declared.entry.SubKey.{SubKey}
use Rattle.ca_queue.specs.Keys.{is_among}
use Rattle.ca_server_subscriptions.specs.Subscribed.{Subscribed, has_key}
use Rattle.ca_server_subscriptions.proofs.Placing.{held, keys-of}
use Rattle.ca_server_subscriptions.proofs.subscriptions.Subscriptions.has.Goals as goal

pub returns : goal.returns
returns c =
    let es = c.self.inside.standing.entries in
    let k = c.args.key in
    c.contains_key.ensures ∙ held k es
    ∙ ap (λ (ks : List SubKey). is_among k ks) (sym (keys-of es c.self.invariant.0.keyed))
    ∙ ap (λ (s : Subscribed). has_key k s) c.self.view_is
