use Rattle.std.proofs.Common.{sym, ap, ◌∙◌}
use Rattle.ca_server_subscriptions.specs.ByChannel.{Ids}
use Rattle.ca_server_subscriptions.proofs.by_channel.ByChannel.take_out.Goals as goal

pub returns-clause-gone : goal.returns-clause-gone
returns-clause-gone c none = c.drop_if_empty.ensures.gone (ap (λ (ids : Ids). ids c.args.key.sid) (sym c.drop_if_empty.ensures.stay) ∙ none)
