use Rattle.std.proofs.Common.{not, rules}
use Rattle.std.proofs.lemmas.Fn.{filter_same}
use Rattle.ca_queue.specs.Keys.{same}
use Rattle.ca_server_subscriptions.proofs.waiting.forget.Goals as goal

pub returns : goal.returns
returns c = filter_same _ (λ a. not (same c.args.key a.key)) _ (λ x b f' k. search rules) _ _ c.retain.ensures.filtered
