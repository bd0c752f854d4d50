use Rattle.std.proofs.Common.{rules, not}
use Rattle.std.proofs.lemmas.Fn.{filter_same}
use Rattle.ca_queue.specs.Keys.{same}
use Rattle.ca_queue.proofs.lasts.retain_others.Goals as goal

pub returns-clause-items : goal.returns-clause-items
returns-clause-items c =
    filter_same _ (λ l. not (same c.args.key l.key)) _ (λ x b f' k. search rules) _ _ c.retain.ensures.filtered
