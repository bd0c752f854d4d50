use Rattle.std.proofs.Common.{rules, not}
use Rattle.std.proofs.lemmas.Fn.{filter_same}
use Rattle.ca_queue.specs.Waiting.{is_of}
use Rattle.ca_queue.proofs.places.drop_entries.Goals as goal

pub returns-clause-items : goal.returns-clause-items
returns-clause-items g c =
    filter_same _ (λ w. not (is_of c.args.key w)) _ (λ x b f' k. search rules) _ _ c.retain.ensures.filtered
