use Rattle.std.proofs.Common.{◌==◌, not, rules}
use Rattle.std.proofs.lemmas.Fn.{filter_same}
use Rattle.ca_world_data.specs.declared.server.PutPlace.{PutPlace}
use Rattle.ca_world_data.proofs.withdrawing.withdraw_from.Goals as goal

pub returns : goal.returns
returns c = filter_same _ (λ (p : PutPlace). not (p.circuit == c.args.circuit)) _ (λ x b f' k. search rules) _ _ c.retain.ensures.filtered
