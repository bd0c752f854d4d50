use Rattle.std.proofs.Common.{map, not, rules}
use Rattle.std.proofs.lemmas.Fn.{filter_same}
use Rattle.ca_world_data.specs.declared.server.PutPlace.{PutPlace}
use Rattle.ca_world_data.specs.EndsWith.{gone_with}
use Rattle.ca_world_data.specs.Seen.{joined_of}
use Rattle.ca_world_data.proofs.reporting.withdraw_from.Goals as goal

pub returns : goal.returns
returns c = filter_same _ (λ (p : PutPlace). not (gone_with c.args.closed c.args.server c.args.core.now (map joined_of c.args.circuits.now) p.circuit)) _ (λ x b f' k. search rules) _ _ c.retain.ensures.filtered
