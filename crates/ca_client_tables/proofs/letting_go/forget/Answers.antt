use Rattle.std.proofs.Common.{not, rules}
use Rattle.std.proofs.lemmas.Fn.{filter_same}
use Rattle.ca_arena.specs.declared.handle.Handle.{Handle}
use Rattle.ca_ids.specs.Table.{same_handle}
use Rattle.ca_client_tables.proofs.letting_go.forget.Goals as goal

pub returns : goal.returns
returns c = filter_same _ (λ (d : Handle). not (same_handle d c.args.circuit)) _ (λ x b f' k. search rules) _ _ c.retain.ensures.filtered
