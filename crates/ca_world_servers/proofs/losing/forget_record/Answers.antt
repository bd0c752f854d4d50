use Rattle.std.proofs.Common.{not, rules, ◌∙◌, ap, map}
use Rattle.std.specs.Str.{bytes_eq}
use Rattle.std.proofs.lemmas.Fn.{filter_same}
use Rattle.ca_world_data.specs.declared.server.RecordSide.{RecordSide}
use Rattle.ca_world_data.specs.Seen.{record_of}
use Rattle.ca_world_servers.proofs.Losings.{records-left}
use Rattle.ca_world_servers.proofs.losing.forget_record.Goals as goal

pub returns : goal.returns
returns c =
    ap (map record_of) (filter_same _ (λ (r : RecordSide). not (bytes_eq r.name.items c.args.name.now)) _ (λ x b f' k. search rules) _ _ c.retain.ensures.filtered)
    ∙ records-left c.args.name.now c.args.records.now.items
