use Rattle.std.proofs.Common.{◌∙◌, ap}
use Rattle.ca_dbr.specs.Elements.{elements}
use Rattle.ca_dbr.specs.Types.{base_number}
use Rattle.ca_client_tables.proofs.Values.{makes-bytes}
use Rattle.ca_client_tables.proofs.valued.ElementsPayload.put.Goals as goal

pub returns : goal.returns
returns c =
    makes-bytes _ (elements c.args.self.now.value.now) _ c.args.out.now.items c.write_value.new.out.items c.write_value.result (c.number.ensures ∙ ap base_number c.base_type.ensures) c.write_value.ensures.written
