use Rattle.std.proofs.Common.{sym, ap, subst}
use Rattle.ca_ids.specs.Table.{Table}
use Rattle.ca_model.specs.Server.{OpenChannel}
use Rattle.ca_server_circuit.specs.ByName.{AreByName}
use Rattle.ca_server_circuit.proofs.ByName.{freed-none, retires}
use Rattle.ca_server_circuit.proofs.channel_table.ChannelTable.retire.Goals as goal

pub invariant_of-self : goal.invariant_of-self
invariant_of-self c =
    subst (λ (t : Table OpenChannel). AreByName c.forget.new.by_name t) (freed-none c.self.inside.table c.args.channel (sym c.in_default.ensures.value)) c.forget.ensures

pub invariant_of-self-2 : goal.invariant_of-self-2
invariant_of-self-2 c =
    retires c.self.inside.table c.args.channel _ (sym c.in-Some.ensures.value) c.retire.new.self c.forget.new.by_name (ap (λ (x : OpenChannel). x.retired) c.retire.ensures) c.forget.ensures
