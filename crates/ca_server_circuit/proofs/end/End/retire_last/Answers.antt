use Rattle.std.proofs.Common.{ap, sym, ◌∙◌}
use Rattle.ca_model.specs.Server.{ServerEnd}
use Rattle.ca_server_circuit.specs.ByName.{channels_to}
use Rattle.ca_server_circuit.proofs.Lost.{retired-once}
use Rattle.ca_server_circuit.proofs.end.End.retire_last.Goals as goal

pub returns : goal.returns
returns c =
    let name = c.args.name.now in
    let last = ap (λ (x : ServerEnd). channels_to name x.channels) (sym c.self.view_is) ∙ c.in-Some.ensures.1 in
    retired-once name c.args.self.now c.retire.new.self c.in-Some.channel c.in-Some.ensures.0 last c.retire.ensures
