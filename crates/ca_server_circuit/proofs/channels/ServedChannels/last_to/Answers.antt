use Rattle.std.proofs.Common.{sym, ◌∙◌}
use Rattle.ca_server_circuit.proofs.ByName.{last-is, none-is-last}
use Rattle.ca_server_circuit.proofs.channels.ServedChannels.last_to.Goals as goal

pub returns-in-Some : goal.returns-in-Some
returns-in-Some c =
    let last = last-is c.channels_to.result.now c.in-Some.channel.now c.in-Some.ensures.value in
    (last.0, sym c.channels_to.ensures ∙ last.1)

pub returns-in-None : goal.returns-in-None
returns-in-None c = sym c.channels_to.ensures ∙ none-is-last c.channels_to.result.now c.in-None.ensures.value
