use Rattle.std.proofs.Common.{sym, ap, ◌∙◌}
use Rattle.ca_server_circuit.specs.ByName.{Lines, channels_in}
use Rattle.ca_server_circuit.proofs.Lines.{lined, unlined}
use Rattle.ca_server_circuit.proofs.by_name.ByName.channels.Goals as goal

pub returns-in-Some : goal.returns-in-Some
returns-in-Some c =
    let name = c.args.name.now in
    let here = lined (λ k. k.items) name c.self.inside.lines.entries c.in-Some.line.now (sym c.in-Some.ensures.value) in
    c.as_slice.ensures ∙ sym here ∙ ap (λ (w : Lines). channels_in w name) c.self.view_is

pub returns-in-None : goal.returns-in-None
returns-in-None c =
    let name = c.args.name.now in
    sym (unlined (λ k. k.items) name c.self.inside.lines.entries (sym c.in-None.ensures.value)) ∙ ap (λ (w : Lines). channels_in w name) c.self.view_is
