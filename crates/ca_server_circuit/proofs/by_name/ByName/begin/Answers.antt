use Rattle.std.proofs.Common.{◌≡◌, [], sym, subst}
use Rattle.ca_server_circuit.specs.ByName.{Enters, Lines, channels_in, lines_in}
use Rattle.ca_server_circuit.proofs.Lines.{enters-first}
use Rattle.ca_server_circuit.proofs.by_name.ByName.begin.Goals as goal

pub returns-clause-ok : goal.returns-clause-ok
returns-clause-ok c =
    let name = c.args.name.now in
    let old = c.self.inside.lines in
    let new = c.insert.new.self in
    let empty = subst (λ (w : Lines). channels_in w name ≡ []) (sym c.self.view_is) c.requires in
    subst (λ (w : Lines). Enters name c.args.channel w (lines_in (λ k. k.items) new.entries)) c.self.view_is
    (enters-first (λ k. k.items) old new c.in_ok-name.name name c.args.channel c.in_ok-line.line empty c.in_ok-name.ensures.items c.in_ok-insert.ensures.updates c.in_ok-line.ensures)
