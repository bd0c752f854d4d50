use Rattle.std.proofs.Common.{sym, ap, subst}
use Rattle.ca_server_circuit.specs.ByName.{Goes, Lines, lines_in}
use Rattle.ca_server_circuit.proofs.Lines.{goes-from-none, goes-too, unlined}
use Rattle.ca_server_circuit.proofs.by_name.ByName.take_out_of_line.Goals as goal

pub returns-in_default : goal.returns-in_default
returns-in_default c =
    let new = c.get_mut.follows.lender-at-none in
    let same = ap (λ m. lines_in (λ k. k.items) m.entries) c.get_mut.follows.holds-at-none in
    let none = goes-from-none (λ k. k.items) c.self.inside.lines.entries c.args.name.now c.args.channel (unlined (λ k. k.items) c.args.name.now c.self.inside.lines.entries (sym c.in_default.ensures.value)) in
    let stays = subst (λ (w : Lines). Goes c.args.name.now c.args.channel (lines_in (λ k. k.items) c.self.inside.lines.entries) w) (sym same) none in
    subst (λ (w : Lines). Goes c.args.name.now c.args.channel w (lines_in (λ k. k.items) new.entries)) c.self.view_is stays

pub returns : goal.returns
returns c =
    let new = c.get_mut.follows.lender c.take_out.new.self in
    subst (λ (w : Lines). Goes c.args.name.now c.args.channel w (lines_in (λ k. k.items) new.entries)) c.self.view_is
    (goes-too (λ k. k.items) c.self.inside.lines new c.args.name.now c.args.channel c.in-Some.line.now c.take_out.new.self (sym c.in-Some.ensures.value) (c.get_mut.follows.holds c.take_out.new.self) c.take_out.ensures)
