use Rattle.std.proofs.Common.{sym, ap, ◌∙◌, subst}
use Rattle.ca_server_circuit.specs.ByName.{Enters, Lines, channels_in, lines_in}
use Rattle.ca_server_circuit.proofs.Lines.{enters-too, unlined, unwritten}
use Rattle.ca_server_circuit.proofs.Replying.{in-err}
use Rattle.ca_server_circuit.proofs.by_name.ByName.add.Goals as goal

pub begin-requires : goal.begin-requires
begin-requires c =
    ap (λ m. channels_in (lines_in (λ k. k.items) m.entries) c.args.name.now) c.get_mut.follows.holds-at-none
    ∙ unlined (λ k. k.items) c.args.name.now c.self.inside.lines.entries (sym c.in_default.ensures.value)

pub returns-in_err-add-clause-err : goal.returns-in_err-add-clause-err
returns-in_err-add-clause-err c =
    let new = c.get_mut.follows.lender c.add.new.self in
    in-err c.from_residual.result
    (unwritten (λ k. k.items) c.self.inside.lines new c.args.name.now c.in-Some.line.now c.add.new.self (sym c.in-Some.ensures.value) (c.get_mut.follows.holds c.add.new.self) c.in_err-add.ensures.err ∙ c.self.view_is)

pub returns-in-Some-clause-ok : goal.returns-in-Some-clause-ok
returns-in-Some-clause-ok c =
    let new = c.get_mut.follows.lender c.add.new.self in
    subst (λ (w : Lines). Enters c.args.name.now c.args.channel w (lines_in (λ k. k.items) new.entries)) c.self.view_is
    (enters-too (λ k. k.items) c.self.inside.lines new c.args.name.now c.args.channel c.in-Some.line.now c.add.new.self (sym c.in-Some.ensures.value) (c.get_mut.follows.holds c.add.new.self) c.in_ok-add.ensures.ok)
