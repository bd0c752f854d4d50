use Rattle.std.proofs.Common.{◌≡◌, [], None, true, false, sym, ap, ◌∙◌, subst}
use Rattle.ca_server_circuit.specs.ByName.{Lines, channels_in, line_of}
use Rattle.ca_server_circuit.proofs.Lines.{lined, not-lined}
use Rattle.ca_server_circuit.proofs.by_name.ByName.drop_if_empty.Goals as goal

pub drop_line-requires : goal.drop_line-requires
drop_line-requires c =
    ap (λ (w : Lines). channels_in w c.args.name.now) (sym c.self.view_is)
    ∙ lined (λ k. k.items) c.args.name.now c.self.inside.lines.entries c.in-Some.line.now (sym c.in-Some.ensures.value)
    ∙ c.is_empty.ensures.0 c.if-is_empty.true

pub returns-in_default-clause-gone : goal.returns-in_default-clause-gone
returns-in_default-clause-gone c = λ none.
    subst (λ (w : Lines). line_of w c.args.name.now ≡ None) c.self.view_is
    (not-lined (λ k. k.items) c.args.name.now c.self.inside.lines.entries (sym c.in_default.ensures.value))

pub returns-else-is_empty-clause-gone : goal.returns-else-is_empty-clause-gone
returns-else-is_empty-clause-gone c = λ none.
    let name = c.args.name.now in
    let here = lined (λ k. k.items) name c.self.inside.lines.entries c.in-Some.line.now (sym c.in-Some.ensures.value) in
    let empty : c.in-Some.line.now ≡ [] = sym here ∙ ap (λ (w : Lines). channels_in w name) c.self.view_is ∙ none in
    let both : true ≡ false = sym (c.is_empty.ensures.1 empty) ∙ c.if-is_empty.false in
    absurd cc
