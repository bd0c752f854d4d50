use Rattle.std.proofs.Common.{List, ℕ, sym, ap, ◌∙◌}
use Rattle.std.specs.Str.{bytes_eq}
use Rattle.ca_server_subscriptions.specs.ByRecord.{Lines, receivers_in}
use Rattle.ca_server_subscriptions.proofs.Lines.{named}
use Rattle.ca_server_subscriptions.proofs.by_record.ByRecord.recent_line.Goals as goal

pub returns-then-is_same_name : goal.returns-then-is_same_name
returns-then-is_same_name c =
    let name = c.args.name.now in
    let same = ap (λ (t : List ℕ). bytes_eq t name) (sym c.as_slice.ensures.value) ∙ sym c.is_same_name.ensures ∙ c.if-is_same_name.true in
    let here = named (λ k. k.items) name c.in-Some.key.now.items c.self.inside.lines.entries c.in-Some.line.now same c.in-Some.ensures.value in
    sym here ∙ ap (λ (w : Lines). receivers_in w name) c.self.view_is
