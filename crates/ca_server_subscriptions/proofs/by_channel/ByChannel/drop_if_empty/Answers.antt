use Rattle.std.proofs.Common.{◌≡◌, [], Some, None, true, false, List, ℕ, length, sym, ap, ◌∙◌, subst, arith}
use Rattle.std.proofs.lemmas.Bool.{eq-eqb, eqb-true}
use Rattle.ca_server_subscriptions.specs.ByChannel.{IdLines, ids_in, line_of}
use Rattle.ca_server_subscriptions.proofs.Channels.{found, none-held, not-lined}
use Rattle.ca_server_subscriptions.proofs.by_channel.ByChannel.drop_if_empty.Goals as goal

pub drop_line-requires : goal.drop_line-requires
drop_line-requires c =
    let line = c.in-Some.line.now in
    let all = line.ok in
    let zero : line.len ≡ 0 = eqb-true line.len 0 (sym c.is_empty.ensures ∙ c.if-is_empty.true) in
    ap (λ (w : IdLines). ids_in w c.args.sid) (sym c.self.view_is)
    ∙ found (λ l. l.items) c.self.inside.lines.entries c.args.sid (Some line) (sym c.in-Some.ensures.value)
    ∙ none-held line.items (omega (arith, all, zero))

pub returns-in_default-clause-gone : goal.returns-in_default-clause-gone
returns-in_default-clause-gone c = λ none.
    subst (λ (w : IdLines). line_of w c.args.sid ≡ None) c.self.view_is
    (not-lined (λ line. line.items) c.self.inside.lines.entries c.args.sid (sym c.in_default.ensures.value))

pub returns-else-is_empty-clause-gone : goal.returns-else-is_empty-clause-gone
returns-else-is_empty-clause-gone c = λ none.
    let sid = c.args.sid in
    let line = c.in-Some.line.now in
    let here = found (λ l. l.items) c.self.inside.lines.entries sid (Some line) (sym c.in-Some.ensures.value) in
    let empty : line.items ≡ [] = sym here ∙ ap (λ (w : IdLines). ids_in w sid) c.self.view_is ∙ none in
    let held : length line.items ≡ 0 = ap (λ (ids : List ℕ). length ids) empty in
    let all = line.ok in
    let zero : line.len ≡ 0 = omega (arith, all, held) in
    let both : true ≡ false = sym (eq-eqb line.len 0 zero) ∙ sym c.is_empty.ensures ∙ c.if-is_empty.false in
    absurd cc
