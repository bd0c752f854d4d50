use Rattle.std.proofs.Common.{◌≡◌, ◌∙◌, get_or, subst, sym}
use Rattle.ca_model.specs.Ends.{Address}
use Rattle.ca_client_tables.specs.Names.{Adds, nowhere}
use Rattle.ca_client_tables.proofs.Beginnings.{names-more, names-stay, read-within}
use Rattle.ca_client_tables.proofs.beginning.add_at.Goals as goal

pub returns-then-is_seen_before : goal.returns-then-is_seen_before
returns-then-is_seen_before c =
    names-stay c.args.names.now c.args.index c.args.circuits.now c.args.order.now.items c.requires.within c.requires.before (sym c.is_seen_before.ensures ∙ c.if-is_seen_before.true)

pub returns : goal.returns
returns c =
    let names = c.args.names.now in
    let i = c.args.index in
    let read : c.index-names-index.result ≡ get_or names i nowhere =
    c.index-names-index.is ∙ read-within names i c.index-names-index.result nowhere c.requires.within in
    names-more names i c.args.circuits.now c.add_name.new.circuits c.args.order.now.items c.add_name.new.order.items c.requires.within c.requires.before
    (subst (λ (a : Address). Adds a c.args.circuits.now c.args.order.now.items c.add_name.new.circuits c.add_name.new.order.items) read c.in_ok-add_name.ensures)
    (sym c.is_seen_before.ensures ∙ c.if-is_seen_before.false)
