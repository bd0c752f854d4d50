use Rattle.std.proofs.Common.{◌≡◌, ◌∙◌, List, ℕ, ap, subst, sym}
use Rattle.ca_lists.specs.Lists.{Ascends, added}
use Rattle.ca_lists.proofs.Ascents.{added-there, ascends-added, insert-added}
use Rattle.ca_lists.proofs.index_list.IndexList.add.Goals as goal

pub returns-in_default-clause-ok : goal.returns-in_default-clause-ok
returns-in_default-clause-ok c =
    let xs = c.self.inside.indices.items in
    let there = rw (← c.self.view_is) at c.in_default.ensures in
    rw (← c.self.view_is) (sym (added-there xs c.args.index c.in_default.field-0 c.self.invariant there.0 there.1))

pub invariant_of-self-2 : goal.invariant_of-self-2
invariant_of-self-2 c =
    let xs = c.self.inside.indices.items in
    let gap = rw (← c.self.view_is) at c.in-Err.ensures in
    let is = c.in_ok-insert.ensures.items ∙ insert-added xs c.args.index c.in-Err.place gap.0 gap.1 gap.2 in
    subst Ascends (sym is) (ascends-added c.args.index xs c.self.invariant)

pub returns-clause-ok : goal.returns-clause-ok
returns-clause-ok c =
    let xs = c.self.inside.indices.items in
    let gap = rw (← c.self.view_is) at c.in-Err.ensures in
    rw (← c.self.view_is) (c.in_ok-insert.ensures.items ∙ insert-added xs c.args.index c.in-Err.place gap.0 gap.1 gap.2)
