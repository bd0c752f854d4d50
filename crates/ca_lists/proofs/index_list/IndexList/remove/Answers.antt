use Rattle.std.proofs.Common.{◌≡◌, ◌∙◌, ◌==◌, List, ℕ, ap, not, subst, sym}
use Rattle.ca_lists.specs.Lists.{Ascends, without}
use Rattle.ca_lists.proofs.Ascents.{absent-at, ascends-filter, remove-without, without-absent}
use Rattle.ca_lists.proofs.index_list.IndexList.remove.Goals as goal

pub returns-in_default : goal.returns-in_default
returns-in_default c =
    let xs = c.self.inside.indices.items in
    let gap = rw (← c.self.view_is) at c.in_default.ensures in
    rw (← c.self.view_is) (sym (without-absent xs c.args.index (absent-at xs c.args.index c.in_default.field-0 gap.1 gap.2)))

pub invariant_of-self : goal.invariant_of-self
invariant_of-self c =
    let xs = c.self.inside.indices.items in
    let there = rw (← c.self.view_is) at c.in-Ok.ensures in
    let is = c.remove.ensures.items ∙ remove-without xs c.args.index c.in-Ok.place c.self.invariant there.0 there.1 in
    subst Ascends (sym is) (ascends-filter (λ (x : ℕ). not (x == c.args.index)) xs c.self.invariant)

pub returns : goal.returns
returns c =
    let xs = c.self.inside.indices.items in
    let there = rw (← c.self.view_is) at c.in-Ok.ensures in
    rw (← c.self.view_is) (c.remove.ensures.items ∙ remove-without xs c.args.index c.in-Ok.place c.self.invariant there.0 there.1)
