use Rattle.std.proofs.Common.{◌≡◌, [], length, refl, sym, ap, subst}
use Rattle.ca_server_watchers.specs.Watching.{AreApart, Watched, watching}
use Rattle.ca_server_watchers.proofs.Lines.{none-apart}
use Rattle.ca_server_core.proofs.Reached.{walk-begins, walk-ends}
use Rattle.ca_server_core.proofs.posting.post_to_all.Goals as goal

pub returns-then-is_empty-clause-reaches : goal.returns-then-is_empty-clause-reaches
returns-then-is_empty-clause-reaches c =
    let there = c.requires.there in
    let w = c.args.watchers.now in
    let k = length (watching w there.0.state.name) in
    let none : w ≡ [] = c.is_empty.ensures.0 c.if-is_empty.true in
    let apart : AreApart (watching w there.0.state.name) = subst (λ (v : Watched). AreApart (watching v there.0.state.name)) (sym none) none-apart in
    walk-ends c.args.place c.args.mask w c.args.circuits.now c.args.records.now k w c.args.circuits.now c.args.records.now
    (ap (λ (v : Watched). length (watching v there.0.state.name)) none) c.requires.covered
    (walk-begins c.args.place c.args.mask k w c.args.circuits.now c.args.records.now there.0 there.1 apart refl c.requires.sound c.requires.covered)
