use Rattle.std.proofs.Common.{◌≡◌, ◌≤◌, None, sym, ◌∙◌, below_more}
use Rattle.ca_arena.specs.Arena.{place_at}
use Rattle.ca_arena.proofs.Places.{none_from_test}
use Rattle.ca_arena.proofs.arena.Arena.next_of.Goals as goal

pub loop-index-preserved : goal.loop-index-preserved
loop-index-preserved g c =
    let given = c.args.self.now.given in
    let here : (place_at given c.loop-index.index).value ≡ None = none_from_test (place_at given c.loop-index.index).value (sym c.is_filled.ensures ∙ c.if-is_filled.false) in
    λ k above below.
    below_more (λ j. c.match-after.start ≤ j → (place_at given j).value ≡ None) c.loop-index.index (λ j less from. c.loop-index.invariant j from less) (λ _. here) k below above
