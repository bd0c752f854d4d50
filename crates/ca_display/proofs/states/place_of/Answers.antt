use Rattle.std.proofs.Common.{List, ℕ, sym, ap, ◌∙◌, arith}
use Rattle.std.specs.Str.{bytes_eq}
use Rattle.ca_display.proofs.Named.{place-found, place-none}
use Rattle.ca_display.proofs.states.place_of.Goals as goal

pub returns-then-is_same_name-clause-place : goal.returns-then-is_same_name-clause-place
returns-then-is_same_name-clause-place c =
    let name = c.args.name.now in
    place-found name c.args.states.now c.loop-i.i _ (omega arith) c.loop-i.invariant (ap (λ (t : List ℕ). bytes_eq t name) (sym c.text_of.ensures.text) ∙ sym c.is_same_name.ensures ∙ c.if-is_same_name.true)

pub returns-clause-place : goal.returns-clause-place
returns-clause-place c = place-none c.args.name.now c.args.states.now (λ k d h. c.loop-i.invariant k d (omega arith))
