use Rattle.std.proofs.Common.{◌≡◌, ◌∙◌, ◌-◌, List, ℕ, length, take, drop, sym, ap, arith}
use Rattle.std.specs.Int.{from_le_bytes, w32}
use Rattle.ca_text.proofs.Ends.{ends-tell, fours, same-ends}
use Rattle.ca_text.proofs.same.is_same_in_fours.Goals as goal

pub returns-then-four_at : goal.returns-then-four_at
returns-then-four_at c =
    let a = c.args.a.now in
    let b = c.args.b.now in
    let equal = c.if-four_at.true in
    let first = fours 0 a b (λ i. omega (arith, c.type_inv.a i)) (λ i. omega (arith, c.type_inv.b i)) (omega (arith, c.requires.least)) (omega (arith, c.requires.least, c.requires.both)) (sym c.four_at.ensures ∙ equal ∙ c.four_at-2.ensures) in
    ends-tell a b c.four_at-then-four_at.result c.four_at-then-four_at-2.result
    (λ e. same-ends 4 a b (sym c.requires.both) c.requires.least (omega (arith, c.requires.most)) first
    (fours (length a - 4) a b (λ i. omega (arith, c.type_inv.a i)) (λ i. omega (arith, c.type_inv.b i)) (omega (arith, c.requires.least)) (omega (arith, c.requires.least, c.requires.both)) (sym c.four_at-then-four_at.ensures ∙ e ∙ c.four_at-then-four_at-2.ensures)))
    (λ e. c.four_at-then-four_at.ensures ∙ ap (λ (t : List ℕ). from_le_bytes w32 (take 4 (drop (length a - 4) t))) e ∙ sym c.four_at-then-four_at-2.ensures)
