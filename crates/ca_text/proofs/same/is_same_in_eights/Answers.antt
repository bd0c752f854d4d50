use Rattle.std.proofs.Common.{◌≡◌, ◌∙◌, ◌-◌, List, ℕ, length, take, drop, sym, ap, arith}
use Rattle.std.specs.Int.{from_le_bytes, w64}
use Rattle.ca_text.proofs.Ends.{ends-tell, eights, same-ends}
use Rattle.ca_text.proofs.same.is_same_in_eights.Goals as goal

pub returns-then-eight_at : goal.returns-then-eight_at
returns-then-eight_at c =
    let a = c.args.a.now in
    let b = c.args.b.now in
    let equal = c.if-eight_at.true in
    let first = eights 0 a b (λ i. omega (arith, c.type_inv.a i)) (λ i. omega (arith, c.type_inv.b i)) (omega (arith, c.requires.least)) (omega (arith, c.requires.least, c.requires.both)) (sym c.eight_at.ensures ∙ equal ∙ c.eight_at-2.ensures) in
    ends-tell a b c.eight_at-then-eight_at.result c.eight_at-then-eight_at-2.result
    (λ e. same-ends 8 a b (sym c.requires.both) c.requires.least (omega (arith, c.requires.most)) first
    (eights (length a - 8) a b (λ i. omega (arith, c.type_inv.a i)) (λ i. omega (arith, c.type_inv.b i)) (omega (arith, c.requires.least)) (omega (arith, c.requires.least, c.requires.both)) (sym c.eight_at-then-eight_at.ensures ∙ e ∙ c.eight_at-then-eight_at-2.ensures)))
    (λ e. c.eight_at-then-eight_at.ensures ∙ ap (λ (t : List ℕ). from_le_bytes w64 (take 8 (drop (length a - 8) t))) e ∙ sym c.eight_at-then-eight_at-2.ensures)
