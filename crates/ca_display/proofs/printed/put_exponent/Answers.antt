use Rattle.std.proofs.Common.{◌≡◌, ℕ, List, [], ◌∷◌, ◌++◌, ◌+◌, ◌-◌, take, sym, ap, ◌∙◌, arith}
use Rattle.ca_display.specs.Decimal.{padded_digits}
use Rattle.ca_display.proofs.Decimals.{cut_more}
use Rattle.ca_display.proofs.Roundings.{exponent-up, exponent-down}
use Rattle.ca_display.proofs.printed.put_exponent.Goals as goal

pub returns-then-places-count : goal.returns-then-places-count
returns-then-places-count c =
    let o = c.args.text.now.items in
    let n = c.args.count - 1 - c.args.places in
    cut_more o (101 ∷ 43 ∷ []) (padded_digits 2 n) c.put.new.text.items c.put_padded.new.text.items c.put.ensures c.put_padded.ensures
    ∙ ap (λ (x : List ℕ). take 40 (o ++ x)) (sym (exponent-up c.args.count c.args.places c.if-places-count.true))

pub returns-else-places-count : goal.returns-else-places-count
returns-else-places-count c =
    let o = c.args.text.now.items in
    let n = c.args.places - c.args.count + 1 in
    let same : n ≡ c.args.places + 1 - c.args.count = omega (arith, c.if-places-count.false) in
    cut_more o (101 ∷ 45 ∷ []) (padded_digits 2 n) c.put-else-places-count.new.text.items c.put_padded-else-places-count.new.text.items c.put-else-places-count.ensures c.put_padded-else-places-count.ensures
    ∙ ap (λ (x : ℕ). take 40 (o ++ (101 ∷ 45 ∷ padded_digits 2 x))) same
    ∙ ap (λ (x : List ℕ). take 40 (o ++ x)) (sym (exponent-down c.args.count c.args.places c.if-places-count.false))
