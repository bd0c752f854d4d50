use Rattle.std.proofs.Common.{ℕ, List, ◌≡◌, ◌-◌, ◌++◌, length, take, replicate, ap, ◌∙◌, arith, rules}
use Rattle.std.specs.Fmt.{decimal}
use Rattle.std.proofs.lemmas.List.{take-replicate}
use Rattle.ca_display.proofs.Decimals.{cut_more}
use Rattle.ca_display.proofs.decimal.put_padded.Goals as goal

pub returns : goal.returns
returns c =
    let o = c.args.text.now.items in
    let d = c.as_bytes-digits.result.now in
    let n = c.saturating_sub.result in
    let digits : d ≡ decimal c.args.number = search rules in
    let less : n ≡ c.args.size - length d = search rules in
    let zeros : take n (replicate 17 48) ≡ replicate (c.args.size - length d) 48 = take-replicate n 17 48 (omega (arith, less, c.requires)) ∙ ap (λ (k : ℕ). replicate k 48) less in
    cut_more o (take n (replicate 17 48)) d c.put.new.text.items c.put-2.new.text.items c.put.ensures c.put-2.ensures
    ∙ ap (λ (x : List ℕ). take 40 (o ++ (x ++ d))) zeros
    ∙ ap (λ (x : List ℕ). take 40 (o ++ (replicate (c.args.size - length x) 48 ++ x))) digits
