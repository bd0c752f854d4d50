use Rattle.std.proofs.Common.{◌≡◌, ℕ, ◌-◌, List, [], ◌++◌, length, take, replicate, ap, ◌∙◌, arith}
use Rattle.std.proofs.lemmas.List.{take-replicate}
use Rattle.ca_display.proofs.Decimals.{cut_more}
use Rattle.ca_display.proofs.real.in_width.Goals as goal

pub returns : goal.returns
returns c =
    let n = c.saturating_sub.result in
    let spaces : take n (replicate 24 32) ≡ replicate (c.args.width - length c.args.text.now) 32 = take-replicate n 24 32 (omega (arith, c.saturating_sub.ensures, c.requires)) ∙ ap (λ (k : ℕ). replicate k 32) c.saturating_sub.ensures in
    let first : c.put.new.text.items ≡ take 40 ([] ++ take n (replicate 24 32)) = c.put.ensures ∙ ap (λ (x : List ℕ). take 40 (x ++ take n (replicate 24 32))) c.new-wide.ensures in
    cut_more [] (take n (replicate 24 32)) c.args.text.now c.put.new.text.items c.put-2.new.text.items first c.put-2.ensures
    ∙ ap (λ (x : List ℕ). take 40 (x ++ c.args.text.now)) spaces
