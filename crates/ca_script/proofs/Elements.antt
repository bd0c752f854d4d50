-- Elements that words are.
use Rattle.std.proofs.Common.{◌≡◌, ℕ, ◌-◌, ◌≤◌, List, ◌++◌, length, drop, replicate, ap, ◌∙◌, arith}
use Rattle.std.proofs.lemmas.List.{drop-replicate}
use Rattle.ca_script.specs.Lines.{IsHex, IsString}

-- n bytes in front of zeros are a text
pub hex-string : (word bytes : List ℕ) (k : ℕ) → IsHex word bytes → length bytes ≡ k → k ≤ 40 → IsString word (bytes ++ drop k (replicate 40 0))
hex-string word bytes k hex len le =
    let left : 40 - k ≡ 40 - length bytes = omega (arith, len) in
    (bytes, hex, omega (arith, len, le), ap (λ (t : List ℕ). bytes ++ t) (drop-replicate k 40 0 ∙ ap (λ (n : ℕ). replicate n 0) left))
