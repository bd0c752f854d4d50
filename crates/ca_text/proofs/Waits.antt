-- Waits in closed form.
use Rattle.std.proofs.Common.{◌≡◌, ℕ, ◌*◌, ◌^◌, ◌≤◌, zero, suc, min, pow-suc, mul_assoc, mul_comm, mul-one, sym, ap, ◌∙◌, arith}
use Rattle.ca_text.specs.Waits.{wait}

pub wait-closed : (first longest n : ℕ) → first ≤ longest → wait first longest n ≡ min (first * 2 ^ n) longest
wait-closed first longest zero fits = omega (arith, fits, mul-one first)
wait-closed first longest (suc n) fits =
    let same = wait-closed first longest n fits in
    let doubled : first * 2 ^ suc n ≡ 2 * (first * 2 ^ n) = ap (λ (k : ℕ). first * k) (pow-suc 2 n) ∙ sym (mul_assoc first (2 ^ n) 2) ∙ mul_comm (first * 2 ^ n) 2 in
    omega (arith, same, doubled)
