-- Powers of ten.
use Rattle.std.proofs.Common.{ℕ, ◌^◌, ◌≤◌, ◌<◌, arith, lt_of_le_of_lt, lit<}
use native.Mathlib.Nat.{one-le-pow, pow-le-pow_right}

pub most : (p : ℕ) → p ≤ 8 → 10 ^ p ≤ 100000000
most p h = pow-le-pow_right {n = 10} (omega arith) h

pub fits : (p : ℕ) → p ≤ 17 → 10 ^ p < 2 ^ 64
fits p h = lt_of_le_of_lt (pow-le-pow_right {n = 10} (omega arith) h) (lit< tt)

pub some : (p : ℕ) → 0 < 10 ^ p
some p = one-le-pow p 10 (omega arith)
