-- Waits that double. Moments and waits are milliseconds; a sum of them stops at the greatest u64.
use Rattle.std.specs.Prelude.{ℕ, ◌*◌, ◌-◌, ◌^◌, zero, suc, min}

-- the wait that n others went before: the first, doubled each time up to the longest
abbrev pub wait : ℕ → ℕ → ℕ → ℕ
wait first longest zero = first
wait first longest (suc n) = min (2 * wait first longest n) longest

-- the last moment
abbrev pub latest : ℕ
latest = 2 ^ 64 - 1
