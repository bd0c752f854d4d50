-- Messages as their fields.
use Rattle.std.specs.Prelude.{ℕ, ◌≡◌, ◌-◌, ◌%◌, ◌≤◌, ◌++◌, List, length, replicate}
use Rattle.ca_text.specs.Limits.{payload_limit}

pub record Fields : Type 0 where
  pub command : ℕ
  pub data_type : ℕ
  pub count : ℕ
  pub p1 : ℕ
  pub p2 : ℕ
  pub payload : List ℕ

-- a payload has a multiple of 8 bytes, at most 16,777,216
pub record IsPayload (payload : List ℕ) : Type 0 where
  pub aligned : length payload % 8 ≡ 0
  pub within : length payload ≤ payload_limit

-- the bytes, and zeros up to a multiple of 8
abbrev pub padded : List ℕ → List ℕ
padded bytes = bytes ++ replicate ((8 - length bytes % 8) % 8) 0
