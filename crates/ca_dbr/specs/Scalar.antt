-- A value of one element, alone in a payload.
use Rattle.std.specs.Prelude.{ℕ, ◌≡◌, ◌-◌, ◌%◌, List, [], ◌∷◌, ◌++◌, length, replicate, Ok}
use Rattle.std.specs.Int.{w64, to_be_bytes}
use Rattle.ca_dbr.specs.declared.data_type.BaseType.TheVariants as base
use Rattle.ca_dbr.specs.Types.{base_number}
use Rattle.ca_dbr.specs.Elements.{Elements, base_of, bytes_8, bytes_of, count_of}
use Rattle.ca_dbr.specs.Shown.{shown}

-- These elements are one, of the plain type of this number, and n has its bytes,
-- with zeros up to eight.
pub record IsScalar (e : Elements) (number n : ℕ) : Type 0 where
  pub one : count_of e ≡ 1
  pub typed : base_number (base_of e) ≡ number
  pub shown : shown e 1 (base_of e) ≡ Ok e
  pub bytes : bytes_of e ++ replicate ((8 - length (bytes_of e) % 8) % 8) 0 ≡ bytes_8 n

-- These elements are not one of the plain type of this number, unless that is STRING.
abbrev pub IsNotScalar : Elements → ℕ → Type 0
IsNotScalar e number = count_of e ≡ 1 → base_number (base_of e) ≡ number → base_of e ≡ base.String

-- There is one of these, and n has its bytes, of this size, with zeros up to eight.
abbrev pub IsOneWord : {T : Type 0} → (T → List ℕ) → ℕ → List T → ℕ → Type 0
IsOneWord {T} spelled size xs n =
    (x : T) × (xs ≡ x ∷ []) × (spelled x ++ replicate (8 - size) 0 ≡ to_be_bytes w64 n)
