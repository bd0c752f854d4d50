-- A value of one element, alone in a payload.
use Rattle.std.proofs.Common.{◌≡◌, ◌≢◌, ◌⊎◌, ℕ, ℤ, ◌-◌, List, [], ◌∷◌, ◌++◌, length, replicate, Option, Some, None, refl, sym, ap, ◌∙◌, subst}
use Rattle.std.specs.Prelude.{IfSome, MatchOption}
use Rattle.std.specs.Int.{w64, to_be_bytes}
use Rattle.ca_dbr.specs.Scalar.{IsScalar, IsOneWord}
use Rattle.ca_dbr.specs.Elements.{Elements, ints, floats, enums, chars, longs, doubles, byte_1, bytes_2, bytes_4, bytes_8, signed_bytes_2, signed_bytes_4}

-- one element of each type, with its zeros

one-int : (x : ℤ) (n : ℕ) → signed_bytes_2 x ++ replicate (8 - 2) 0 ≡ to_be_bytes w64 n → IsScalar (ints (x ∷ [])) 1 n
unfolding signed_bytes_2 bytes_8
one-int x n spells = record { one = refl; typed = refl; shown = refl; bytes = spells }

one-float : (x n : ℕ) → bytes_4 x ++ replicate (8 - 4) 0 ≡ to_be_bytes w64 n → IsScalar (floats (x ∷ [])) 2 n
unfolding bytes_4 bytes_8
one-float x n spells = record { one = refl; typed = refl; shown = refl; bytes = spells }

one-enum : (x n : ℕ) → bytes_2 x ++ replicate (8 - 2) 0 ≡ to_be_bytes w64 n → IsScalar (enums (x ∷ [])) 3 n
unfolding bytes_2 bytes_8
one-enum x n spells = record { one = refl; typed = refl; shown = refl; bytes = spells }

one-char : (x n : ℕ) → byte_1 x ++ replicate (8 - 1) 0 ≡ to_be_bytes w64 n → IsScalar (chars (x ∷ [])) 4 n
unfolding byte_1 bytes_8
one-char x n spells = record { one = refl; typed = refl; shown = refl; bytes = spells }

one-long : (x : ℤ) (n : ℕ) → signed_bytes_4 x ++ replicate (8 - 4) 0 ≡ to_be_bytes w64 n → IsScalar (longs (x ∷ [])) 5 n
unfolding signed_bytes_4 bytes_8
one-long x n spells = record { one = refl; typed = refl; shown = refl; bytes = spells }

one-double : (x n : ℕ) → bytes_8 x ++ replicate (8 - 8) 0 ≡ to_be_bytes w64 n → IsScalar (doubles (x ∷ [])) 6 n
unfolding bytes_8
one-double x n spells = record { one = refl; typed = refl; shown = refl; bytes = spells }

-- what `one_word` answers of these elements, asked for this number as those of its own
abbrev Answer : {T : Type 0} → (T → List ℕ) → ℕ → List T → ℕ → ℕ → Option ℕ → Type 0
Answer spelled size xs own number o = MatchOption o ((number ≢ own) ⊎ (length xs ≢ 1)) (λ n. (number ≡ own) × IsOneWord spelled size xs n)

-- what it answers of the elements of a value is so of the value
told : {T : Type 0} (spelled : T → List ℕ) (size own : ℕ) (made : List T → Elements) → ((x : T) (n : ℕ) → spelled x ++ replicate (8 - size) 0 ≡ to_be_bytes w64 n → IsScalar (made (x ∷ [])) own n)
    → (e : Elements) (xs : List T) (asked number : ℕ) (o : Option ℕ) → e ≡ made xs → asked ≡ own → Answer spelled size xs asked number o → IfSome o (λ n. IsScalar e number n)
told spelled size own made one e xs asked number None is plain a = tt
told {T} spelled size own made one e xs asked number (Some n) is plain a =
    subst (λ (k : ℕ). IsScalar e k n) (sym (a.0 ∙ plain)) (subst (λ (f : Elements). IsScalar f own n) (sym (is ∙ ap made a.1.1)) (one a.1.0 n a.1.2))

pub told-int : (e : Elements) (xs : List ℤ) (asked number : ℕ) (o : Option ℕ) → e ≡ ints xs → asked ≡ 1 → Answer signed_bytes_2 2 xs asked number o → IfSome o (λ n. IsScalar e number n)
told-int = told signed_bytes_2 2 1 ints one-int

pub told-float : (e : Elements) (xs : List ℕ) (asked number : ℕ) (o : Option ℕ) → e ≡ floats xs → asked ≡ 2 → Answer bytes_4 4 xs asked number o → IfSome o (λ n. IsScalar e number n)
told-float = told bytes_4 4 2 floats one-float

pub told-enum : (e : Elements) (xs : List ℕ) (asked number : ℕ) (o : Option ℕ) → e ≡ enums xs → asked ≡ 3 → Answer bytes_2 2 xs asked number o → IfSome o (λ n. IsScalar e number n)
told-enum = told bytes_2 2 3 enums one-enum

pub told-char : (e : Elements) (xs : List ℕ) (asked number : ℕ) (o : Option ℕ) → e ≡ chars xs → asked ≡ 4 → Answer byte_1 1 xs asked number o → IfSome o (λ n. IsScalar e number n)
told-char = told byte_1 1 4 chars one-char

pub told-long : (e : Elements) (xs : List ℤ) (asked number : ℕ) (o : Option ℕ) → e ≡ longs xs → asked ≡ 5 → Answer signed_bytes_4 4 xs asked number o → IfSome o (λ n. IsScalar e number n)
told-long = told signed_bytes_4 4 5 longs one-long

pub told-double : (e : Elements) (xs : List ℕ) (asked number : ℕ) (o : Option ℕ) → e ≡ doubles xs → asked ≡ 6 → Answer bytes_8 8 xs asked number o → IfSome o (λ n. IsScalar e number n)
told-double = told bytes_8 8 6 doubles one-double
