-- A FLOAT or DOUBLE as C's `printf` writes it, by `%.*f` and by `%.*e`: the decimal with so many
-- places that is nearest to its exact value, of two as near the one whose last digit is even.
use Rattle.std.specs.Prelude.{ℕ, suc, ◌+◌, ◌-◌, ◌*◌, ◌/◌, ◌%◌, ◌^◌, ℤ, pos, negsuc, ◌==◌, nat_lt}
use Rattle.std.specs.Prelude.{if◌then◌else◌, List, [], ◌∷◌, ◌++◌, length, replicate}
use Rattle.std.specs.Float.{Float, nan, inf, fin}
use Rattle.std.specs.Float.Ieee.Nearest.{closest}
use Rattle.std.specs.Fmt.{decimal}
use Rattle.std.specs.Int.Digits.{digits_of}

-- digits, with zeros before them up to that many
abbrev pub padded_digits : ℕ → ℕ → List ℕ
padded_digits size n = replicate (size - length (decimal n)) 48 ++ decimal n

-- units of 10 ^ -p: the whole ones, and if there are places, a point and their digits
abbrev pub point_text : ℕ → ℕ → List ℕ
point_text p n =
    decimal (n / 10 ^ p) ++ (if p == 0 then [] else 46 ∷ padded_digits p (n % 10 ^ p))

-- m * 2 ^ e as a whole number of units of 10 ^ -q: m * 2 ^ -k is m * 5 ^ k of 10 ^ -k
abbrev pub exact_units : ℕ → ℤ → ℕ
exact_units m (pos k) = m * 2 ^ k
exact_units m (negsuc k) = m * 5 ^ suc k

abbrev pub exact_places : ℤ → ℕ
exact_places (pos k) = 0
exact_places (negsuc k) = suc k

-- `%.*f` of n units of 10 ^ -q
abbrev pub fixed_text : ℕ → ℕ → ℕ → List ℕ
fixed_text p n q = point_text p (closest (n * 10 ^ p) (10 ^ q))

-- how many digits n units of 10 ^ -q have from the first that is not 0 on; 0 counts as 1
abbrev pub digit_count : ℕ → ℕ → ℕ
digit_count n q = if n == 0 then suc q else length (digits_of 10 n)

-- the power of ten of the first of c digits, of which q are after the point
abbrev pub exponent_text : ℕ → ℕ → List ℕ
exponent_text c q =
    if nat_lt q c then 101 ∷ 43 ∷ padded_digits 2 (c - 1 - q)
    else 101 ∷ 45 ∷ padded_digits 2 (q + 1 - c)

-- c digits rounded to p + 1 of them, which may give one more
abbrev pub rounded_text : ℕ → ℕ → ℕ → ℕ → List ℕ
rounded_text p n c q =
    if n == 10 ^ suc p then point_text p (10 ^ p) ++ exponent_text (suc c) q
    else point_text p n ++ exponent_text c q

-- `%.*e` of n units of 10 ^ -q
abbrev pub scientific_text : ℕ → ℕ → ℕ → List ℕ
scientific_text p n q =
    let c = digit_count n q in rounded_text p (closest (n * 10 ^ suc p) (10 ^ c)) c q

-- the size of a number, by how a finite one is written
abbrev pub size_text : (ℕ → ℕ → List ℕ) → Float → List ℕ
size_text text nan = 110 ∷ 97 ∷ 110 ∷ []
size_text text (inf s) = 105 ∷ 110 ∷ 102 ∷ []
size_text text (fin s m e) = text (exact_units m e) (exact_places e)

-- a text with spaces before it up to that many bytes
abbrev pub in_width : ℕ → List ℕ → List ℕ
in_width width text = replicate (width - length text) 32 ++ text
