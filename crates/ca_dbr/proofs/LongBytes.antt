-- Bytes that are long enough have a reading.
use Rattle.std.proofs.Common.{◌≡◌, ℕ, zero, suc, ◌+◌, ◌-◌, ◌*◌, ◌<◌, ◌≤◌, ◌^◌, ◌==◌, Bool, true, false, cond, All, List, [], ◌∷◌, ◌++◌, length, take, drop, get_or, replicate, refl, sym, ap, ◌∙◌, subst, arith}
use Rattle.std.proofs.lemmas.Bool.{eqb-true}
use Rattle.std.proofs.lemmas.List.{append_assoc, length-append, length-drop, length-replicate, length-take-le, take-append-drop}
use Rattle.std.proofs.lemmas.Int.{of_z-to_z}
use Rattle.std.proofs.lemmas.Nat.{be_bytes_2, be_bytes_4, be_bytes_8}
use Rattle.std.specs.Int.{cast_signed, cast_unsigned, from_be_bytes, w16, w32, w64}
use Rattle.std.specs.List.{flat_map}
use Rattle.std.specs.Prelude.{ℤ, FitsSigned}
use Rattle.ca_dbr.specs.declared.data_type.BaseType.{BaseType}
use Rattle.ca_dbr.specs.declared.data_type.BaseType.TheVariants as base
use Rattle.ca_dbr.specs.Elements.{Elements, byte_1, bytes_2, bytes_4, bytes_8, chars, doubles, enums, floats, ints, longs, signed_bytes_2, signed_bytes_4, string_bytes, strings}
use Rattle.ca_dbr.specs.Reading.{ReadsElements, filled, least_size}
use Rattle.ca_dbr.specs.Octets.{AreBytes}

pub are-bytes : (bs : List ℕ) → ((i : ℕ) → get_or bs i 0 < 256) → AreBytes bs
are-bytes [] each = tt
are-bytes (b ∷ bs) each = (each 0, are-bytes bs (λ i. each (suc i)))

pub each-byte : (bs : List ℕ) → AreBytes bs → (i : ℕ) → get_or bs i 0 < 256
each-byte [] are i = omega arith
each-byte (b ∷ bs) are zero = are.0
each-byte (b ∷ bs) are (suc i) = each-byte bs are.1 i

pub are-take : (n : ℕ) (bs : List ℕ) → AreBytes bs → AreBytes (take n bs)
are-take zero bs are = tt
are-take (suc n) [] are = tt
are-take (suc n) (b ∷ bs) are = (are.0, are-take n bs are.1)

pub are-drop : (n : ℕ) (bs : List ℕ) → AreBytes bs → AreBytes (drop n bs)
are-drop zero bs are = are
are-drop (suc n) [] are = tt
are-drop (suc n) (b ∷ bs) are = are-drop n bs are.1

pub are-front : (xs ys : List ℕ) → AreBytes (xs ++ ys) → AreBytes xs
are-front [] ys are = tt
are-front (x ∷ xs) ys are = (are.0, are-front xs ys are.1)

pub are-back : (xs ys : List ℕ) → AreBytes (xs ++ ys) → AreBytes ys
are-back [] ys are = are
are-back (x ∷ xs) ys are = are-back xs ys are.1

pub are-zeros : (n : ℕ) → AreBytes (replicate n 0)
are-zeros zero = tt
are-zeros (suc n) = (omega arith, are-zeros n)

are-both : (xs ys : List ℕ) → AreBytes xs → AreBytes ys → AreBytes (xs ++ ys)
are-both [] ys a b = b
are-both (x ∷ xs) ys a b = (a.0, are-both xs ys a.1 b)

-- ---- one element

-- an element of these bytes
abbrev pub Unit-of : {A : Type 0} → (A → List ℕ) → (A → Type 0) → List ℕ → Type 0
Unit-of {A} spell ok bs = (x : A) × (spell x ≡ bs) × ok x

text-of : (bs : List ℕ) → length bs ≡ 40 → AreBytes bs → Unit-of string_bytes (λ (x : List ℕ). length x ≡ 40) bs
unfolding string_bytes
text-of bs size are = (bs, refl, size)

char-of : (bs : List ℕ) → length bs ≡ 1 → AreBytes bs → Unit-of byte_1 (λ (n : ℕ). n < 2 ^ 8) bs
unfolding byte_1
char-of [] size are = absurd (omega (arith, size))
char-of (a ∷ []) size are = (a, refl, are.0)
char-of (a ∷ b ∷ bs) size are = absurd (omega (arith, size))

pub below-2 : (bs : List ℕ) → length bs ≡ 2 → AreBytes bs → from_be_bytes w16 bs < 2 ^ 16
below-2 [] size are = absurd (omega (arith, size))
below-2 (a ∷ []) size are = absurd (omega (arith, size))
below-2 (a ∷ b ∷ []) size are = omega (arith, are.0, are.1.0)
below-2 (a ∷ b ∷ c ∷ bs) size are = absurd (omega (arith, size))

pub below-4 : (bs : List ℕ) → length bs ≡ 4 → AreBytes bs → from_be_bytes w32 bs < 2 ^ 32
below-4 [] size are = absurd (omega (arith, size))
below-4 (a ∷ []) size are = absurd (omega (arith, size))
below-4 (a ∷ b ∷ []) size are = absurd (omega (arith, size))
below-4 (a ∷ b ∷ c ∷ []) size are = absurd (omega (arith, size))
below-4 (a ∷ b ∷ c ∷ d ∷ []) size are = omega (arith, are.0, are.1.0, are.1.1.0, are.1.1.1.0)
below-4 (a ∷ b ∷ c ∷ d ∷ e ∷ bs) size are = absurd (omega (arith, size))

below-8 : (bs : List ℕ) → length bs ≡ 8 → AreBytes bs → from_be_bytes w64 bs < 2 ^ 64
below-8 [] size are = absurd (omega (arith, size))
below-8 (a ∷ []) size are = absurd (omega (arith, size))
below-8 (a ∷ b ∷ []) size are = absurd (omega (arith, size))
below-8 (a ∷ b ∷ c ∷ []) size are = absurd (omega (arith, size))
below-8 (a ∷ b ∷ c ∷ d ∷ []) size are = absurd (omega (arith, size))
below-8 (a ∷ b ∷ c ∷ d ∷ e ∷ []) size are = absurd (omega (arith, size))
below-8 (a ∷ b ∷ c ∷ d ∷ e ∷ f ∷ []) size are = absurd (omega (arith, size))
below-8 (a ∷ b ∷ c ∷ d ∷ e ∷ f ∷ g ∷ []) size are = absurd (omega (arith, size))
below-8 (a ∷ b ∷ c ∷ d ∷ e ∷ f ∷ g ∷ h ∷ []) size are =
    omega (arith, are.0, are.1.0, are.1.1.0, are.1.1.1.0, are.1.1.1.1.0, are.1.1.1.1.1.0, are.1.1.1.1.1.1.0, are.1.1.1.1.1.1.1.0)
below-8 (a ∷ b ∷ c ∷ d ∷ e ∷ f ∷ g ∷ h ∷ i ∷ bs) size are = absurd (omega (arith, size))

pub enum-of : (bs : List ℕ) → length bs ≡ 2 → AreBytes bs → Unit-of bytes_2 (λ (n : ℕ). n < 2 ^ 16) bs
unfolding bytes_2
enum-of bs size are = (from_be_bytes w16 bs, be_bytes_2 bs (from_be_bytes w16 bs) size (each-byte bs are) refl, below-2 bs size are)

pub float-of : (bs : List ℕ) → length bs ≡ 4 → AreBytes bs → Unit-of bytes_4 (λ (n : ℕ). n < 2 ^ 32) bs
unfolding bytes_4
float-of bs size are = (from_be_bytes w32 bs, be_bytes_4 bs (from_be_bytes w32 bs) size (each-byte bs are) refl, below-4 bs size are)

double-of : (bs : List ℕ) → length bs ≡ 8 → AreBytes bs → Unit-of bytes_8 (λ (n : ℕ). n < 2 ^ 64) bs
unfolding bytes_8
double-of bs size are = (from_be_bytes w64 bs, be_bytes_8 bs (from_be_bytes w64 bs) size (each-byte bs are) refl, below-8 bs size are)

fits-2 : (n : ℕ) → n < 2 ^ 16 → FitsSigned w16 (cast_signed w16 n)
fits-2 n small = grind (arith, small)

fits-4 : (n : ℕ) → n < 2 ^ 32 → FitsSigned w32 (cast_signed w32 n)
fits-4 n small = grind (arith, small)

pub int-of : (bs : List ℕ) → length bs ≡ 2 → AreBytes bs → Unit-of signed_bytes_2 (λ (z : ℤ). FitsSigned w16 z) bs
unfolding signed_bytes_2
int-of bs size are =
    let small = below-2 bs size are in
    (cast_signed w16 (from_be_bytes w16 bs), be_bytes_2 bs (cast_unsigned w16 (cast_signed w16 (from_be_bytes w16 bs))) size (each-byte bs are) (of_z-to_z w16 (from_be_bytes w16 bs) small), fits-2 (from_be_bytes w16 bs) small)

long-of : (bs : List ℕ) → length bs ≡ 4 → AreBytes bs → Unit-of signed_bytes_4 (λ (z : ℤ). FitsSigned w32 z) bs
unfolding signed_bytes_4
long-of bs size are =
    let small = below-4 bs size are in
    (cast_signed w32 (from_be_bytes w32 bs), be_bytes_4 bs (cast_unsigned w32 (cast_signed w32 (from_be_bytes w32 bs))) size (each-byte bs are) (of_z-to_z w32 (from_be_bytes w32 bs) small), fits-4 (from_be_bytes w32 bs) small)

-- ---- many

abbrev pub Many : {A : Type 0} → (A → List ℕ) → (A → Type 0) → ℕ → List ℕ → Type 0
Many {A} spell ok n bytes = (xs : List A) × (behind : List ℕ) × (bytes ≡ flat_map spell xs ++ behind) × (length xs ≡ n) × All ok xs

all-none : {A : Type 0} (ok : A → Type 0) → (let none : List A = [] in All ok none)
all-none ok i d lt = absurd (omega (arith, lt))

all-more : {A : Type 0} (ok : A → Type 0) (x : A) (xs : List A) → ok x → All ok xs → All ok (x ∷ xs)
all-more ok x xs here rest zero d lt = here
all-more ok x xs here rest (suc i) d lt = rest i d (omega (arith, lt))

-- n times a size
abbrev pub total : ℕ → ℕ → ℕ
total zero size = 0
total (suc n) size = size + total n size

total-40 : (n : ℕ) → total n 40 ≡ n * 40
total-40 zero = refl
total-40 (suc n) = (let r = total-40 n in omega (arith, r))

total-8 : (n : ℕ) → total n 8 ≡ n * 8
total-8 zero = refl
total-8 (suc n) = (let r = total-8 n in omega (arith, r))

total-4 : (n : ℕ) → total n 4 ≡ n * 4
total-4 zero = refl
total-4 (suc n) = (let r = total-4 n in omega (arith, r))

total-2 : (n : ℕ) → total n 2 ≡ n * 2
total-2 zero = refl
total-2 (suc n) = (let r = total-2 n in omega (arith, r))

total-1 : (n : ℕ) → total n 1 ≡ n * 1
total-1 zero = refl
total-1 (suc n) = (let r = total-1 n in omega (arith, r))

pub many : {A : Type 0} (size : ℕ) (spell : A → List ℕ) (ok : A → Type 0) → ((bs : List ℕ) → length bs ≡ size → AreBytes bs → Unit-of spell ok bs) → (n : ℕ) (bytes : List ℕ) → total n size ≤ length bytes → AreBytes bytes → Many spell ok n bytes
many {A} size spell ok one zero bytes long are = (let none : List A = [] in (none, bytes, refl, refl, all-none ok))
many size spell ok one (suc n) bytes long are =
    let whole : size + total n size ≤ length bytes = long in
    let first = one (take size bytes) (length-take-le size bytes (omega (arith, whole))) (are-take size bytes are) in
    let left : length (drop size bytes) ≡ length bytes - size = length-drop size bytes in
    let rest = many size spell ok one n (drop size bytes) (omega (arith, whole, left)) (are-drop size bytes are) in
    let parts = sym (take-append-drop size bytes) ∙ ap (λ (x : List ℕ). x ++ drop size bytes) (sym first.1) ∙ ap (λ (x : List ℕ). spell first.0 ++ x) rest.2 ∙ sym (append_assoc (spell first.0) (flat_map spell rest.0) rest.1) in
    (first.0 ∷ rest.0, rest.1, parts, ap (λ (k : ℕ). suc k) rest.3, all-more ok first.0 rest.0 first.2 rest.4)

abbrev IsRead : BaseType → ℕ → List ℕ → Type 0
IsRead b count bytes = (e : Elements) × ReadsElements b count bytes e

read-texts : (count : ℕ) (bytes : List ℕ) → count * 40 ≤ length (filled base.String count bytes) → AreBytes (filled base.String count bytes) → IsRead base.String count bytes
read-texts count bytes long are =
    let m = many 40 string_bytes (λ (x : List ℕ). length x ≡ 40) text-of count (filled base.String count bytes) (subst (λ (k : ℕ). k ≤ length (filled base.String count bytes)) (sym (total-40 count)) long) are in
    (strings m.0, record { behind = m.1; spelled = m.2; based = refl; counted = m.3; valued = m.4 })

read-strings : (one : Bool) (count : ℕ) (bytes : List ℕ) → (count == 1) ≡ one → cond one 0 (count * 40) ≤ length bytes → AreBytes bytes → IsRead base.String count bytes
read-strings true count bytes is long are =
    let zeros : List ℕ = replicate (40 - length bytes) 0 in
    let whole : filled base.String count bytes ≡ bytes ++ zeros = ap (λ (b : Bool). cond b (bytes ++ zeros) bytes) is in
    let single : count ≡ 1 = eqb-true count 1 is in
    let size : length (filled base.String count bytes) ≡ length bytes + length zeros = ap length whole ∙ length-append bytes zeros in
    let n : length zeros ≡ 40 - length bytes = length-replicate {A = ℕ} (40 - length bytes) 0 in
    read-texts count bytes (omega (arith, size, n, single)) (subst AreBytes (sym whole) (are-both bytes zeros are (are-zeros (40 - length bytes))))
read-strings false count bytes is long are =
    let whole : filled base.String count bytes ≡ bytes = ap (λ (b : Bool). cond b (bytes ++ replicate (40 - length bytes) 0) bytes) is in
    read-texts count bytes (subst (λ (x : List ℕ). count * 40 ≤ length x) (sym whole) long) (subst AreBytes (sym whole) are)

pub reading : (b : BaseType) (count : ℕ) (bytes : List ℕ) → least_size b count ≤ length bytes → AreBytes bytes → (e : Elements) × ReadsElements b count bytes e
reading base.String count bytes long are = read-strings (count == 1) count bytes refl long are
reading base.Int count bytes long are =
    let m = many 2 signed_bytes_2 (λ (z : ℤ). FitsSigned w16 z) int-of count bytes (subst (λ (k : ℕ). k ≤ length bytes) (sym (total-2 count)) long) are in
    (ints m.0, record { behind = m.1; spelled = m.2; based = refl; counted = m.3; valued = m.4 })
reading base.Float count bytes long are =
    let m = many 4 bytes_4 (λ (n : ℕ). n < 2 ^ 32) float-of count bytes (subst (λ (k : ℕ). k ≤ length bytes) (sym (total-4 count)) long) are in
    (floats m.0, record { behind = m.1; spelled = m.2; based = refl; counted = m.3; valued = m.4 })
reading base.Enum count bytes long are =
    let m = many 2 bytes_2 (λ (n : ℕ). n < 2 ^ 16) enum-of count bytes (subst (λ (k : ℕ). k ≤ length bytes) (sym (total-2 count)) long) are in
    (enums m.0, record { behind = m.1; spelled = m.2; based = refl; counted = m.3; valued = m.4 })
reading base.Char count bytes long are =
    let m = many 1 byte_1 (λ (n : ℕ). n < 2 ^ 8) char-of count bytes (subst (λ (k : ℕ). k ≤ length bytes) (sym (total-1 count)) long) are in
    (chars m.0, record { behind = m.1; spelled = m.2; based = refl; counted = m.3; valued = m.4 })
reading base.Long count bytes long are =
    let m = many 4 signed_bytes_4 (λ (z : ℤ). FitsSigned w32 z) long-of count bytes (subst (λ (k : ℕ). k ≤ length bytes) (sym (total-4 count)) long) are in
    (longs m.0, record { behind = m.1; spelled = m.2; based = refl; counted = m.3; valued = m.4 })
reading base.Double count bytes long are =
    let m = many 8 bytes_8 (λ (n : ℕ). n < 2 ^ 64) double-of count bytes (subst (λ (k : ℕ). k ≤ length bytes) (sym (total-8 count)) long) are in
    (doubles m.0, record { behind = m.1; spelled = m.2; based = refl; counted = m.3; valued = m.4 })
