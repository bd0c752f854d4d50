-- What a value of a record with display data converts to is a value of the wanted type.
use Rattle.std.proofs.Common.{◌≡◌, ◌==◌, ◌&&◌, ℕ, ◌+◌, ◌-◌, ◌^◌, ◌<◌, ◌≤◌, inl, inr, Bool, true, false, T, List, [], ◌∷◌, length, take, drop, All, Option, Some, None, Result, Ok, Err, option_map, refl, sym, ap, subst, ◌∙◌, arith}
use Rattle.std.specs.Prelude.{ℤ, FitsSigned, from_bits, if◌then◌else◌, nat_lt, not, option_and_then, replicate, slice_index, slice_index_or, to_bits, unsigned_abs}
use Rattle.std.specs.Int.{w16, w32}
use Rattle.std.specs.Int.Signed.{mag}
use Rattle.std.specs.Fmt.{decimal}
use Rattle.std.specs.Float.{Float, Format, binary32, binary64, float_is_infinite, round_to_format}
use Rattle.std.specs.Float.Ieee.{fits, of_int}
use Rattle.std.specs.Float.Parse.{begins_with, read_float, read_unsigned, read_word, sign_len}
use Rattle.std.specs.Float.Numeral.{has_digits, minus, nearest_float, scan_numeral}
use Rattle.std.specs.List.{list_all, position_or_len, prefix_len}
use Rattle.std.proofs.lemmas.Bool.{cases_lt, ltb-true}
use Rattle.std.proofs.lemmas.Fmt.{length-decimal-le}
use Rattle.std.proofs.lemmas.List.{get_or_past, length-append, length-replicate, length-take}
use Rattle.std.proofs.lemmas.List.Elements.{All-cons, All-nil}
use lib.Chars.{codes}
use lib.Ieee.{inf, nan, fin}
use lib.Ieee.Bits.{of_bits-fits, to_bits-lt}
use lib.Ieee.Fits.{fits_widens, inf-fits, nan-fits, of_int-fits, round-fits}
use Rattle.ca_text.specs.declared.refusal.Refusal.{Refusal}
use Rattle.ca_text.specs.declared.refusal.Refusal.TheVariants as refusal
use Rattle.ca_dbr.specs.declared.data_type.BaseType.{BaseType}
use Rattle.ca_dbr.specs.declared.data_type.BaseType.TheVariants as base
use Rattle.ca_dbr.specs.Conversion.{HasConversion, IsFault, converted, first_and, gathered, in_signed, in_unsigned, then_elements, with_data}
use Rattle.ca_dbr.proofs.Faults.{converted-fault, converted-none}
use Rattle.ca_dbr.specs.DisplayData.{DisplayData, IsData}
use Rattle.ca_dbr.specs.Elements.{Elements, strings, ints, floats, enums, chars, longs, doubles, displayed, base_of, IsValue}
use Rattle.ca_dbr.specs.Number.{is_space, text_of}
use Rattle.ca_dbr.proofs.Images.{All-head, All-tail}
use Rattle.ca_dbr.specs.Held.{display_of}
use Rattle.ca_dbr.proofs.Helds.{converted-display}
use Rattle.ca_dbr.proofs.Shows.{with_data-made}
use Rattle.ca_dbr.proofs.Valued.{converted-valued}
use Rattle.ca_display.specs.declared.number.Number.{Number}
use Rattle.ca_display.specs.declared.number.Number.TheVariants as number
use Rattle.ca_display.specs.Conversion.{and_number, as_whole, display_converted, double_shown, enum_text, float_shown, in_numbers, of_double, of_float, of_natural, of_text, of_whole, state_of}
use Rattle.ca_dbr.specs.Data.{in_field}
use Rattle.ca_display.specs.Number.{as_double, as_float, double_number, float_bits, float_in, float_text, front_float, in_range, in_type, is_word, text_number, whole_of}
use Rattle.ca_display.specs.Real.{in_string, places_of, real_text, signed_units, units_text}
use Rattle.ca_display.specs.States.{is_named, name_or, state_number, state_text}

abbrev okay : {A : Type 0} → A → Result A Refusal
okay a = Ok a

no_err : {A : Type 0} (r : Refusal) (a : A) → Err r ≡ okay a → ⊥
no_err r a h = cc

same_ok : {A : Type 0} (e f : A) → okay e ≡ okay f → e ≡ f
same_ok e f h = cc

-- ---- numbers that a format holds

abbrev Fits : Number → Type 0
Fits (number.Whole z) = Unit {0}
Fits (number.Real x) = T (fits binary64 x)

abbrev AreFits : Result Number Refusal → Type 0
AreFits (Ok n) = Fits n
AreFits (Err r) = Unit {0}

rounded-fits : (f : Format) (x : Float) → T (fits f (round_to_format f x))
unfolding round_to_format
rounded-fits f nan = nan-fits f
rounded-fits f (inf s) = inf-fits f s
rounded-fits f (fin s m e) = round-fits f s _ _

float-bits : (n : Number) → as_float n < 2 ^ 32
float-bits (number.Whole z) = (let lt = to_bits-lt binary32 (of_int binary32 z) (of_int-fits binary32 z) in omega (arith, lt))
float-bits (number.Real x) = (let lt = to_bits-lt binary32 (round_to_format binary32 x) (rounded-fits binary32 x) in omega (arith, lt))

double-bits : (n : Number) → Fits n → as_double n < 2 ^ 64
double-bits (number.Whole z) is = (let lt = to_bits-lt binary64 (of_int binary64 z) (of_int-fits binary64 z) in omega (arith, lt))
double-bits (number.Real x) is = (let lt = to_bits-lt binary64 x is in omega (arith, lt))

-- what a text writes
abbrev FitsAs : Format → Option (Float × ℕ) → Type 0
FitsAs f (Some r) = T (fits f r.0)
FitsAs f None = Unit {0}

word-fits : (f : Format) (negative : Bool) (bs : List ℕ) → FitsAs f (read_word negative bs)
word-fits f negative bs = by (begins_with bs (codes "infinity")) (begins_with bs (codes "inf")) (begins_with bs (codes "nan"))
  where
    by : (a b c : Bool) → FitsAs f (if a then Some (inf negative, 8) else (if b then Some (inf negative, 3) else (if c then Some (nan, 3) else None)))
    by true b c = inf-fits f negative
    by false true c = inf-fits f negative
    by false false true = nan-fits f
    by false false false = tt

read-fits : (f : Format) (bs : List ℕ) → FitsAs f (read_float f bs)
unfolding read_float
read-fits f bs = behind (read_unsigned f negative rest) (by (has_digits (scan_numeral rest)))
  where
    negative : Bool
    negative = slice_index bs 0 == minus

    rest : List ℕ
    rest = drop (sign_len bs) bs

    by : (b : Bool) → FitsAs f (if b then Some (nearest_float f negative (scan_numeral rest), (scan_numeral rest).len) else read_word negative rest)
    by true = round-fits f negative _ _
    by false = word-fits f negative rest

    behind : (o : Option (Float × ℕ)) → FitsAs f o → FitsAs f (option_map (λ r. (r.0, sign_len bs + r.1)) o)
    behind (Some r) is = is
    behind None is = tt

abbrev FitsIf : Format → Option Float → Type 0
FitsIf f (Some x) = T (fits f x)
FitsIf f None = Unit {0}

front-fits : (f : Format) (text : List ℕ) → FitsIf f (front_float f text)
front-fits f text = by (read_float f text) (read-fits f text)
  where
    only : (b : Bool) (x : Float) → T (fits f x) → FitsIf f (if b then Some x else None)
    only true x is = is
    only false x is = tt

    by : (o : Option (Float × ℕ)) → FitsAs f o → FitsIf f (option_and_then (λ r. if list_all is_space (drop r.1 text) then Some r.0 else None) o)
    by (Some r) is = only (list_all is_space (drop r.1 text)) r.0 is
    by None is = tt

range-fits : (f : Format) (text : List ℕ) (o : Option Float) → FitsIf f o → FitsIf f (in_range text o)
range-fits f text None is = tt
range-fits f text (Some x) is = by (float_is_infinite x && not (is_word text))
  where
    by : (b : Bool) → FitsIf f (if b then None else Some x)
    by true = tt
    by false = is

text-fits : (text : List ℕ) → AreFits (text_number text)
text-fits text = by (in_range text (float_in binary64 text)) (range-fits binary64 text (float_in binary64 text) (front-fits binary64 (drop (prefix_len is_space text) text)))
  where
    by : (o : Option Float) → FitsIf binary64 o → AreFits (double_number o)
    by (Some x) is = is
    by None is = tt

text-float : (text : List ℕ) (n : ℕ) → float_text text ≡ Ok n → n < 2 ^ 32
text-float text n h = by (in_range text (float_in binary32 text)) (range-fits binary32 text (float_in binary32 text) (front-fits binary32 (drop (prefix_len is_space text) text))) h
  where
    by : (o : Option Float) → FitsIf binary32 o → float_bits o ≡ Ok n → n < 2 ^ 32
    by (Some x) is e = subst (λ (k : ℕ). k < 2 ^ 32) (same_ok (to_bits binary32 x) n e) (let lt = to_bits-lt binary32 x is in omega (arith, lt))
    by None is e = absurd (no_err refusal.BadText n e)

-- ---- results of all elements

gathered-each : {S T : Type 0} (f : S → Result T Refusal) (P : S → Type 0) (Q : T → Type 0) → ((x : S) (y : T) → P x → f x ≡ Ok y → Q y) → (xs : List S) → All P xs → (ys : List T) → gathered f xs ≡ Ok ys → All Q ys
gathered-each f P Q each [] all ys h = let same : [] ≡ ys = cc in subst (λ t. All Q t) same (All-nil Q)
gathered-each {S} {T} f P Q each (x ∷ xs) all ys h = go (f x) (gathered f xs) (λ y e. each x y (All-head P x xs all) e) (λ zs e. gathered-each f P Q each xs (All-tail P x xs all) zs e) h
  where
    go : (r : Result T Refusal) (rs : Result (List T) Refusal) → ((y : T) → r ≡ Ok y → Q y) → ((zs : List T) → rs ≡ Ok zs → All Q zs) → first_and r rs ≡ Ok ys → All Q ys
    go (Ok y) (Ok zs) one more e = subst (λ t. All Q t) (same_ok (y ∷ zs) ys e) (All-cons Q y zs (one y refl) (more zs refl))
    go (Ok y) (Err d) one more e = absurd (no_err d ys e)
    go (Err d) rs one more e = absurd (no_err d ys e)

made-each : {T : Type 0} (made : List T → Elements) (Q : T → Type 0) → ((ys : List T) → All Q ys → IsValue (made ys)) → (r : Result (List T) Refusal) → ((ys : List T) → r ≡ Ok ys → All Q ys) → (f : Elements) → then_elements made r ≡ Ok f → IsValue f
made-each made Q each (Ok ys) all f h = subst IsValue (same_ok (made ys) f h) (each ys (all ys refl))
made-each made Q each (Err e) all f h = absurd (no_err e f h)

-- ---- numbers in another type

in_type-made : {T : Type 0} (within : ℤ → Bool) (made : ℤ → T) (o : Option ℤ) (y : T) → in_type within made o ≡ Ok y → (z : ℤ) × (within z ≡ true) × (made z ≡ y)
in_type-made within made None y h = absurd (no_err refusal.OutOfRange y h)
in_type-made {T} within made (Some z) y h = by (within z) refl h
  where
    by : (b : Bool) → within z ≡ b → (if b then okay (made z) else Err refusal.OutOfRange) ≡ okay y → (z : ℤ) × (within z ≡ true) × (made z ≡ y)
    by true is e = (z, is, same_ok (made z) y e)
    by false is e = absurd (no_err refusal.OutOfRange y e)

whole-made : {S T : Type 0} (of : S → Result Number Refusal) (within : ℤ → Bool) (made : ℤ → T) (x : S) (y : T) → and_number (as_whole within made) (of x) ≡ Ok y → (z : ℤ) × (within z ≡ true) × (made z ≡ y)
whole-made {S} {T} of within made x y h = by (of x) h
  where
    by : (r : Result Number Refusal) → and_number (as_whole within made) r ≡ Ok y → (z : ℤ) × (within z ≡ true) × (made z ≡ y)
    by (Ok n) e = in_type-made within made (whole_of n) y e
    by (Err d) e = absurd (no_err d y e)

signed-fits : (n : ℕ) (z : ℤ) → in_signed n z ≡ true → mag z < 2 ^ n
signed-fits n (ℤ.pos k) h = ltb-true k (2 ^ n) h
signed-fits n (ℤ.negsuc k) h = ltb-true k (2 ^ n) h

unsigned-fits : (n : ℕ) (z : ℤ) → in_unsigned n z ≡ true → unsigned_abs z < 2 ^ n
unsigned-fits n (ℤ.pos k) h = ltb-true k (2 ^ n) h
unsigned-fits n (ℤ.negsuc k) h = absurd cc

module _ {S : Type 0} (of : S → Result Number Refusal) (xs : List S) (f : Elements) where
  wholes : {T : Type 0} (within : ℤ → Bool) (made : ℤ → T) (Q : T → Type 0) → ((z : ℤ) → within z ≡ true → Q (made z)) → (ys : List T) → gathered (λ x. and_number (as_whole within made) (of x)) xs ≡ Ok ys → All Q ys
  wholes within made Q each ys h =
      gathered-each (λ x. and_number (as_whole within made) (of x)) (λ x. Unit {0}) Q (λ x y p e. let n = whole-made of within made x y e in subst Q n.2 (each n.0 n.1)) xs (λ k d lt. tt) ys h

  numbers-valued : (b : BaseType) → ((x : S) → AreFits (of x)) → in_numbers of xs b ≡ Ok f → IsValue f
  numbers-valued base.String are h = absurd (no_err refusal.NoConvert f h)
  numbers-valued base.Int are h = made-each ints (λ z. FitsSigned w16 z) (λ ys all. all) _ (wholes (in_signed 15) (λ z. z) (λ z. FitsSigned w16 z) (λ z w. record { sfits = signed-fits 15 z w })) f h
  numbers-valued base.Enum are h = made-each enums (λ n. n < 2 ^ 16) (λ ys all. all) _ (wholes (in_unsigned 16) unsigned_abs (λ n. n < 2 ^ 16) (unsigned-fits 16)) f h
  numbers-valued base.Char are h = made-each chars (λ n. n < 2 ^ 8) (λ ys all. all) _ (wholes (in_unsigned 8) unsigned_abs (λ n. n < 2 ^ 8) (unsigned-fits 8)) f h
  numbers-valued base.Long are h = made-each longs (λ z. FitsSigned w32 z) (λ ys all. all) _ (wholes (in_signed 31) (λ z. z) (λ z. FitsSigned w32 z) (λ z w. record { sfits = signed-fits 31 z w })) f h
  numbers-valued base.Float are h =
      made-each floats (λ n. n < 2 ^ 32) (λ ys all. all) _ (λ ys e. gathered-each (λ x. and_number (λ n. Ok (as_float n)) (of x)) (λ x. Unit {0}) (λ n. n < 2 ^ 32) (λ x y p g. by (of x) y g) xs (λ k d lt. tt) ys e) f h
    where
      by : (r : Result Number Refusal) (y : ℕ) → and_number (λ n. Ok (as_float n)) r ≡ Ok y → y < 2 ^ 32
      by (Ok n) y e = subst (λ (k : ℕ). k < 2 ^ 32) (same_ok (as_float n) y e) (float-bits n)
      by (Err d) y e = absurd (no_err d y e)
  numbers-valued base.Double are h =
      made-each doubles (λ n. n < 2 ^ 64) (λ ys all. all) _ (λ ys e. gathered-each (λ x. and_number (λ n. Ok (as_double n)) (of x)) (λ x. Unit {0}) (λ n. n < 2 ^ 64) (λ x y p g. by (of x) (are x) y g) xs (λ k d lt. tt) ys e) f h
    where
      by : (r : Result Number Refusal) → AreFits r → (y : ℕ) → and_number (λ n. Ok (as_double n)) r ≡ Ok y → y < 2 ^ 64
      by (Ok n) is y e = subst (λ (k : ℕ). k < 2 ^ 64) (same_ok (as_double n) y e) (double-bits n is)
      by (Err d) is y e = absurd (no_err d y e)

-- ---- texts that display data show

in_field-whole : (text : List ℕ) → length text ≤ 40 → length (in_field 40 text) ≡ 40
in_field-whole text short = omega (arith, short, length-append text (replicate (40 - length text) 0), length-replicate {A = ℕ} (40 - length text) 0)

in_string-whole : (text : List ℕ) → length (in_string text) ≡ 40
in_string-whole text = in_field-whole (take 40 text) (let size = length-take 40 text in omega (arith, size))

real_text-whole : (f : Format) (p : ℤ) (bits : ℕ) → length (real_text f p bits) ≡ 40
real_text-whole f p bits = in_string-whole (units_text f (places_of p) bits (if nat_lt 8 (places_of p) then None else signed_units f (10 ^ places_of p) (from_bits f bits)))

state_text-whole : (d : DisplayData) (n : ℕ) → IsData d → n < 2 ^ 16 → length (state_text d.states n) ≡ 40
state_text-whole d n is lt = in_field-whole (name_or name (decimal n)) (by name short)
  where
    field : List ℕ
    field = slice_index_or d.states n []

    name : List ℕ
    name = text_of field

    within : length name ≤ length field
    within = (let size = length-take (position_or_len (λ c. c == 0) field) field in omega (arith, size))

    short : length name ≤ 40
    short = elim (cases_lt n (length d.states)) [
      | inl there ↦ (let size : length field ≡ 26 = is.names n [] there in omega (arith, within, size))
      | inr past ↦ (let size = ap (λ (l : List ℕ). length l) (get_or_past d.states n [] past) in omega (arith, within, size))
    ]

    by : (text : List ℕ) → length text ≤ 40 → length (name_or text (decimal n)) ≤ 40
    by [] le = (let digits = length-decimal-le 5 n (omega arith) (omega (arith, lt)) (omega (arith, lt)) in omega (arith, digits))
    by (c ∷ cs) le = le

-- an ENUM of a text
state-fits : (d : DisplayData) (x : List ℕ) (n : ℕ) → state_of d x ≡ Ok n → n < 2 ^ 16
state-fits d x n h = by (state_number d.states (text_of x)) h
  where
    by : (r : Result Number Refusal) → and_number (as_whole (in_unsigned 16) unsigned_abs) r ≡ Ok n → n < 2 ^ 16
    by (Ok k) e = (let made = in_type-made (in_unsigned 16) unsigned_abs (whole_of k) n e in subst (λ (m : ℕ). m < 2 ^ 16) made.2 (unsigned-fits 16 made.0 made.1))
    by (Err r) e = absurd (no_err r n e)

float-fits : (n : ℕ) → T (fits binary64 (from_bits binary32 n))
float-fits n = fits_widens (from_bits binary32 n) (of_bits-fits binary32 n)

-- ---- all types

module _ (d : DisplayData) (f : Elements) (is : IsData d) where
  texts : {S : Type 0} (shown : S → Result (List ℕ) Refusal) (P : S → Type 0) (xs : List S) → All P xs → ((x : S) (y : List ℕ) → P x → shown x ≡ Ok y → length y ≡ 40) → then_elements strings (gathered shown xs) ≡ Ok f → IsValue f
  texts shown P xs all each h = made-each strings (λ x. length x ≡ 40) (λ ys all. all) (gathered shown xs) (λ ys e. gathered-each shown P (λ x. length x ≡ 40) each xs all ys e) f h

  pub display_converted-valued : (e : Elements) (b : BaseType) → IsValue e → display_converted d e b ≡ Ok f → IsValue f
  display_converted-valued (strings xs) base.String v h = converted-valued (strings xs) base.String f v h
  display_converted-valued (strings xs) base.Enum v h = made-each enums (λ n. n < 2 ^ 16) (λ ys all. all) _ (λ ys e. gathered-each (state_of d) (λ x. length x ≡ 40) (λ n. n < 2 ^ 16) (λ x y p g. state-fits d x y g) xs v ys e) f h
  display_converted-valued (strings xs) base.Float v h = made-each floats (λ n. n < 2 ^ 32) (λ ys all. all) _ (λ ys e. gathered-each (λ x. float_text (text_of x)) (λ x. length x ≡ 40) (λ n. n < 2 ^ 32) (λ x y p g. text-float (text_of x) y g) xs v ys e) f h
  display_converted-valued (strings xs) base.Int v h = numbers-valued of_text xs f base.Int (λ x. text-fits (text_of x)) h
  display_converted-valued (strings xs) base.Char v h = numbers-valued of_text xs f base.Char (λ x. text-fits (text_of x)) h
  display_converted-valued (strings xs) base.Long v h = numbers-valued of_text xs f base.Long (λ x. text-fits (text_of x)) h
  display_converted-valued (strings xs) base.Double v h = numbers-valued of_text xs f base.Double (λ x. text-fits (text_of x)) h
  display_converted-valued (ints xs) base.Float v h = numbers-valued of_whole xs f base.Float (λ x. tt) h
  display_converted-valued (ints xs) base.Double v h = numbers-valued of_whole xs f base.Double (λ x. tt) h
  display_converted-valued (ints xs) b v h = converted-valued (ints xs) b f v h
  display_converted-valued (enums xs) base.String v h = texts (enum_text d) (λ n. n < 2 ^ 16) xs v (λ n y lt g. ap length (sym (same_ok (state_text d.states n) y g)) ∙ state_text-whole d n is lt) h
  display_converted-valued (enums xs) base.Float v h = numbers-valued of_natural xs f base.Float (λ x. tt) h
  display_converted-valued (enums xs) base.Double v h = numbers-valued of_natural xs f base.Double (λ x. tt) h
  display_converted-valued (enums xs) b v h = converted-valued (enums xs) b f v h
  display_converted-valued (chars xs) base.Float v h = numbers-valued of_natural xs f base.Float (λ x. tt) h
  display_converted-valued (chars xs) base.Double v h = numbers-valued of_natural xs f base.Double (λ x. tt) h
  display_converted-valued (chars xs) b v h = converted-valued (chars xs) b f v h
  display_converted-valued (longs xs) base.Float v h = numbers-valued of_whole xs f base.Float (λ x. tt) h
  display_converted-valued (longs xs) base.Double v h = numbers-valued of_whole xs f base.Double (λ x. tt) h
  display_converted-valued (longs xs) b v h = converted-valued (longs xs) b f v h
  display_converted-valued (floats xs) base.Float v h = converted-valued (floats xs) base.Float f v h
  display_converted-valued (floats xs) base.String v h = texts (float_shown d) (λ n. n < 2 ^ 32) xs v (λ n y lt g. ap length (sym (same_ok (real_text binary32 d.precision n) y g)) ∙ real_text-whole binary32 d.precision n) h
  display_converted-valued (floats xs) base.Int v h = numbers-valued of_float xs f base.Int float-fits h
  display_converted-valued (floats xs) base.Enum v h = numbers-valued of_float xs f base.Enum float-fits h
  display_converted-valued (floats xs) base.Char v h = numbers-valued of_float xs f base.Char float-fits h
  display_converted-valued (floats xs) base.Long v h = numbers-valued of_float xs f base.Long float-fits h
  display_converted-valued (floats xs) base.Double v h = numbers-valued of_float xs f base.Double float-fits h
  display_converted-valued (doubles xs) base.Double v h = converted-valued (doubles xs) base.Double f v h
  display_converted-valued (doubles xs) base.String v h = texts (double_shown d) (λ n. n < 2 ^ 64) xs v (λ n y lt g. ap length (sym (same_ok (real_text binary64 d.precision n) y g)) ∙ real_text-whole binary64 d.precision n) h
  display_converted-valued (doubles xs) base.Int v h = numbers-valued of_double xs f base.Int (λ n. of_bits-fits binary64 n) h
  display_converted-valued (doubles xs) base.Enum v h = numbers-valued of_double xs f base.Enum (λ n. of_bits-fits binary64 n) h
  display_converted-valued (doubles xs) base.Char v h = numbers-valued of_double xs f base.Char (λ n. of_bits-fits binary64 n) h
  display_converted-valued (doubles xs) base.Long v h = numbers-valued of_double xs f base.Long (λ n. of_bits-fits binary64 n) h
  display_converted-valued (doubles xs) base.Float v h = numbers-valued of_double xs f base.Float (λ n. of_bits-fits binary64 n) h
  display_converted-valued (displayed c e) b v h = absurd v

-- ---- no conversion is refused for memory

no_ok : {A : Type 0} (a : A) (r : Refusal) → okay a ≡ Err r → ⊥
no_ok a r h = cc

same_err : {A : Type 0} (r s : Refusal) → (let failed : Result A Refusal = Err r in failed ≡ Err s) → r ≡ s
same_err r s h = cc

-- a refusal of an element, or of one of them
abbrev NeverLacks : {A : Type 0} → Result A Refusal → Type 0
NeverLacks r = r ≡ Err refusal.OutOfMemory → ⊥

gathered-never : {S T : Type 0} (f : S → Result T Refusal) → ((x : S) → NeverLacks (f x)) → (xs : List S) → NeverLacks (gathered f xs)
gathered-never f each [] h = absurd (no_ok [] refusal.OutOfMemory h)
gathered-never {S} {T} f each (x ∷ xs) h = go (f x) (gathered f xs) (each x) (gathered-never f each xs) h
  where
    go : (r : Result T Refusal) (rs : Result (List T) Refusal) → NeverLacks r → NeverLacks rs → NeverLacks (first_and r rs)
    go (Ok y) (Ok zs) one more e = no_ok (y ∷ zs) refusal.OutOfMemory e
    go (Ok y) (Err d) one more e = more (ap (λ (k : Refusal). let failed : Result (List T) Refusal = Err k in failed) (same_err d refusal.OutOfMemory e))
    go (Err d) rs one more e = one (ap (λ (k : Refusal). let failed : Result T Refusal = Err k in failed) (same_err d refusal.OutOfMemory e))

made-never : {T : Type 0} (made : List T → Elements) (r : Result (List T) Refusal) → NeverLacks r → NeverLacks (then_elements made r)
made-never made (Ok ys) never h = no_ok (made ys) refusal.OutOfMemory h
made-never {T} made (Err d) never h = never (ap (λ (k : Refusal). let failed : Result (List T) Refusal = Err k in failed) (same_err d refusal.OutOfMemory h))

in_type-never : {T : Type 0} (within : ℤ → Bool) (made : ℤ → T) (o : Option ℤ) → NeverLacks (in_type within made o)
in_type-never within made None h = cc
in_type-never {T} within made (Some z) h = by (within z) h
  where
    by : (b : Bool) → NeverLacks (if b then okay (made z) else Err refusal.OutOfRange)
    by true e = no_ok (made z) refusal.OutOfMemory e
    by false e = cc

and-never : {T : Type 0} (made : Number → Result T Refusal) → ((n : Number) → NeverLacks (made n)) → (r : Result Number Refusal) → NeverLacks r → NeverLacks (and_number made r)
and-never made each (Ok n) never h = each n h
and-never {T} made each (Err d) never h = never (ap (λ (k : Refusal). let failed : Result Number Refusal = Err k in failed) (same_err d refusal.OutOfMemory h))

text-never : (text : List ℕ) → NeverLacks (text_number text)
text-never text h = by (in_range text (float_in binary64 text)) h
  where
    by : (o : Option Float) → NeverLacks (double_number o)
    by None e = cc
    by (Some x) e = cc

float_text-never : (text : List ℕ) → NeverLacks (float_text text)
float_text-never text h = by (in_range text (float_in binary32 text)) h
  where
    by : (o : Option Float) → NeverLacks (float_bits o)
    by None e = cc
    by (Some x) e = cc

state-never : (d : DisplayData) (x : List ℕ) → NeverLacks (state_of d x)
state-never d x = and-never (as_whole (in_unsigned 16) unsigned_abs) (λ n. in_type-never (in_unsigned 16) unsigned_abs (whole_of n)) (state_number d.states (text_of x)) (by (nat_lt 0 (length (text_of x)) && nat_lt (position_or_len (is_named (text_of x)) d.states) (length d.states)))
  where
    by : (b : Bool) → NeverLacks (if b then Ok (number.Whole (ℤ.pos (position_or_len (is_named (text_of x)) d.states))) else text_number (text_of x))
    by true h = cc
    by false h = text-never (text_of x) h

numbers-never : {S : Type 0} (of : S → Result Number Refusal) (xs : List S) (b : BaseType) → ((x : S) → NeverLacks (of x)) → NeverLacks (in_numbers of xs b)
numbers-never of xs base.String each h = cc
numbers-never of xs base.Int each h = made-never ints _ (gathered-never _ (λ x. and-never (as_whole (in_signed 15) (λ z. z)) (λ n. in_type-never (in_signed 15) (λ z. z) (whole_of n)) (of x) (each x)) xs) h
numbers-never of xs base.Enum each h = made-never enums _ (gathered-never _ (λ x. and-never (as_whole (in_unsigned 16) unsigned_abs) (λ n. in_type-never (in_unsigned 16) unsigned_abs (whole_of n)) (of x) (each x)) xs) h
numbers-never of xs base.Char each h = made-never chars _ (gathered-never _ (λ x. and-never (as_whole (in_unsigned 8) unsigned_abs) (λ n. in_type-never (in_unsigned 8) unsigned_abs (whole_of n)) (of x) (each x)) xs) h
numbers-never of xs base.Long each h = made-never longs _ (gathered-never _ (λ x. and-never (as_whole (in_signed 31) (λ z. z)) (λ n. in_type-never (in_signed 31) (λ z. z) (whole_of n)) (of x) (each x)) xs) h
numbers-never of xs base.Float each h = made-never floats _ (gathered-never _ (λ x. and-never (λ n. Ok (as_float n)) (λ n h. no_ok (as_float n) refusal.OutOfMemory h) (of x) (each x)) xs) h
numbers-never of xs base.Double each h = made-never doubles _ (gathered-never _ (λ x. and-never (λ n. Ok (as_double n)) (λ n h. no_ok (as_double n) refusal.OutOfMemory h) (of x) (each x)) xs) h

not-fault : IsFault refusal.OutOfMemory → ⊥
not-fault (inl text) = (let wrong : refusal.OutOfMemory ≡ refusal.BadText = text in absurd cc)
not-fault (inr range) = (let wrong : refusal.OutOfMemory ≡ refusal.OutOfRange = range in absurd cc)

pub converted-memory : (e : Elements) (b : BaseType) → NeverLacks (converted e b)
converted-memory e b h =
    let none : HasConversion (base_of e) b → ⊥ = λ c. not-fault (converted-fault e b c refusal.OutOfMemory h) in
    let other : converted e b ≡ Err refusal.NoConvert = converted-none e b none in
    cc

with_data-never : (d : DisplayData) (r : Result Elements Refusal) → NeverLacks r → NeverLacks (with_data d r)
with_data-never d (Ok e) never h = no_ok (displayed d e) refusal.OutOfMemory h
with_data-never d (Err r) never h = never h

pub display_converted-memory : (d : DisplayData) (e : Elements) (b : BaseType) → NeverLacks (display_converted d e b)
display_converted-memory d (strings xs) base.String h = converted-memory (strings xs) base.String h
display_converted-memory d (strings xs) base.Enum h = made-never enums _ (gathered-never (state_of d) (state-never d) xs) h
display_converted-memory d (strings xs) base.Float h = made-never floats _ (gathered-never (λ x. float_text (text_of x)) (λ x. float_text-never (text_of x)) xs) h
display_converted-memory d (strings xs) base.Int h = numbers-never of_text xs base.Int (λ x. text-never (text_of x)) h
display_converted-memory d (strings xs) base.Char h = numbers-never of_text xs base.Char (λ x. text-never (text_of x)) h
display_converted-memory d (strings xs) base.Long h = numbers-never of_text xs base.Long (λ x. text-never (text_of x)) h
display_converted-memory d (strings xs) base.Double h = numbers-never of_text xs base.Double (λ x. text-never (text_of x)) h
display_converted-memory d (ints xs) base.Float h = numbers-never of_whole xs base.Float (λ x e. cc) h
display_converted-memory d (ints xs) base.Double h = numbers-never of_whole xs base.Double (λ x e. cc) h
display_converted-memory d (ints xs) b h = converted-memory (ints xs) b h
display_converted-memory d (enums xs) base.String h = made-never strings _ (gathered-never (enum_text d) (λ n e. cc) xs) h
display_converted-memory d (enums xs) base.Float h = numbers-never of_natural xs base.Float (λ x e. cc) h
display_converted-memory d (enums xs) base.Double h = numbers-never of_natural xs base.Double (λ x e. cc) h
display_converted-memory d (enums xs) b h = converted-memory (enums xs) b h
display_converted-memory d (chars xs) base.Float h = numbers-never of_natural xs base.Float (λ x e. cc) h
display_converted-memory d (chars xs) base.Double h = numbers-never of_natural xs base.Double (λ x e. cc) h
display_converted-memory d (chars xs) b h = converted-memory (chars xs) b h
display_converted-memory d (longs xs) base.Float h = numbers-never of_whole xs base.Float (λ x e. cc) h
display_converted-memory d (longs xs) base.Double h = numbers-never of_whole xs base.Double (λ x e. cc) h
display_converted-memory d (longs xs) b h = converted-memory (longs xs) b h
display_converted-memory d (floats xs) base.Float h = converted-memory (floats xs) base.Float h
display_converted-memory d (floats xs) base.String h = made-never strings _ (gathered-never (float_shown d) (λ n e. cc) xs) h
display_converted-memory d (floats xs) base.Int h = numbers-never of_float xs base.Int (λ x e. cc) h
display_converted-memory d (floats xs) base.Enum h = numbers-never of_float xs base.Enum (λ x e. cc) h
display_converted-memory d (floats xs) base.Char h = numbers-never of_float xs base.Char (λ x e. cc) h
display_converted-memory d (floats xs) base.Long h = numbers-never of_float xs base.Long (λ x e. cc) h
display_converted-memory d (floats xs) base.Double h = numbers-never of_float xs base.Double (λ x e. cc) h
display_converted-memory d (doubles xs) base.Double h = converted-memory (doubles xs) base.Double h
display_converted-memory d (doubles xs) base.String h = made-never strings _ (gathered-never (double_shown d) (λ n e. cc) xs) h
display_converted-memory d (doubles xs) base.Int h = numbers-never of_double xs base.Int (λ x e. cc) h
display_converted-memory d (doubles xs) base.Enum h = numbers-never of_double xs base.Enum (λ x e. cc) h
display_converted-memory d (doubles xs) base.Char h = numbers-never of_double xs base.Char (λ x e. cc) h
display_converted-memory d (doubles xs) base.Long h = numbers-never of_double xs base.Long (λ x e. cc) h
display_converted-memory d (doubles xs) base.Float h = numbers-never of_double xs base.Float (λ x e. cc) h
display_converted-memory d (displayed c e) b h = with_data-never c (display_converted d e b) (display_converted-memory d e b) h

-- ---- and what is made has no display data of its own

made-bare : {T : Type 0} (made : List T → Elements) → ((ys : List T) → display_of (made ys) ≡ None) → (r : Result (List T) Refusal) (f : Elements) → then_elements made r ≡ Ok f → display_of f ≡ None
made-bare made each (Ok ys) f h = ap display_of (sym (same_ok (made ys) f h)) ∙ each ys
made-bare made each (Err e) f h = absurd (no_err e f h)

numbers-bare : {S : Type 0} (of : S → Result Number Refusal) (xs : List S) (b : BaseType) (f : Elements) → in_numbers of xs b ≡ Ok f → display_of f ≡ None
numbers-bare of xs base.String f h = absurd (no_err refusal.NoConvert f h)
numbers-bare of xs base.Int f h = made-bare ints (λ ys. refl) _ f h
numbers-bare of xs base.Enum f h = made-bare enums (λ ys. refl) _ f h
numbers-bare of xs base.Char f h = made-bare chars (λ ys. refl) _ f h
numbers-bare of xs base.Long f h = made-bare longs (λ ys. refl) _ f h
numbers-bare of xs base.Float f h = made-bare floats (λ ys. refl) _ f h
numbers-bare of xs base.Double f h = made-bare doubles (λ ys. refl) _ f h

pub display_converted-display : (d : DisplayData) (e : Elements) (b : BaseType) (f : Elements) → display_converted d e b ≡ Ok f → display_of f ≡ display_of e
display_converted-display d (strings xs) base.String f h = converted-display (strings xs) base.String f h
display_converted-display d (strings xs) base.Enum f h = made-bare enums (λ ys. refl) _ f h
display_converted-display d (strings xs) base.Float f h = made-bare floats (λ ys. refl) _ f h
display_converted-display d (strings xs) base.Int f h = numbers-bare of_text xs base.Int f h
display_converted-display d (strings xs) base.Char f h = numbers-bare of_text xs base.Char f h
display_converted-display d (strings xs) base.Long f h = numbers-bare of_text xs base.Long f h
display_converted-display d (strings xs) base.Double f h = numbers-bare of_text xs base.Double f h
display_converted-display d (ints xs) base.Float f h = numbers-bare of_whole xs base.Float f h
display_converted-display d (ints xs) base.Double f h = numbers-bare of_whole xs base.Double f h
display_converted-display d (ints xs) b f h = converted-display (ints xs) b f h
display_converted-display d (enums xs) base.String f h = made-bare strings (λ ys. refl) _ f h
display_converted-display d (enums xs) base.Float f h = numbers-bare of_natural xs base.Float f h
display_converted-display d (enums xs) base.Double f h = numbers-bare of_natural xs base.Double f h
display_converted-display d (enums xs) b f h = converted-display (enums xs) b f h
display_converted-display d (chars xs) base.Float f h = numbers-bare of_natural xs base.Float f h
display_converted-display d (chars xs) base.Double f h = numbers-bare of_natural xs base.Double f h
display_converted-display d (chars xs) b f h = converted-display (chars xs) b f h
display_converted-display d (longs xs) base.Float f h = numbers-bare of_whole xs base.Float f h
display_converted-display d (longs xs) base.Double f h = numbers-bare of_whole xs base.Double f h
display_converted-display d (longs xs) b f h = converted-display (longs xs) b f h
display_converted-display d (floats xs) base.Float f h = converted-display (floats xs) base.Float f h
display_converted-display d (floats xs) base.String f h = made-bare strings (λ ys. refl) _ f h
display_converted-display d (floats xs) base.Int f h = numbers-bare of_float xs base.Int f h
display_converted-display d (floats xs) base.Enum f h = numbers-bare of_float xs base.Enum f h
display_converted-display d (floats xs) base.Char f h = numbers-bare of_float xs base.Char f h
display_converted-display d (floats xs) base.Long f h = numbers-bare of_float xs base.Long f h
display_converted-display d (floats xs) base.Double f h = numbers-bare of_float xs base.Double f h
display_converted-display d (doubles xs) base.Double f h = converted-display (doubles xs) base.Double f h
display_converted-display d (doubles xs) base.String f h = made-bare strings (λ ys. refl) _ f h
display_converted-display d (doubles xs) base.Int f h = numbers-bare of_double xs base.Int f h
display_converted-display d (doubles xs) base.Enum f h = numbers-bare of_double xs base.Enum f h
display_converted-display d (doubles xs) base.Char f h = numbers-bare of_double xs base.Char f h
display_converted-display d (doubles xs) base.Long f h = numbers-bare of_double xs base.Long f h
display_converted-display d (doubles xs) base.Float f h = numbers-bare of_double xs base.Float f h
display_converted-display d (displayed c e) b f h = ap display_of (with_data-made c (display_converted d e b) f h).2
