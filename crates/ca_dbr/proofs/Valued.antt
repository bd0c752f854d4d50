-- What is converted, or shown, of a value is a value; and a number names its type.
use Rattle.std.proofs.Common.{◌≡◌, ℕ, ◌-◌, ◌<◌, ◌≤◌, ◌^◌, Bool, true, false, cond, List, [], ◌∷◌, length, get_or, take, All, Option, Some, None, Result, Ok, Err, refl, sym, ap, subst, ◌∙◌, arith, ℤ, pos, negsuc}
use Rattle.std.specs.Prelude.{unsigned_abs, FitsSigned}
use Rattle.std.specs.Int.{w16, w32}
use Rattle.std.specs.Int.Signed.{mag}
use Rattle.std.proofs.lemmas.Bool.{ltb-true}
use Rattle.std.proofs.lemmas.List.{get_or-take, length-take}
use Rattle.std.proofs.lemmas.List.Elements.{All-cons, All-nil}
use Rattle.ca_text.specs.declared.refusal.Refusal.{Refusal}
use Rattle.ca_text.specs.declared.refusal.Refusal.TheVariants as refusal
use Rattle.ca_dbr.specs.declared.data_type.BaseType.{BaseType}
use Rattle.ca_dbr.specs.declared.data_type.BaseType.TheVariants as base
use Rattle.ca_dbr.specs.declared.data_type.Form.{Form}
use Rattle.ca_dbr.specs.declared.data_type.Form.TheVariants as form
use Rattle.ca_dbr.specs.declared.data_type.DataType.{DataType}
use Rattle.ca_dbr.specs.Types.{form_number, type_at, type_number}
use Rattle.ca_dbr.specs.Elements.{Elements, strings, ints, floats, enums, chars, longs, doubles, displayed, count_of, IsValue}
use Rattle.ca_dbr.specs.Number.{text_of, number_in, number_text}
use Rattle.ca_dbr.specs.Conversion.{in_signed, in_unsigned, numbered, first_and, gathered, then_elements, in_base, converted}
use Rattle.ca_dbr.specs.Shown.{first_elements, with_zeros, zeros_behind, shown}
use Rattle.ca_dbr.proofs.Images.{All-head, All-tail}
use Rattle.ca_dbr.proofs.OneReading.{base_number-small}
use Rattle.ca_dbr.proofs.Shows.{IsValue-with_zeros}
use Rattle.ca_dbr.proofs.Texts.{length-number_text}

abbrev okay : {A : Type 0} → A → Result A Refusal
okay a = Ok a

no_err : {A : Type 0} (r : Refusal) (a : A) → Err r ≡ okay a → ⊥
no_err r a h = cc

same_ok : {A : Type 0} (e f : A) → okay e ≡ okay f → e ≡ f
same_ok e f h = cc

-- ---- results of all elements

gathered-each : {S T : Type 0} (f : S → Result T Refusal) (P : S → Type 0) (Q : T → Type 0) → ((x : S) (y : T) → P x → f x ≡ Ok y → Q y) → (xs : List S) → All P xs → (ys : List T) → gathered f xs ≡ Ok ys → All Q ys
gathered-each f P Q each [] all ys h = let same : [] ≡ ys = cc in subst (λ t. All Q t) same (All-nil Q)
gathered-each {S} {T} f P Q each (x ∷ xs) all ys h =
    let by_case : (r : Result T Refusal) (rs : Result (List T) Refusal) → ((y : T) → r ≡ Ok y → Q y) → ((zs : List T) → rs ≡ Ok zs → All Q zs) → first_and r rs ≡ Ok ys → All Q ys =
    elim [ Ok y ↦ elim [ Ok zs ↦ λ one more e. subst (λ t. All Q t) (same_ok (y ∷ zs) ys e) (All-cons Q y zs (one y refl) (more zs refl)) | Err d ↦ λ one more e. absurd (no_err d ys e) ] | Err d ↦ λ rs one more e. absurd (no_err d ys e) ] in
    by_case (f x) (gathered f xs) (λ y e. each x y (All-head P x xs all) e) (λ zs e. gathered-each f P Q each xs (All-tail P x xs all) zs e) h

numbered-each : {T : Type 0} (within : ℤ → Bool) (made : ℤ → T) (o : Option ℤ) (y : T) → numbered within made o ≡ Ok y → (z : ℤ) × (o ≡ Some z) × (within z ≡ true) × (made z ≡ y)
numbered-each within made None y h = absurd (no_err refusal.BadText y h)
numbered-each {T} within made (Some z) y h =
    let by_case : (b : Bool) → cond b (okay (made z)) (Err refusal.OutOfRange) ≡ okay y → (b ≡ true) × (made z ≡ y) =
    elim [ true ↦ λ e. (refl, same_ok (made z) y e) | false ↦ λ e. absurd (no_err refusal.OutOfRange y e) ] in
    let w = by_case (within z) h in (z, refl, w.0, w.1)

-- what holds of each number within holds of each element with one
in_numbers : {S T : Type 0} (number : S → Option ℤ) (within : ℤ → Bool) (made : ℤ → T) (Q : T → Type 0) → ((z : ℤ) → within z ≡ true → Q (made z)) → (xs : List S) (ys : List T) → gathered (λ x. numbered within made (number x)) xs ≡ Ok ys → All Q ys
in_numbers {S} {T} number within made Q each xs ys h =
    gathered-each (λ x. numbered within made (number x)) (λ x. Unit) Q (λ x y p e. let n = numbered-each within made (number x) y e in subst Q n.3 (each n.0 n.2)) xs (λ k d lt. tt) ys h

made_each : {T : Type 0} (made : List T → Elements) (Q : T → Type 0) → ((ys : List T) → All Q ys → IsValue (made ys)) → (r : Result (List T) Refusal) → ((ys : List T) → r ≡ Ok ys → All Q ys) → (f : Elements) → then_elements made r ≡ Ok f → IsValue f
made_each made Q each (Ok ys) all f h = let P : Elements → Type 0 = λ e. IsValue e in subst P (same_ok (made ys) f h) (each ys (all ys refl))
made_each made Q each (Err e) all f h = absurd (no_err e f h)

signed_fits : (n : ℕ) (z : ℤ) → in_signed n z ≡ true → mag z < 2 ^ n
signed_fits n (pos k) h = ltb-true k (2 ^ n) h
signed_fits n (negsuc k) h = ltb-true k (2 ^ n) h

unsigned_fits : (n : ℕ) (z : ℤ) → in_unsigned n z ≡ true → unsigned_abs z < 2 ^ n
unsigned_fits n (pos k) h = ltb-true k (2 ^ n) h
unsigned_fits n (negsuc k) h = absurd cc

-- ---- what numbers convert to

-- a number whose text fits a STRING
abbrev HasText : {S : Type 0} → (S → Option ℤ) → S → Type 0
HasText number x = (z : ℤ) → number x ≡ Some z → mag z < 2 ^ 63

in_base-valued : {S : Type 0} (number : S → Option ℤ) (xs : List S) (b : BaseType) (f : Elements) → (b ≡ base.String → All (HasText number) xs) → in_base number xs b ≡ Ok f → IsValue f
in_base-valued number xs base.String f text h =
    made_each strings (λ x. length x ≡ 40) (λ ys all. all) (gathered (λ x. numbered (λ _. true) number_text (number x)) xs)
    (λ ys e. gathered-each (λ x. numbered (λ _. true) number_text (number x)) (HasText number) (λ x. length x ≡ 40) (λ x y p e'. let n = numbered-each (λ _. true) number_text (number x) y e' in ap length (sym n.3) ∙ length-number_text n.0 (p n.0 n.1)) xs (text refl) ys e) f h
in_base-valued number xs base.Int f text h =
    made_each ints (λ z. FitsSigned w16 z) (λ ys all. all) (gathered (λ x. numbered (in_signed 15) (λ z. z) (number x)) xs) (in_numbers number (in_signed 15) (λ z. z) (λ z. FitsSigned w16 z) (λ z w. record { sfits = signed_fits 15 z w }) xs) f h
in_base-valued number xs base.Enum f text h =
    made_each enums (λ n. n < 2 ^ 16) (λ ys all. all) (gathered (λ x. numbered (in_unsigned 16) unsigned_abs (number x)) xs) (in_numbers number (in_unsigned 16) unsigned_abs (λ n. n < 2 ^ 16) (unsigned_fits 16) xs) f h
in_base-valued number xs base.Char f text h =
    made_each chars (λ n. n < 2 ^ 8) (λ ys all. all) (gathered (λ x. numbered (in_unsigned 8) unsigned_abs (number x)) xs) (in_numbers number (in_unsigned 8) unsigned_abs (λ n. n < 2 ^ 8) (unsigned_fits 8) xs) f h
in_base-valued number xs base.Long f text h =
    made_each longs (λ z. FitsSigned w32 z) (λ ys all. all) (gathered (λ x. numbered (in_signed 31) (λ z. z) (number x)) xs) (in_numbers number (in_signed 31) (λ z. z) (λ z. FitsSigned w32 z) (λ z w. record { sfits = signed_fits 31 z w }) xs) f h
in_base-valued number xs base.Float f text h = absurd (no_err refusal.NoConvert f h)
in_base-valued number xs base.Double f text h = absurd (no_err refusal.NoConvert f h)

same_some : {A : Type 0} (a b : A) → Some a ≡ Some b → a ≡ b
same_some a b h = cc

signed_text : (n : ℕ) (z y : ℤ) → mag z < 2 ^ n → 2 ^ n ≤ 2 ^ 63 → Some z ≡ Some y → mag y < 2 ^ 63
signed_text n z y lt le e = subst (λ x. mag x < 2 ^ 63) (same_some z y e) (omega (arith, lt, le))

unsigned_text : (n k : ℕ) (y : ℤ) → k < 2 ^ n → 2 ^ n ≤ 2 ^ 63 → Some (pos k) ≡ Some y → mag y < 2 ^ 63
unsigned_text n k y lt le e = subst (λ x. mag x < 2 ^ 63) (same_some (pos k) y e) (let here : mag (pos k) < 2 ^ 63 = omega (arith, lt, le) in here)

same_value : (e f : Elements) → IsValue e → okay e ≡ okay f → IsValue f
same_value e f v h = let P : Elements → Type 0 = λ x. IsValue x in subst P (same_ok e f h) v

-- what is converted of a value is a value
pub converted-valued : (e : Elements) (b : BaseType) (f : Elements) → IsValue e → converted e b ≡ Ok f → IsValue f
converted-valued (strings xs) base.String f v h = same_value (strings xs) f v h
converted-valued (strings xs) base.Int f v h = in_base-valued (λ x. number_in (text_of x)) xs base.Int f (λ e. absurd cc) h
converted-valued (strings xs) base.Float f v h = in_base-valued (λ x. number_in (text_of x)) xs base.Float f (λ e. absurd cc) h
converted-valued (strings xs) base.Enum f v h = in_base-valued (λ x. number_in (text_of x)) xs base.Enum f (λ e. absurd cc) h
converted-valued (strings xs) base.Char f v h = in_base-valued (λ x. number_in (text_of x)) xs base.Char f (λ e. absurd cc) h
converted-valued (strings xs) base.Long f v h = in_base-valued (λ x. number_in (text_of x)) xs base.Long f (λ e. absurd cc) h
converted-valued (strings xs) base.Double f v h = in_base-valued (λ x. number_in (text_of x)) xs base.Double f (λ e. absurd cc) h
converted-valued (ints xs) base.Int f v h = same_value (ints xs) f v h
converted-valued (ints xs) b f v h = in_base-valued (λ z. Some z) xs b f (λ s k d lt z e. signed_text 15 (get_or xs k d) z (v k d lt).sfits (omega arith) e) h
converted-valued (enums xs) base.Enum f v h = same_value (enums xs) f v h
converted-valued (enums xs) b f v h = in_base-valued (λ n. Some (pos n)) xs b f (λ s k d lt z e. unsigned_text 16 (get_or xs k d) z (v k d lt) (omega arith) e) h
converted-valued (chars xs) base.Char f v h = same_value (chars xs) f v h
converted-valued (chars xs) b f v h = in_base-valued (λ n. Some (pos n)) xs b f (λ s k d lt z e. unsigned_text 8 (get_or xs k d) z (v k d lt) (omega arith) e) h
converted-valued (longs xs) base.Long f v h = same_value (longs xs) f v h
converted-valued (longs xs) b f v h = in_base-valued (λ z. Some z) xs b f (λ s k d lt z e. signed_text 31 (get_or xs k d) z (v k d lt).sfits (omega arith) e) h
converted-valued (floats xs) base.Float f v h = same_value (floats xs) f v h
converted-valued (floats xs) b f v h = absurd (no_err refusal.NoConvert f h)
converted-valued (doubles xs) base.Double f v h = same_value (doubles xs) f v h
converted-valued (doubles xs) b f v h = absurd (no_err refusal.NoConvert f h)
converted-valued (displayed d e) b f v h = absurd v

-- ---- what is shown

All-first : {X : Type 0} (P : X → Type 0) (n : ℕ) (xs : List X) → All P xs → All P (take n xs)
All-first P n xs all = λ k d lt. let size = length-take n xs in subst P (sym (get_or-take n xs k d (omega (arith, lt, size)))) (all k d (omega (arith, lt, size)))

first-valued : (n : ℕ) (e : Elements) → IsValue e → IsValue (first_elements n e)
first-valued n (strings xs) v = All-first (λ x. length x ≡ 40) n xs v
first-valued n (ints xs) v = All-first (λ z. FitsSigned w16 z) n xs v
first-valued n (floats xs) v = All-first (λ k. k < 2 ^ 32) n xs v
first-valued n (enums xs) v = All-first (λ k. k < 2 ^ 16) n xs v
first-valued n (chars xs) v = All-first (λ k. k < 2 ^ 8) n xs v
first-valued n (longs xs) v = All-first (λ z. FitsSigned w32 z) n xs v
first-valued n (doubles xs) v = All-first (λ k. k < 2 ^ 64) n xs v
first-valued n (displayed d e) v = absurd v

zeros-valued : (n : ℕ) (r : Result Elements Refusal) (f : Elements) → ((g : Elements) → r ≡ Ok g → IsValue g) → zeros_behind n r ≡ Ok f → IsValue f
zeros-valued n (Ok g) f each h = let P : Elements → Type 0 = λ x. IsValue x in subst P (same_ok (with_zeros n g) f h) (IsValue-with_zeros n g (each g refl))
zeros-valued n (Err e) f each h = absurd (no_err e f h)

-- what is shown of a value is a value
pub shown-valued : (e : Elements) (count : ℕ) (b : BaseType) (f : Elements) → IsValue e → shown e count b ≡ Ok f → IsValue f
shown-valued e count b f v h =
    zeros-valued (count - count_of e) (converted (first_elements count e) b) f (λ g h'. converted-valued (first_elements count e) b g (first-valued count e v) h') h

-- ---- the type of a number

named : (b : BaseType) (f : Form) → let t : DataType = record { base = b; form = f } in type_at (type_number t) ≡ t
named base.String form.Plain = refl
named base.Int form.Plain = refl
named base.Float form.Plain = refl
named base.Enum form.Plain = refl
named base.Char form.Plain = refl
named base.Long form.Plain = refl
named base.Double form.Plain = refl
named base.String form.Status = refl
named base.Int form.Status = refl
named base.Float form.Status = refl
named base.Enum form.Status = refl
named base.Char form.Status = refl
named base.Long form.Status = refl
named base.Double form.Status = refl
named base.String form.Time = refl
named base.Int form.Time = refl
named base.Float form.Time = refl
named base.Enum form.Time = refl
named base.Char form.Time = refl
named base.Long form.Time = refl
named base.Double form.Time = refl

pub type_at-number : (t : DataType) → type_at (type_number t) ≡ t
type_at-number t = named t.base t.form

form-small : (f : Form) → form_number f ≤ 14
form-small form.Plain = omega arith
form-small form.Status = omega arith
form-small form.Time = omega arith

pub type_number-small : (t : DataType) → type_number t < 21
type_number-small t = omega (arith, base_number-small t.base, form-small t.form)
