-- Why elements do not convert.
use Rattle.std.proofs.Common.{◌≡◌, ℕ, ◌-◌, Bool, true, false, cond, List, [], ◌∷◌, Option, Some, None, Result, Ok, Err, IsTrue, refl, sym, ap, subst, ◌∙◌, inl, inr, ℤ, pos}
use Rattle.std.specs.Prelude.{unsigned_abs}
use Rattle.std.proofs.lemmas.Bool.{false≢true}
use Rattle.ca_text.specs.declared.refusal.Refusal.{Refusal}
use Rattle.ca_text.specs.declared.refusal.Refusal.TheVariants as refusal
use Rattle.ca_dbr.specs.declared.data_type.BaseType.{BaseType}
use Rattle.ca_dbr.specs.declared.data_type.BaseType.TheVariants as base
use Rattle.ca_dbr.specs.DisplayData.{DisplayData}
use Rattle.ca_dbr.specs.Elements.{Elements, strings, ints, floats, enums, chars, longs, doubles, displayed, base_of, count_of}
use Rattle.ca_dbr.specs.Number.{text_of, number_in, number_text}
use Rattle.ca_dbr.specs.Conversion.{in_signed, in_unsigned, numbered, first_and, gathered, then_elements, in_base, with_data, converted, has_numbers, HasConversion, IsFault}
use Rattle.ca_dbr.specs.Shown.{first_elements, with_zeros, zeros_behind, shown}

abbrev failed : {A : Type 0} → Refusal → Result A Refusal
failed r = Err r

same_err : {A : Type 0} (r s : Refusal) → failed {A = A} r ≡ failed s → r ≡ s
same_err r s h = cc

no_ok : {A : Type 0} (a : A) (r : Refusal) → Ok a ≡ failed r → ⊥
no_ok a r h = cc

fault_along : (r s : Refusal) → IsFault r → r ≡ s → IsFault s
fault_along r s f e = let P : Refusal → Type 0 = λ x. IsFault x in subst P e f

numbered-fault : {T : Type 0} (within : ℤ → Bool) (made : ℤ → T) (o : Option ℤ) (r : Refusal) → numbered within made o ≡ Err r → IsFault r
numbered-fault {T} within made None r h = fault_along refusal.BadText r (inl refl) (same_err {A = T} refusal.BadText r h)
numbered-fault {T} within made (Some z) r h =
    let by_case : (b : Bool) → cond b (Ok (made z)) (Err refusal.OutOfRange) ≡ failed r → IsFault r =
    elim [ true ↦ λ e. absurd (no_ok (made z) r e) | false ↦ λ e. fault_along refusal.OutOfRange r (inr refl) (same_err {A = T} refusal.OutOfRange r e) ] in
    by_case (within z) h

gathered-fault : {S T : Type 0} (f : S → Result T Refusal) → ((x : S) (r : Refusal) → f x ≡ Err r → IsFault r) → (xs : List S) (r : Refusal) → gathered f xs ≡ Err r → IsFault r
gathered-fault f each [] r h = absurd (no_ok [] r h)
gathered-fault {S} {T} f each (x ∷ xs) r h =
    let by_case : (a : Result T Refusal) (b : Result (List T) Refusal) → ((s : Refusal) → a ≡ Err s → IsFault s) → ((s : Refusal) → b ≡ Err s → IsFault s) → first_and a b ≡ Err r → IsFault r =
    elim [ Ok y ↦ elim [ Ok ys ↦ λ p q e. absurd (no_ok (y ∷ ys) r e) | Err d ↦ λ p q e. fault_along d r (q d refl) (same_err {A = List T} d r e) ] | Err d ↦ λ b p q e. fault_along d r (p d refl) (same_err {A = List T} d r e) ] in
    by_case (f x) (gathered f xs) (each x) (λ s e. gathered-fault f each xs s e) h

then-fault : {T : Type 0} (made : List T → Elements) (a : Result (List T) Refusal) → ((s : Refusal) → a ≡ Err s → IsFault s) → (r : Refusal) → then_elements made a ≡ Err r → IsFault r
then-fault made (Ok xs) each r h = absurd (no_ok (made xs) r h)
then-fault made (Err d) each r h = fault_along d r (each d refl) (same_err {A = Elements} d r h)

in_base-fault : {S : Type 0} (number : S → Option ℤ) (xs : List S) (b : BaseType) → IsTrue (has_numbers b) → (r : Refusal) → in_base number xs b ≡ Err r → IsFault r
in_base-fault number xs base.String t r h = then-fault strings _ (gathered-fault (λ x. numbered (λ _. true) number_text (number x)) (λ x s e. numbered-fault (λ _. true) number_text (number x) s e) xs) r h
in_base-fault number xs base.Int t r h = then-fault ints _ (gathered-fault (λ x. numbered (in_signed 15) (λ z. z) (number x)) (λ x s e. numbered-fault (in_signed 15) (λ z. z) (number x) s e) xs) r h
in_base-fault number xs base.Enum t r h = then-fault enums _ (gathered-fault (λ x. numbered (in_unsigned 16) unsigned_abs (number x)) (λ x s e. numbered-fault (in_unsigned 16) unsigned_abs (number x) s e) xs) r h
in_base-fault number xs base.Char t r h = then-fault chars _ (gathered-fault (λ x. numbered (in_unsigned 8) unsigned_abs (number x)) (λ x s e. numbered-fault (in_unsigned 8) unsigned_abs (number x) s e) xs) r h
in_base-fault number xs base.Long t r h = then-fault longs _ (gathered-fault (λ x. numbered (in_signed 31) (λ z. z) (number x)) (λ x s e. numbered-fault (in_signed 31) (λ z. z) (number x) s e) xs) r h
in_base-fault number xs base.Float t r h = absurd (false≢true t)
in_base-fault number xs base.Double t r h = absurd (false≢true t)

in_base-none : {S : Type 0} (number : S → Option ℤ) (xs : List S) (b : BaseType) → (IsTrue (has_numbers b) → ⊥) → in_base number xs b ≡ Err refusal.NoConvert
in_base-none number xs base.String n = absurd (n refl)
in_base-none number xs base.Int n = absurd (n refl)
in_base-none number xs base.Enum n = absurd (n refl)
in_base-none number xs base.Char n = absurd (n refl)
in_base-none number xs base.Long n = absurd (n refl)
in_base-none number xs base.Float n = refl
in_base-none number xs base.Double n = refl

numbers_to : (a b : BaseType) → IsTrue (has_numbers a) → (a ≡ b → ⊥) → HasConversion a b → IsTrue (has_numbers b)
numbers_to a b t other (inl e) = absurd (other e)
numbers_to a b t other (inr both) = both.1

-- no conversion is told exactly where there is none
pub converted-none : (e : Elements) (b : BaseType) → (HasConversion (base_of e) b → ⊥) → converted e b ≡ Err refusal.NoConvert
converted-none (strings xs) base.String n = absurd (n (inl refl))
converted-none (strings xs) b n = in_base-none (λ x. number_in (text_of x)) xs b (λ t. n (inr (refl, t)))
converted-none (ints xs) base.Int n = absurd (n (inl refl))
converted-none (ints xs) b n = in_base-none (λ z. Some z) xs b (λ t. n (inr (refl, t)))
converted-none (enums xs) base.Enum n = absurd (n (inl refl))
converted-none (enums xs) b n = in_base-none (λ k. Some (pos k)) xs b (λ t. n (inr (refl, t)))
converted-none (chars xs) base.Char n = absurd (n (inl refl))
converted-none (chars xs) b n = in_base-none (λ k. Some (pos k)) xs b (λ t. n (inr (refl, t)))
converted-none (longs xs) base.Long n = absurd (n (inl refl))
converted-none (longs xs) b n = in_base-none (λ z. Some z) xs b (λ t. n (inr (refl, t)))
converted-none (floats xs) base.Float n = absurd (n (inl refl))
converted-none (floats xs) b n = refl
converted-none (doubles xs) base.Double n = absurd (n (inl refl))
converted-none (doubles xs) b n = refl
converted-none (displayed d e) b n = ap (λ (r : Result Elements Refusal). with_data d r) (converted-none e b n)

with_data-fault : (d : DisplayData) (a : Result Elements Refusal) (r : Refusal) → with_data d a ≡ Err r → a ≡ Err r
with_data-fault d (Ok e) r h = absurd (no_ok (displayed d e) r h)
with_data-fault d (Err s) r h = ap (λ (x : Refusal). failed {A = Elements} x) (same_err {A = Elements} s r h)

apart : (a b : BaseType) → HasConversion a b → (has_numbers a ≡ false) → a ≡ b
apart a b (inl e) f = e
apart a b (inr both) f = absurd (false≢true (sym f ∙ both.0))

pub converted-fault : (e : Elements) (b : BaseType) → HasConversion (base_of e) b → (r : Refusal) → converted e b ≡ Err r → IsFault r
converted-fault (strings xs) base.String c r h = absurd (no_ok (strings xs) r h)
converted-fault (strings xs) b c r h = in_base-fault (λ x. number_in (text_of x)) xs b (numbers_to base.String b refl (λ e. cc) c) r h
converted-fault (ints xs) base.Int c r h = absurd (no_ok (ints xs) r h)
converted-fault (ints xs) b c r h = in_base-fault (λ z. Some z) xs b (numbers_to base.Int b refl (λ e. cc) c) r h
converted-fault (enums xs) base.Enum c r h = absurd (no_ok (enums xs) r h)
converted-fault (enums xs) b c r h = in_base-fault (λ k. Some (pos k)) xs b (numbers_to base.Enum b refl (λ e. cc) c) r h
converted-fault (chars xs) base.Char c r h = absurd (no_ok (chars xs) r h)
converted-fault (chars xs) b c r h = in_base-fault (λ k. Some (pos k)) xs b (numbers_to base.Char b refl (λ e. cc) c) r h
converted-fault (longs xs) base.Long c r h = absurd (no_ok (longs xs) r h)
converted-fault (longs xs) b c r h = in_base-fault (λ z. Some z) xs b (numbers_to base.Long b refl (λ e. cc) c) r h
converted-fault (floats xs) base.Float c r h = absurd (no_ok (floats xs) r h)
converted-fault (floats xs) b c r h = let same : base.Float ≡ b = apart base.Float b c refl in cc
converted-fault (doubles xs) base.Double c r h = absurd (no_ok (doubles xs) r h)
converted-fault (doubles xs) b c r h = let same : base.Double ≡ b = apart base.Double b c refl in cc
converted-fault (displayed d e) b c r h = converted-fault e b c r (with_data-fault d (converted e b) r h)

base_of-first : (n : ℕ) (e : Elements) → base_of (first_elements n e) ≡ base_of e
base_of-first n (strings xs) = refl
base_of-first n (ints xs) = refl
base_of-first n (floats xs) = refl
base_of-first n (enums xs) = refl
base_of-first n (chars xs) = refl
base_of-first n (longs xs) = refl
base_of-first n (doubles xs) = refl
base_of-first n (displayed d e) = base_of-first n e

zeros-fault : (n : ℕ) (a : Result Elements Refusal) (r : Refusal) → zeros_behind n a ≡ Err r → a ≡ Err r
zeros-fault n (Ok e) r h = absurd (no_ok (with_zeros n e) r h)
zeros-fault n (Err d) r h = ap (λ (s : Refusal). failed {A = Elements} s) (same_err {A = Elements} d r h)

pub shown-none : (e : Elements) (count : ℕ) (b : BaseType) → (HasConversion (base_of e) b → ⊥) → shown e count b ≡ Err refusal.NoConvert
shown-none e count b n =
    let P : BaseType → Type 0 = λ a. HasConversion a b → ⊥ in
    ap (λ (a : Result Elements Refusal). zeros_behind (count - count_of e) a) (converted-none (first_elements count e) b (subst P (sym (base_of-first count e)) n))

pub shown-fault : (e : Elements) (count : ℕ) (b : BaseType) → HasConversion (base_of e) b → (r : Refusal) → shown e count b ≡ Err r → IsFault r
shown-fault e count b c r h =
    let P : BaseType → Type 0 = λ a. HasConversion a b in
    converted-fault (first_elements count e) b (subst P (sym (base_of-first count e)) c) r (zeros-fault (count - count_of e) (converted (first_elements count e) b) r h)

not_text : refusal.OutOfMemory ≡ refusal.BadText → ⊥
not_text h = cc

not_range : refusal.OutOfMemory ≡ refusal.OutOfRange → ⊥
not_range h = cc

not_convert : refusal.NoConvert ≡ refusal.OutOfMemory → ⊥
not_convert h = cc

-- no element is refused as out of memory
fault-memory : IsFault refusal.OutOfMemory → ⊥
fault-memory (inl f) = not_text f
fault-memory (inr f) = not_range f

pub shown-memory : (e : Elements) (count : ℕ) (b : BaseType) → shown e count b ≡ Err refusal.OutOfMemory → ⊥
shown-memory e count b h =
    let none : HasConversion (base_of e) b → ⊥ = λ c. fault-memory (shown-fault e count b c refusal.OutOfMemory h) in
    not_convert (same_err {A = Elements} refusal.NoConvert refusal.OutOfMemory (sym (shown-none e count b none) ∙ h))
