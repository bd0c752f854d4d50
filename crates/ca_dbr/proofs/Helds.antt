-- What a record holds: of what it was made, and how long its image is.
use Rattle.std.proofs.Common.{◌≡◌, ℕ, ◌-◌, true, List, length, Option, Some, None, Result, Ok, Err, refl, sym, ap, subst, ◌∙◌, ℤ, pos}
use Rattle.std.specs.Prelude.{unsigned_abs}
use Rattle.ca_text.specs.declared.refusal.Refusal.{Refusal}
use Rattle.ca_text.specs.declared.refusal.Refusal.TheVariants as refusal
use Rattle.ca_dbr.specs.declared.data_type.BaseType.{BaseType}
use Rattle.ca_dbr.specs.declared.data_type.BaseType.TheVariants as base
use Rattle.ca_dbr.specs.declared.data_type.DataType.{DataType}
use Rattle.ca_dbr.specs.declared.value.Meta.{Meta}
use Rattle.ca_dbr.specs.declared.value.Value.{Value}
use Rattle.ca_dbr.specs.declared.value.Value.TheVariants as value
use Rattle.ca_dbr.specs.Types.{size_of_image}
use Rattle.ca_dbr.specs.DisplayData.{DisplayData}
use Rattle.ca_dbr.specs.Elements.{Elements, strings, ints, floats, enums, chars, longs, doubles, displayed, elements, base_of, count_of, IsValue}
use Rattle.ca_dbr.specs.Number.{text_of, number_in, number_text}
use Rattle.ca_dbr.specs.Conversion.{in_signed, in_unsigned, numbered, gathered, then_elements, in_base, with_data, converted}
use Rattle.ca_dbr.specs.Image.{image}
use Rattle.ca_dbr.specs.Shown.{first_elements, shown, zeros_behind}
use Rattle.ca_dbr.specs.Held.{IsHeldValue, bare, display_of}
use Rattle.ca_dbr.proofs.OneReading.{length-image}
use Rattle.ca_dbr.proofs.Shows.{with_data-made}
use Rattle.ca_dbr.proofs.Valued.{shown-valued}

abbrev okay : {A : Type 0} → A → Result A Refusal
okay a = Ok a

no_err : {A : Type 0} (r : Refusal) (a : A) → Err r ≡ okay a → ⊥
no_err r a h = cc

same_ok : {A : Type 0} (e f : A) → okay e ≡ okay f → e ≡ f
same_ok e f h = cc

some_none : (d : DisplayData) → Some d ≡ None → ⊥
some_none d h = cc

-- ---- elements alone

-- values of the program have no display data
pub display_of-elements : (v : Value) → display_of (elements v) ≡ None
display_of-elements (value.Strings x) = refl
display_of-elements (value.Ints x) = refl
display_of-elements (value.Floats x) = refl
display_of-elements (value.Enums x) = refl
display_of-elements (value.Chars x) = refl
display_of-elements (value.Longs x) = refl
display_of-elements (value.Doubles x) = refl

pub display_of-valued : (e : Elements) → IsValue e → display_of e ≡ None
display_of-valued (strings xs) v = refl
display_of-valued (ints xs) v = refl
display_of-valued (floats xs) v = refl
display_of-valued (enums xs) v = refl
display_of-valued (chars xs) v = refl
display_of-valued (longs xs) v = refl
display_of-valued (doubles xs) v = refl
display_of-valued (displayed d e) v = absurd v

pub bare-alone : (e : Elements) → display_of e ≡ None → bare e ≡ e
bare-alone (strings xs) h = refl
bare-alone (ints xs) h = refl
bare-alone (floats xs) h = refl
bare-alone (enums xs) h = refl
bare-alone (chars xs) h = refl
bare-alone (longs xs) h = refl
bare-alone (doubles xs) h = refl
bare-alone (displayed d e) h = absurd (some_none d h)

pub display_of-bare : (e : Elements) → display_of (bare e) ≡ None
display_of-bare (strings xs) = refl
display_of-bare (ints xs) = refl
display_of-bare (floats xs) = refl
display_of-bare (enums xs) = refl
display_of-bare (chars xs) = refl
display_of-bare (longs xs) = refl
display_of-bare (doubles xs) = refl
display_of-bare (displayed d e) = display_of-bare e

pub count_of-bare : (e : Elements) → count_of (bare e) ≡ count_of e
count_of-bare (strings xs) = refl
count_of-bare (ints xs) = refl
count_of-bare (floats xs) = refl
count_of-bare (enums xs) = refl
count_of-bare (chars xs) = refl
count_of-bare (longs xs) = refl
count_of-bare (doubles xs) = refl
count_of-bare (displayed d e) = count_of-bare e

-- a record may hold a value
pub held-valued : (e : Elements) → IsValue e → IsHeldValue e
held-valued (strings xs) v = v
held-valued (ints xs) v = v
held-valued (floats xs) v = v
held-valued (enums xs) v = v
held-valued (chars xs) v = v
held-valued (longs xs) v = v
held-valued (doubles xs) v = v
held-valued (displayed d e) v = absurd v

-- ---- conversions keep display data

bare_then : {T : Type 0} (made : List T → Elements) → ((ys : List T) → display_of (made ys) ≡ None) → (r : Result (List T) Refusal) (f : Elements) → then_elements made r ≡ Ok f → display_of f ≡ None
bare_then made each (Ok ys) f h = ap display_of (sym (same_ok (made ys) f h)) ∙ each ys
bare_then made each (Err e) f h = absurd (no_err e f h)

in_base-bare : {S : Type 0} (number : S → Option ℤ) (xs : List S) (b : BaseType) (f : Elements) → in_base number xs b ≡ Ok f → display_of f ≡ None
in_base-bare number xs base.String f h = bare_then strings (λ ys. refl) (gathered (λ x. numbered (λ _. true) number_text (number x)) xs) f h
in_base-bare number xs base.Int f h = bare_then ints (λ ys. refl) (gathered (λ x. numbered (in_signed 15) (λ z. z) (number x)) xs) f h
in_base-bare number xs base.Enum f h = bare_then enums (λ ys. refl) (gathered (λ x. numbered (in_unsigned 16) unsigned_abs (number x)) xs) f h
in_base-bare number xs base.Char f h = bare_then chars (λ ys. refl) (gathered (λ x. numbered (in_unsigned 8) unsigned_abs (number x)) xs) f h
in_base-bare number xs base.Long f h = bare_then longs (λ ys. refl) (gathered (λ x. numbered (in_signed 31) (λ z. z) (number x)) xs) f h
in_base-bare number xs base.Float f h = absurd (no_err refusal.NoConvert f h)
in_base-bare number xs base.Double f h = absurd (no_err refusal.NoConvert f h)

pub converted-display : (e : Elements) (b : BaseType) (f : Elements) → converted e b ≡ Ok f → display_of f ≡ display_of e
converted-display (strings xs) base.String f h = ap display_of (sym (same_ok (strings xs) f h))
converted-display (strings xs) b f h = in_base-bare (λ x. number_in (text_of x)) xs b f h
converted-display (ints xs) base.Int f h = ap display_of (sym (same_ok (ints xs) f h))
converted-display (ints xs) b f h = in_base-bare (λ z. Some z) xs b f h
converted-display (enums xs) base.Enum f h = ap display_of (sym (same_ok (enums xs) f h))
converted-display (enums xs) b f h = in_base-bare (λ n. Some (pos n)) xs b f h
converted-display (chars xs) base.Char f h = ap display_of (sym (same_ok (chars xs) f h))
converted-display (chars xs) b f h = in_base-bare (λ n. Some (pos n)) xs b f h
converted-display (longs xs) base.Long f h = ap display_of (sym (same_ok (longs xs) f h))
converted-display (longs xs) b f h = in_base-bare (λ z. Some z) xs b f h
converted-display (floats xs) base.Float f h = ap display_of (sym (same_ok (floats xs) f h))
converted-display (floats xs) b f h = absurd (no_err refusal.NoConvert f h)
converted-display (doubles xs) base.Double f h = ap display_of (sym (same_ok (doubles xs) f h))
converted-display (doubles xs) b f h = absurd (no_err refusal.NoConvert f h)
converted-display (displayed d e) b f h = ap display_of (with_data-made d (converted e b) f h).2

-- ---- what is shown of what a record holds

pub with_data-behind : (d : DisplayData) (n : ℕ) (r : Result Elements Refusal) → zeros_behind n (with_data d r) ≡ with_data d (zeros_behind n r)
with_data-behind d n (Ok e) = refl
with_data-behind d n (Err r) = refl

-- it may be held, too
pub shown-held : (e : Elements) (count : ℕ) (b : BaseType) (f : Elements) → IsHeldValue e → shown e count b ≡ Ok f → IsHeldValue f
shown-held (strings xs) count b f v h = held-valued f (shown-valued (strings xs) count b f v h)
shown-held (ints xs) count b f v h = held-valued f (shown-valued (ints xs) count b f v h)
shown-held (floats xs) count b f v h = held-valued f (shown-valued (floats xs) count b f v h)
shown-held (enums xs) count b f v h = held-valued f (shown-valued (enums xs) count b f v h)
shown-held (chars xs) count b f v h = held-valued f (shown-valued (chars xs) count b f v h)
shown-held (longs xs) count b f v h = held-valued f (shown-valued (longs xs) count b f v h)
shown-held (doubles xs) count b f v h = held-valued f (shown-valued (doubles xs) count b f v h)
shown-held (displayed d e) count b f v h =
    let made = with_data-made d (shown e count b) f (sym (with_data-behind d (count - count_of e) (converted (first_elements count e) b)) ∙ h) in
    subst (λ (x : Elements). IsHeldValue x) (sym made.2) (v.0, shown-valued e count b made.0 v.1 made.1)

-- how long its image is
pub length-held : (t : DataType) (e : Elements) (m : Meta) → t.base ≡ base_of e → IsHeldValue e → length (image t e m) ≡ size_of_image t (count_of e)
length-held t (strings xs) m based v = length-image t (strings xs) m based v
length-held t (ints xs) m based v = length-image t (ints xs) m based v
length-held t (floats xs) m based v = length-image t (floats xs) m based v
length-held t (enums xs) m based v = length-image t (enums xs) m based v
length-held t (chars xs) m based v = length-image t (chars xs) m based v
length-held t (longs xs) m based v = length-image t (longs xs) m based v
length-held t (doubles xs) m based v = length-image t (doubles xs) m based v
length-held t (displayed d e) m based v = length-image t e m based v.1
