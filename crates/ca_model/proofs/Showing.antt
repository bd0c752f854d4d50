-- What a record shows in a type: how many elements, of that type, and how long their image is.
use Rattle.std.proofs.Common.{◌≡◌, ℕ, ◌==◌, inl, inr, ◌+◌, ◌-◌, ◌*◌, ◌^◌, ◌<◌, ◌≤◌, List, [], ◌∷◌, ◌++◌, length, get_or, take, All, Option, Some, None, Result, Ok, Err, refl, sym, ap, subst, ◌∙◌, arith}
use Rattle.std.specs.Prelude.{ℤ, from_bits, if◌then◌else◌, nat_lt, replicate, slice_index_or}
use Rattle.std.specs.Float.{Format, binary32, binary64}
use Rattle.std.specs.Option.{IfSome}
use Rattle.std.specs.Fmt.{decimal}
use Rattle.std.specs.List.{position_or_len}
use Rattle.std.proofs.lemmas.Bool.{cases_lt}
use Rattle.std.proofs.lemmas.Fmt.{length-decimal-le}
use Rattle.std.proofs.lemmas.List.{get_or-take, get_or_past, length-append, length-replicate, length-take}
use Rattle.std.proofs.lemmas.List.Elements.{All-cons, All-nil}
use Rattle.ca_text.specs.declared.refusal.Refusal.{Refusal}
use Rattle.ca_text.specs.declared.refusal.Refusal.TheVariants as refusal
use Rattle.ca_text.specs.Limits.{element_limit, payload_limit}
use Rattle.ca_dbr.specs.declared.data_type.BaseType.{BaseType}
use Rattle.ca_dbr.specs.declared.data_type.BaseType.TheVariants as base
use Rattle.ca_dbr.specs.declared.data_type.Form.{Form}
use Rattle.ca_dbr.specs.declared.data_type.Form.TheVariants as form
use Rattle.ca_dbr.specs.declared.value.Meta.{Meta}
use Rattle.ca_dbr.specs.Conversion.{first_and, gathered, then_elements}
use Rattle.ca_dbr.specs.DisplayData.{DisplayData, IsData}
use Rattle.ca_dbr.specs.Elements.{Elements, strings, ints, floats, enums, chars, longs, doubles, displayed, base_of, bytes_of, count_of, IsValue}
use Rattle.ca_dbr.specs.Elements.{byte_1, bytes_2, bytes_4, bytes_8, signed_bytes_2, signed_bytes_4}
use Rattle.ca_dbr.specs.Held.{IsHeldValue, bare, display_of}
use Rattle.ca_dbr.specs.Image.{meta_bytes}
use Rattle.ca_dbr.specs.Number.{text_of}
use Rattle.ca_dbr.specs.Shown.{with_zeros, zeros_behind}
use Rattle.ca_dbr.specs.Types.{element_size, meta_size, padding_size, size_of_image}
use Rattle.ca_dbr.proofs.Helds.{bare-alone, display_of-valued}
use Rattle.ca_dbr.proofs.Images.{All-head, All-tail, length-byte_1, length-bytes_2, length-bytes_4, length-bytes_8, length-bytes_of, length-meta_bytes, length-pieces, length-signed_bytes_2, length-signed_bytes_4}
use Rattle.ca_dbr.proofs.OneReading.{length-image}
use Rattle.ca_dbr.proofs.Shows.{IsValue-with_zeros, shown-is}
use Rattle.ca_dbr.proofs.Valued.{shown-valued}
use Rattle.ca_display.specs.declared.display_type.DisplayForm.{DisplayForm}
use Rattle.ca_display.specs.declared.display_type.DisplayForm.TheVariants as display_form
use Rattle.ca_display.specs.declared.display_type.DisplayType.{DisplayType}
use Rattle.ca_display.specs.declared.image_type.ImageType.{ImageType}
use Rattle.ca_display.specs.declared.image_type.ImageType.TheVariants as any
use Rattle.ca_display.specs.Conversion.{display_shown, double_shown, enum_text, float_shown}
use Rattle.ca_dbr.specs.Data.{in_field}
use Rattle.ca_display.specs.Image.{data_bytes, image_in, size_in}
use Rattle.ca_display.specs.Real.{in_string, places_of, real_text, signed_units, units_text}
use Rattle.ca_display.specs.States.{name_or, state_text}
use Rattle.ca_display.specs.Types.{base_in, data_size}
use Rattle.ca_display.proofs.Again.{length-any}
use Rattle.ca_display.proofs.Shown.{display_shown-is}
use Rattle.ca_model.specs.Images.{image_by, image_of, shown_by, shown_in}

abbrev okay : {A : Type 0} → A → Result A Refusal
okay a = Ok a

no_err : {A : Type 0} (r : Refusal) (a : A) → Err r ≡ okay a → ⊥
no_err r a h = cc

same_ok : {A : Type 0} (e f : A) → okay e ≡ okay f → e ≡ f
same_ok e f h = cc

-- ---- texts that display data show

in_field-whole : (text : List ℕ) → length text ≤ 40 → length (in_field 40 text) ≡ 40
in_field-whole text short = omega (arith, short, length-append text (replicate (40 - length text) 0), length-replicate {A = ℕ} (40 - length text) 0)

in_string-whole : (text : List ℕ) → length (in_string text) ≡ 40
in_string-whole text = in_field-whole (take 40 text) (let size = length-take 40 text in omega (arith, size))

real_text-whole : (f : Format) (p : ℤ) (bits : ℕ) → length (real_text f p bits) ≡ 40
real_text-whole f p bits = in_string-whole (units_text f (places_of p) bits (if nat_lt 8 (places_of p) then None else signed_units f (10 ^ places_of p) (from_bits f bits)))

text_of-short : (bytes : List ℕ) → length (text_of bytes) ≤ length bytes
text_of-short bytes = (let size = length-take (position_or_len (λ c. c == 0) bytes) bytes in omega (arith, size))

state_text-whole : (d : DisplayData) (n : ℕ) → IsData d → n < 2 ^ 16 → length (state_text d.states n) ≡ 40
state_text-whole d n is lt = in_field-whole (name_or name (decimal n)) (by name short)
  where
    field : List ℕ
    field = slice_index_or d.states n []

    name : List ℕ
    name = text_of field

    short : length name ≤ 40
    short = elim (cases_lt n (length d.states)) [
      | inl there ↦ (let text = text_of-short field in let size : length field ≡ 26 = is.names n [] there in omega (arith, text, size))
      | inr past ↦ (let text = text_of-short field in let size = ap (λ (l : List ℕ). length l) (get_or_past d.states n [] past) in omega (arith, text, size))
    ]

    by : (text : List ℕ) → length text ≤ 40 → length (name_or text (decimal n)) ≤ 40
    by [] le = (let digits = length-decimal-le 5 n (omega arith) (omega (arith, lt)) (omega (arith, lt)) in omega (arith, digits))
    by (c ∷ cs) le = le

-- ---- elements whose texts are whole

-- each result is so
gathered-each : {S T : Type 0} (f : S → Result T Refusal) (P : S → Type 0) (Q : T → Type 0) → ((x : S) (y : T) → P x → f x ≡ Ok y → Q y) → (xs : List S) → All P xs → (ys : List T) → gathered f xs ≡ Ok ys → All Q ys
gathered-each f P Q each [] all ys h = let same : [] ≡ ys = cc in subst (λ t. All Q t) same (All-nil Q)
gathered-each {S} {T} f P Q each (x ∷ xs) all ys h = go (f x) (gathered f xs) (λ y e. each x y (All-head P x xs all) e) (λ zs e. gathered-each f P Q each xs (All-tail P x xs all) zs e) h
  where
    go : (r : Result T Refusal) (rs : Result (List T) Refusal) → ((y : T) → r ≡ Ok y → Q y) → ((zs : List T) → rs ≡ Ok zs → All Q zs) → first_and r rs ≡ Ok ys → All Q ys
    go (Ok y) (Ok zs) one more e = subst (λ t. All Q t) (same_ok (y ∷ zs) ys e) (All-cons Q y zs (one y refl) (more zs refl))
    go (Ok y) (Err d) one more e = absurd (no_err d ys e)
    go (Err d) rs one more e = absurd (no_err d ys e)

abbrev pub AreWhole : Elements → Type 0
AreWhole (strings xs) = IsValue (strings xs)
AreWhole (displayed d e) = AreWhole e
AreWhole _ = Unit {0}

whole-valued : (e : Elements) → IsValue e → AreWhole e
whole-valued (strings xs) v = v
whole-valued (displayed d e) v = absurd v
whole-valued (ints xs) v = tt
whole-valued (floats xs) v = tt
whole-valued (enums xs) v = tt
whole-valued (chars xs) v = tt
whole-valued (longs xs) v = tt
whole-valued (doubles xs) v = tt

whole-numbers : (e : Elements) → (base_of e ≡ base.String → ⊥) → AreWhole e
whole-numbers (strings xs) other = absurd (other refl)
whole-numbers (displayed d e) other = whole-numbers e other
whole-numbers (ints xs) other = tt
whole-numbers (floats xs) other = tt
whole-numbers (enums xs) other = tt
whole-numbers (chars xs) other = tt
whole-numbers (longs xs) other = tt
whole-numbers (doubles xs) other = tt

length-whole : (e : Elements) → AreWhole e → length (bytes_of e) ≡ count_of e * element_size (base_of e)
length-whole (strings xs) v = length-bytes_of (strings xs) v
length-whole (ints xs) v = length-pieces signed_bytes_2 2 xs (λ k d lt. length-signed_bytes_2 (get_or xs k d))
length-whole (floats xs) v = length-pieces bytes_4 4 xs (λ k d lt. length-bytes_4 (get_or xs k d))
length-whole (enums xs) v = length-pieces bytes_2 2 xs (λ k d lt. length-bytes_2 (get_or xs k d))
length-whole (chars xs) v = length-pieces byte_1 1 xs (λ k d lt. length-byte_1 (get_or xs k d))
length-whole (longs xs) v = length-pieces signed_bytes_4 4 xs (λ k d lt. length-signed_bytes_4 (get_or xs k d))
length-whole (doubles xs) v = length-pieces bytes_8 8 xs (λ k d lt. length-bytes_8 (get_or xs k d))
length-whole (displayed d e) v = length-whole e v

-- ---- what is shown with display data

texts-whole : (n : ℕ) (r : Result (List (List ℕ)) Refusal) (f : Elements) → ((ys : List (List ℕ)) → r ≡ Ok ys → All (λ x. length x ≡ 40) ys) → zeros_behind n (then_elements strings r) ≡ Ok f → AreWhole f
texts-whole n (Ok ys) f all h = subst AreWhole (same_ok (with_zeros n (strings ys)) f h) (IsValue-with_zeros n (strings ys) (all ys refl))
texts-whole n (Err r) f all h = absurd (no_err r f h)

All-first : {X : Type 0} (P : X → Type 0) (n : ℕ) (xs : List X) → All P xs → All P (take n xs)
All-first P n xs all = λ k d lt. let size = length-take n xs in subst P (sym (get_or-take n xs k d (omega (arith, lt, size)))) (all k d (omega (arith, lt, size)))

module _ (d : DisplayData) (n : ℕ) (f : Elements) where
  in-text : (e : Elements) → IsData d → IsValue e → display_shown d e n base.String ≡ Ok f → AreWhole f
  in-text (strings xs) is v h = whole-valued f (shown-valued (strings xs) n base.String f v h)
  in-text (ints xs) is v h = whole-valued f (shown-valued (ints xs) n base.String f v h)
  in-text (chars xs) is v h = whole-valued f (shown-valued (chars xs) n base.String f v h)
  in-text (longs xs) is v h = whole-valued f (shown-valued (longs xs) n base.String f v h)
  in-text (enums xs) is v h =
      texts-whole (n - length xs) (gathered (enum_text d) (take n xs)) f
      (λ ys e. gathered-each (enum_text d) (λ k. k < 2 ^ 16) (λ x. length x ≡ 40) (λ k y lt g. ap length (sym (same_ok (state_text d.states k) y g)) ∙ state_text-whole d k is lt) (take n xs) (All-first (λ k. k < 2 ^ 16) n xs v) ys e) h
  in-text (floats xs) is v h =
      texts-whole (n - length xs) (gathered (float_shown d) (take n xs)) f
      (λ ys e. gathered-each (float_shown d) (λ k. k < 2 ^ 32) (λ x. length x ≡ 40) (λ k y lt g. ap length (sym (same_ok (real_text binary32 d.precision k) y g)) ∙ real_text-whole binary32 d.precision k) (take n xs) (All-first (λ k. k < 2 ^ 32) n xs v) ys e) h
  in-text (doubles xs) is v h =
      texts-whole (n - length xs) (gathered (double_shown d) (take n xs)) f
      (λ ys e. gathered-each (double_shown d) (λ k. k < 2 ^ 64) (λ x. length x ≡ 40) (λ k y lt g. ap length (sym (same_ok (real_text binary64 d.precision k) y g)) ∙ real_text-whole binary64 d.precision k) (take n xs) (All-first (λ k. k < 2 ^ 64) n xs v) ys e) h
  in-text (displayed c e) is v h = absurd v

  in-numbers : (e : Elements) (b : BaseType) → (b ≡ base.String → ⊥) → display_shown d e n b ≡ Ok f → AreWhole f
  in-numbers e b other h = whole-numbers f (λ text. other (sym (display_shown-is d e f n b h).0 ∙ text))

  display_shown-whole : (e : Elements) (b : BaseType) → IsData d → IsValue e → display_shown d e n b ≡ Ok f → AreWhole f
  display_shown-whole e base.String is v h = in-text e is v h
  display_shown-whole e base.Int is v h = in-numbers e base.Int (λ s. cc) h
  display_shown-whole e base.Float is v h = in-numbers e base.Float (λ s. cc) h
  display_shown-whole e base.Enum is v h = in-numbers e base.Enum (λ s. cc) h
  display_shown-whole e base.Char is v h = in-numbers e base.Char (λ s. cc) h
  display_shown-whole e base.Long is v h = in-numbers e base.Long (λ s. cc) h
  display_shown-whole e base.Double is v h = in-numbers e base.Double (λ s. cc) h

-- ---- how long an image is

-- no elements of a type
abbrev empty : BaseType → Elements
empty base.String = strings []
empty base.Int = ints []
empty base.Float = floats []
empty base.Enum = enums []
empty base.Char = chars []
empty base.Long = longs []
empty base.Double = doubles []

abbrev IsEmpty : BaseType → Type 0
IsEmpty b = (b ≡ base_of (empty b)) × IsValue (empty b) × (count_of (empty b) * element_size b ≡ 0) × (bytes_of (empty b) ≡ [])

is-empty : (b : BaseType) → IsEmpty b
is-empty base.String = (refl, All-nil _, refl, refl)
is-empty base.Int = (refl, All-nil _, refl, refl)
is-empty base.Float = (refl, All-nil _, refl, refl)
is-empty base.Enum = (refl, All-nil _, refl, refl)
is-empty base.Char = (refl, All-nil _, refl, refl)
is-empty base.Long = (refl, All-nil _, refl, refl)
is-empty base.Double = (refl, All-nil _, refl, refl)

length-data : (t : DisplayType) (m : Meta) (d : DisplayData) → IsData d → length (data_bytes t.base t.form d) ≡ data_size t.base t.form
length-data t m d is =
    let none : Elements = empty t.base in
    let of = is-empty t.base in
    let middle : List ℕ = data_bytes t.base t.form d in
    let alarm : List ℕ = meta_bytes form.Status m in
    omega (
      arith,
      length-any (any.Display t) none m d of.0 of.1 is,
      length-append alarm (middle ++ bytes_of none),
      length-append middle (bytes_of none),
      length-meta_bytes form.Status m,
      of.2,
      ap length of.3,
    )

length-image-whole : (t : ImageType) (e : Elements) (m : Meta) (d : DisplayData) → IsData d → base_of e ≡ base_in t → AreWhole e → length (image_in t e m d) ≡ size_in t (count_of e)
length-image-whole (any.Data t) e m d is based whole =
    let zeros : List ℕ = replicate (padding_size t.form t.base) 0 in
    omega (
      arith,
      length-append (meta_bytes t.form m) (zeros ++ bytes_of e),
      length-append zeros (bytes_of e),
      length-replicate {A = ℕ} (padding_size t.form t.base) 0,
      length-meta_bytes t.form m,
      length-whole e whole,
      ap (λ (b : BaseType). count_of e * element_size b) based,
    )
length-image-whole (any.Display t) e m d is based whole =
    let middle : List ℕ = data_bytes t.base t.form d in
    let alarm : List ℕ = meta_bytes form.Status m in
    omega (
      arith,
      length-append alarm (middle ++ bytes_of e),
      length-append middle (bytes_of e),
      length-meta_bytes form.Status m,
      length-data t m d is,
      length-whole e whole,
      ap (λ (b : BaseType). count_of e * element_size b) based,
    )

module _ (t : ImageType) (n : ℕ) (f : Elements) where
  -- these are n elements of the type
  abbrev pub AreShown : Type 0
  AreShown = (base_of f ≡ base_in t) × (count_of f ≡ n)

  shown_by-is : (o : Option DisplayData) (u : ImageType) (e : Elements) → shown_by o e n u ≡ Ok f → u ≡ t → AreShown
  shown_by-is None (any.Data u) e h same = (let is = shown-is e n u.base f h in (is.0 ∙ ap base_in same, is.1))
  shown_by-is None (any.Display u) e h same = absurd (no_err refusal.BadType f h)
  shown_by-is (Some d) u e h same = (let is = display_shown-is d e f n (base_in u) h in (is.0 ∙ ap base_in same, is.1))

  pub shown_in-is : (e : Elements) → shown_in e n t ≡ Ok f → AreShown
  shown_in-is e h = shown_by-is (display_of e) t (bare e) h refl

held-parts : (e : Elements) → IsHeldValue e → IfSome (display_of e) IsData × IsValue (bare e)
held-parts (strings xs) v = (tt, v)
held-parts (ints xs) v = (tt, v)
held-parts (floats xs) v = (tt, v)
held-parts (enums xs) v = (tt, v)
held-parts (chars xs) v = (tt, v)
held-parts (longs xs) v = (tt, v)
held-parts (doubles xs) v = (tt, v)
held-parts (displayed d e) v = (v.0, subst IsValue (sym (bare-alone e (display_of-valued e v.1))) v.1)

length-image_by : (o : Option DisplayData) (t : ImageType) (n : ℕ) (e f : Elements) (m : Meta) → IfSome o IsData → IsValue e → shown_by o e n t ≡ Ok f → length (image_by o t f m) ≡ size_in t n
length-image_by None (any.Data t) n e f m is v h =
    let kind = shown-is e n t.base f h in
    length-image t f m (sym kind.0) (shown-valued e n t.base f v h) ∙ ap (λ (k : ℕ). size_of_image t k) kind.1
length-image_by None (any.Display t) n e f m is v h = absurd (no_err refusal.BadType f h)
length-image_by (Some d) t n e f m is v h =
    let kind = display_shown-is d e f n (base_in t) h in
    length-image-whole t f m d is kind.0 (display_shown-whole d n f e (base_in t) is v h) ∙ ap (λ (k : ℕ). size_in t k) kind.1

-- the image of what is shown of what a record holds
pub length-image_of : (t : ImageType) (n : ℕ) (e f : Elements) (m : Meta) → IsHeldValue e → shown_in e n t ≡ Ok f → length (image_of e t f m) ≡ size_in t n
length-image_of t n e f m valued h = (let parts = held-parts e valued in length-image_by (display_of e) t n (bare e) f m parts.0 parts.1 h)

-- ---- how long it may be

pub size_in-small : (t : ImageType) (n : ℕ) → n ≤ element_limit → size_in t n ≤ payload_limit
size_in-small (any.Data t) n few = by t.base t.form
  where
    by : (b : BaseType) (f : Form) → meta_size f + padding_size f b + n * element_size b ≤ payload_limit
    by base.String form.Plain = omega (arith, few)
    by base.String form.Status = omega (arith, few)
    by base.String form.Time = omega (arith, few)
    by base.Int form.Plain = omega (arith, few)
    by base.Int form.Status = omega (arith, few)
    by base.Int form.Time = omega (arith, few)
    by base.Float form.Plain = omega (arith, few)
    by base.Float form.Status = omega (arith, few)
    by base.Float form.Time = omega (arith, few)
    by base.Enum form.Plain = omega (arith, few)
    by base.Enum form.Status = omega (arith, few)
    by base.Enum form.Time = omega (arith, few)
    by base.Char form.Plain = omega (arith, few)
    by base.Char form.Status = omega (arith, few)
    by base.Char form.Time = omega (arith, few)
    by base.Long form.Plain = omega (arith, few)
    by base.Long form.Status = omega (arith, few)
    by base.Long form.Time = omega (arith, few)
    by base.Double form.Plain = omega (arith, few)
    by base.Double form.Status = omega (arith, few)
    by base.Double form.Time = omega (arith, few)
size_in-small (any.Display t) n few = by t.base t.form
  where
    by : (b : BaseType) (f : DisplayForm) → 4 + data_size b f + n * element_size b ≤ payload_limit
    by base.String display_form.Graphic = omega (arith, few)
    by base.String display_form.Control = omega (arith, few)
    by base.Int display_form.Graphic = omega (arith, few)
    by base.Int display_form.Control = omega (arith, few)
    by base.Float display_form.Graphic = omega (arith, few)
    by base.Float display_form.Control = omega (arith, few)
    by base.Enum display_form.Graphic = omega (arith, few)
    by base.Enum display_form.Control = omega (arith, few)
    by base.Char display_form.Graphic = omega (arith, few)
    by base.Char display_form.Control = omega (arith, few)
    by base.Long display_form.Graphic = omega (arith, few)
    by base.Long display_form.Control = omega (arith, few)
    by base.Double display_form.Graphic = omega (arith, few)
    by base.Double display_form.Control = omega (arith, few)

-- one of an element at least has a byte
pub size_in-some : (t : ImageType) (n : ℕ) → 0 < n → 0 < size_in t n
size_in-some (any.Data t) n some = by t.base (meta_size t.form + padding_size t.form t.base)
  where
    by : (b : BaseType) (k : ℕ) → 0 < k + n * element_size b
    by base.String k = omega (arith, some)
    by base.Int k = omega (arith, some)
    by base.Float k = omega (arith, some)
    by base.Enum k = omega (arith, some)
    by base.Char k = omega (arith, some)
    by base.Long k = omega (arith, some)
    by base.Double k = omega (arith, some)
size_in-some (any.Display t) n some = omega arith
