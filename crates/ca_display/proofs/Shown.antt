-- What a read shows of a value with display data.
use Rattle.std.proofs.Common.{◌≡◌, ℕ, ◌-◌, ◌≤◌, suc, min, List, [], ◌∷◌, length, Result, Ok, Err, refl, sym, ap, ap₂, subst, ◌∙◌, arith, ◌⊎◌, inl, inr}
use Rattle.std.specs.Prelude.{IfErr, unsigned_abs}
use Rattle.std.proofs.lemmas.List.{length-take, take_all}
use Rattle.ca_text.specs.declared.refusal.Refusal.{Refusal}
use Rattle.ca_text.specs.declared.refusal.Refusal.TheVariants as refusal
use Rattle.ca_dbr.specs.declared.data_type.BaseType.{BaseType}
use Rattle.ca_dbr.specs.declared.data_type.BaseType.TheVariants as base
use Rattle.ca_dbr.specs.DisplayData.{DisplayData}
use Rattle.ca_dbr.specs.Elements.{Elements, strings, ints, floats, enums, chars, longs, doubles, displayed, base_of, count_of}
use Rattle.ca_dbr.specs.Number.{text_of}
use Rattle.ca_dbr.specs.Conversion.{Fails, converted, first_and, gathered, in_signed, in_unsigned, then_elements, with_data}
use Rattle.ca_dbr.specs.Shown.{first_elements, shown, with_zeros, zeros_behind}
use Rattle.ca_dbr.proofs.Helds.{with_data-behind}
use Rattle.ca_dbr.proofs.Shows.{converted-based, converted-counted, shown-is, with_data-made}
use Rattle.ca_display.specs.declared.number.Number.{Number}
use Rattle.ca_display.specs.Number.{as_double, as_float, float_text}
use Rattle.ca_display.specs.Image.{IsUnshown}
use Rattle.ca_display.specs.Conversion.{and_number, as_whole, display_converted, display_shown, double_shown, enum_text, float_shown, in_numbers, of_double, of_float, of_natural, of_text, of_whole, state_of}

abbrev okay : {A : Type 0} → A → Result A Refusal
okay a = Ok a

no_err : {A : Type 0} (r : Refusal) (a : A) → Err r ≡ okay a → ⊥
no_err r a h = cc

same_ok : {A : Type 0} (e f : A) → okay e ≡ okay f → e ≡ f
same_ok e f h = cc

-- ---- type and count of what is converted

-- one result of each element
one-more : {S T : Type 0} (y : T) (zs ys : List T) (xs : List S) → length zs ≡ length xs → okay (y ∷ zs) ≡ okay ys → length ys ≡ suc (length xs)
one-more y zs ys xs size e = let same : y ∷ zs ≡ ys = cc in ap length (sym same) ∙ ap (λ (n : ℕ). suc n) size

each-gathered : {S T : Type 0} (f : S → Result T Refusal) (xs : List S) (ys : List T) → gathered f xs ≡ Ok ys → length ys ≡ length xs
each-gathered f [] ys h = let same : [] ≡ ys = cc in ap length (sym same)
each-gathered {S} {T} f (x ∷ xs) ys h =
    let by_case : (r : Result T Refusal) (rs : Result (List T) Refusal) → ((zs : List T) → rs ≡ Ok zs → length zs ≡ length xs) → first_and r rs ≡ Ok ys → length ys ≡ suc (length xs) = elim [ Ok y ↦ elim [ Ok zs ↦ λ each e. one-more y zs ys xs (each zs refl) e | Err d ↦ λ each e. absurd (no_err d ys e) ] | Err d ↦ λ rs each e. absurd (no_err d ys e) ] in
    by_case (f x) (gathered f xs) (λ zs e. each-gathered f xs zs e) h

-- elements of this type, as many
abbrev pub IsOf : BaseType → ℕ → Elements → Type 0
IsOf b n f = (base_of f ≡ b) × (count_of f ≡ n)

made-is : {T : Type 0} (made : List T → Elements) (b : BaseType) (n : ℕ) → ((ys : List T) → IsOf b (length ys) (made ys)) → (r : Result (List T) Refusal) → ((ys : List T) → r ≡ Ok ys → length ys ≡ n) → (f : Elements) → then_elements made r ≡ Ok f → IsOf b n f
made-is made b n each (Ok ys) size f h =
    let same : made ys ≡ f = same_ok (made ys) f h in
    (ap base_of (sym same) ∙ (each ys).0, ap count_of (sym same) ∙ (each ys).1 ∙ size ys refl)
made-is made b n each (Err e) size f h = absurd (no_err e f h)

in_numbers-is : {S : Type 0} (number : S → Result Number Refusal) (xs : List S) (b : BaseType) (f : Elements) → in_numbers number xs b ≡ Ok f → IsOf b (length xs) f
in_numbers-is number xs base.String f h = absurd (no_err refusal.NoConvert f h)
in_numbers-is number xs base.Int f h = made-is ints base.Int (length xs) (λ ys. (refl, refl)) _ (each-gathered (λ x. and_number (as_whole (in_signed 15) (λ z. z)) (number x)) xs) f h
in_numbers-is number xs base.Float f h = made-is floats base.Float (length xs) (λ ys. (refl, refl)) _ (each-gathered (λ x. and_number (λ n. Ok (as_float n)) (number x)) xs) f h
in_numbers-is number xs base.Enum f h = made-is enums base.Enum (length xs) (λ ys. (refl, refl)) _ (each-gathered (λ x. and_number (as_whole (in_unsigned 16) unsigned_abs) (number x)) xs) f h
in_numbers-is number xs base.Char f h = made-is chars base.Char (length xs) (λ ys. (refl, refl)) _ (each-gathered (λ x. and_number (as_whole (in_unsigned 8) unsigned_abs) (number x)) xs) f h
in_numbers-is number xs base.Long f h = made-is longs base.Long (length xs) (λ ys. (refl, refl)) _ (each-gathered (λ x. and_number (as_whole (in_signed 31) (λ z. z)) (number x)) xs) f h
in_numbers-is number xs base.Double f h = made-is doubles base.Double (length xs) (λ ys. (refl, refl)) _ (each-gathered (λ x. and_number (λ n. Ok (as_double n)) (number x)) xs) f h

-- what is converted has the wanted type, and as many elements as there were
pub display_converted-is : (d : DisplayData) (e : Elements) (b : BaseType) (f : Elements) → display_converted d e b ≡ Ok f → IsOf b (count_of e) f
display_converted-is d (strings xs) base.String f h = (converted-based (strings xs) base.String f h, converted-counted (strings xs) base.String f h)
display_converted-is d (strings xs) base.Enum f h = made-is enums base.Enum (length xs) (λ ys. (refl, refl)) _ (each-gathered (state_of d) xs) f h
display_converted-is d (strings xs) base.Float f h = made-is floats base.Float (length xs) (λ ys. (refl, refl)) _ (each-gathered (λ x. float_text (text_of x)) xs) f h
display_converted-is d (strings xs) b f h = in_numbers-is of_text xs b f h
display_converted-is d (ints xs) base.Float f h = in_numbers-is of_whole xs base.Float f h
display_converted-is d (ints xs) base.Double f h = in_numbers-is of_whole xs base.Double f h
display_converted-is d (ints xs) b f h = (converted-based (ints xs) b f h, converted-counted (ints xs) b f h)
display_converted-is d (enums xs) base.String f h = made-is strings base.String (length xs) (λ ys. (refl, refl)) _ (each-gathered (enum_text d) xs) f h
display_converted-is d (enums xs) base.Float f h = in_numbers-is of_natural xs base.Float f h
display_converted-is d (enums xs) base.Double f h = in_numbers-is of_natural xs base.Double f h
display_converted-is d (enums xs) b f h = (converted-based (enums xs) b f h, converted-counted (enums xs) b f h)
display_converted-is d (chars xs) base.Float f h = in_numbers-is of_natural xs base.Float f h
display_converted-is d (chars xs) base.Double f h = in_numbers-is of_natural xs base.Double f h
display_converted-is d (chars xs) b f h = (converted-based (chars xs) b f h, converted-counted (chars xs) b f h)
display_converted-is d (longs xs) base.Float f h = in_numbers-is of_whole xs base.Float f h
display_converted-is d (longs xs) base.Double f h = in_numbers-is of_whole xs base.Double f h
display_converted-is d (longs xs) b f h = (converted-based (longs xs) b f h, converted-counted (longs xs) b f h)
display_converted-is d (floats xs) base.Float f h = (converted-based (floats xs) base.Float f h, converted-counted (floats xs) base.Float f h)
display_converted-is d (floats xs) base.String f h = made-is strings base.String (length xs) (λ ys. (refl, refl)) _ (each-gathered (float_shown d) xs) f h
display_converted-is d (floats xs) b f h = in_numbers-is of_float xs b f h
display_converted-is d (doubles xs) base.Double f h = (converted-based (doubles xs) base.Double f h, converted-counted (doubles xs) base.Double f h)
display_converted-is d (doubles xs) base.String f h = made-is strings base.String (length xs) (λ ys. (refl, refl)) _ (each-gathered (double_shown d) xs) f h
display_converted-is d (doubles xs) b f h = in_numbers-is of_double xs b f h
display_converted-is d (displayed c e) b f h =
    let made = with_data-made c (display_converted d e b) f h in
    let is = display_converted-is d e b made.0 made.1 in
    (ap base_of made.2 ∙ is.0, ap count_of made.2 ∙ is.1)

-- ---- the first elements

pub first_elements-all : (n : ℕ) (e : Elements) → count_of e ≤ n → first_elements n e ≡ e
first_elements-all n (strings xs) h = ap (λ (l : List (List ℕ)). strings l) (take_all n xs h)
first_elements-all n (ints xs) h = ap (λ l. ints l) (take_all n xs h)
first_elements-all n (floats xs) h = ap (λ (l : List ℕ). floats l) (take_all n xs h)
first_elements-all n (enums xs) h = ap (λ (l : List ℕ). enums l) (take_all n xs h)
first_elements-all n (chars xs) h = ap (λ (l : List ℕ). chars l) (take_all n xs h)
first_elements-all n (longs xs) h = ap (λ l. longs l) (take_all n xs h)
first_elements-all n (doubles xs) h = ap (λ (l : List ℕ). doubles l) (take_all n xs h)
first_elements-all n (displayed d e) h = ap (displayed d) (first_elements-all n e h)

count_of-first : (n : ℕ) (e : Elements) → count_of (first_elements n e) ≡ min n (count_of e)
count_of-first n (strings xs) = length-take n xs
count_of-first n (ints xs) = length-take n xs
count_of-first n (floats xs) = length-take n xs
count_of-first n (enums xs) = length-take n xs
count_of-first n (chars xs) = length-take n xs
count_of-first n (longs xs) = length-take n xs
count_of-first n (doubles xs) = length-take n xs
count_of-first n (displayed d e) = count_of-first n e

-- ---- what is shown

-- in the type of the elements themselves they are shown as they are
own-shown : (e : Elements) (count : ℕ) → shown e count (base_of e) ≡ Ok (with_zeros (count - count_of e) (first_elements count e))
own-shown (strings xs) count = refl
own-shown (ints xs) count = refl
own-shown (floats xs) count = refl
own-shown (enums xs) count = refl
own-shown (chars xs) count = refl
own-shown (longs xs) count = refl
own-shown (doubles xs) count = refl
own-shown (displayed d e) count =
    with_data-behind d (count - count_of e) (converted (first_elements count e) (base_of e)) ∙ ap (λ (r : Result Elements Refusal). with_data d r) (own-shown e count)

-- and not refused
pub own-shows : (e : Elements) (count : ℕ) (r : Refusal) → shown e count (base_of e) ≡ Err r → ⊥
own-shows e count r h = no_err r (with_zeros (count - count_of e) (first_elements count e)) (sym h ∙ own-shown e count)

-- with display data they are shown so, too
same-own : (d : DisplayData) (e : Elements) (count : ℕ) → display_shown d e count (base_of e) ≡ shown e count (base_of e)
same-own d (strings xs) count = refl
same-own d (ints xs) count = refl
same-own d (floats xs) count = refl
same-own d (enums xs) count = refl
same-own d (chars xs) count = refl
same-own d (longs xs) count = refl
same-own d (doubles xs) count = refl
same-own d (displayed c e) count =
    let n = count - count_of e in
    let made = display_converted d (first_elements count e) (base_of e) in
    let own = converted (first_elements count e) (base_of e) in
    with_data-behind c n made ∙ ap (λ (r : Result Elements Refusal). with_data c r) (same-own d e count) ∙ sym (with_data-behind c n own)

-- these are shown in a type as those are with display data
abbrev pub ShowsAs : DisplayData → (given wanted : Elements) → ℕ → BaseType → Type 0
ShowsAs d g e count b = display_shown d e count b ≡ shown g count b

pub shows-own : (d : DisplayData) (e : Elements) (count : ℕ) (b : BaseType) → base_of e ≡ b → ShowsAs d e e count b
shows-own d e count b own = subst (λ (c : BaseType). ShowsAs d e e count c) own (same-own d e count)

-- so are the first elements, once they were converted
pub shows-converted : (d : DisplayData) (e g : Elements) (count : ℕ) (b : BaseType) → display_converted d (first_elements count e) b ≡ Ok g → ShowsAs d g e count b
shows-converted d e g count b h =
    let is = display_converted-is d (first_elements count e) b g h in
    let size : count_of g ≡ min count (count_of e) = is.1 ∙ count_of-first count e in
    let whole : first_elements count g ≡ g = first_elements-all count g (omega (arith, size)) in
    let rest : count - count_of e ≡ count - count_of g = omega (arith, size) in
    let own : shown g count b ≡ okay (with_zeros (count - count_of g) (first_elements count g)) = subst (λ (c : BaseType). shown g count c ≡ okay (with_zeros (count - count_of g) (first_elements count g))) is.0 (own-shown g count) in
    ap (λ (r : Result Elements Refusal). zeros_behind (count - count_of e) r) h ∙ ap₂ (λ (n : ℕ) (x : Elements). okay (with_zeros n x)) rest (sym whole) ∙ sym own

-- what is shown has the wanted type, and as many elements as are wanted
pub display_shown-is : (d : DisplayData) (e f : Elements) (count : ℕ) (b : BaseType) → display_shown d e count b ≡ Ok f → (base_of f ≡ b) × (count_of f ≡ count)
display_shown-is d e f count b h = go (display_converted d (first_elements count e) b) refl
  where
    go : (r : Result Elements Refusal) → display_converted d (first_elements count e) b ≡ r → (base_of f ≡ b) × (count_of f ≡ count)
    go (Ok g) is = shown-is g count b f (sym (shows-converted d e g count b is) ∙ h)
    go (Err k) is = absurd (no_err k f (sym (ap (λ (r : Result Elements Refusal). zeros_behind (count - count_of e) r) is) ∙ h))

-- ---- what is not shown

-- the first that does not convert decides, or there is no memory
pub unconverted : {A : Type 0} (made : Result Elements Refusal) (r : Result A Refusal) → IfErr r (Fails made) → IfErr r (λ k. (made ≡ Err k) ⊎ (k ≡ refusal.OutOfMemory))
unconverted made (Ok x) h = tt
unconverted made (Err k) (inl fault) = inl fault
unconverted made (Err k) (inr memory) = inr memory.0

pub first-unshown : (d : DisplayData) (e : Elements) (count : ℕ) (b c : BaseType) (r : Refusal) → c ≡ b → (display_converted d (first_elements count e) c ≡ Err r) ⊎ (r ≡ refusal.OutOfMemory) → IsUnshown d e count b r
first-unshown d e count b c r same (inl fault) =
    inl (subst (λ (x : BaseType). display_shown d e count x ≡ Err r) same (ap (λ (x : Result Elements Refusal). zeros_behind (count - count_of e) x) fault))
first-unshown d e count b c r same (inr memory) = inr memory
