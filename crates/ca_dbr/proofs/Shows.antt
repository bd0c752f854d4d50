-- What a read shows has the wanted type and count, and zero elements are zero bytes.
use Rattle.std.proofs.Common.{◌≡◌, ℕ, zero, suc, ◌+◌, ◌-◌, ◌*◌, ◌<◌, ◌^◌, min, true, List, [], ◌∷◌, ◌++◌, length, replicate, All, Option, Some, Result, Ok, Err, refl, sym, ap, subst, ◌∙◌, append_assoc, arith, ℤ, pos}
use Rattle.std.specs.Prelude.{unsigned_abs, FitsSigned}
use Rattle.std.specs.Int.{w16, w32}
use Rattle.std.specs.List.{flat_map}
use Rattle.std.proofs.lemmas.List.{length-append, length-replicate, length-take, replicate-append-replicate, get_or-replicate}
use Rattle.std.proofs.lemmas.List.Concat.{flat_map-append}
use Rattle.std.proofs.lemmas.List.Elements.{All-append}
use Rattle.ca_text.specs.declared.refusal.Refusal.{Refusal}
use Rattle.ca_text.specs.declared.refusal.Refusal.TheVariants as refusal
use Rattle.ca_dbr.specs.declared.data_type.BaseType.{BaseType}
use Rattle.ca_dbr.specs.declared.data_type.BaseType.TheVariants as base
use Rattle.ca_dbr.specs.declared.data_type.DataType.{DataType}
use Rattle.ca_dbr.specs.declared.value.Meta.{Meta}
use Rattle.ca_dbr.specs.Types.{element_size, padding_size}
use Rattle.ca_dbr.specs.DisplayData.{DisplayData}
use Rattle.ca_dbr.specs.Elements.{Elements, strings, ints, floats, enums, chars, longs, doubles, displayed, base_of, count_of, bytes_of, IsValue, string_bytes, byte_1, bytes_2, bytes_4, bytes_8, signed_bytes_2, signed_bytes_4}
use Rattle.ca_dbr.specs.Image.{meta_bytes}
use Rattle.ca_dbr.specs.Number.{text_of, number_in, number_text}
use Rattle.ca_dbr.specs.Conversion.{in_signed, in_unsigned, numbered, first_and, gathered, then_elements, in_base, with_data, converted}
use Rattle.ca_dbr.specs.Shown.{first_elements, with_zeros, zeros_behind, shown, PutsShown}

-- ---- zero bytes

zero_pieces : {X : Type 0} (f : X → List ℕ) (z : X) (size : ℕ) (n : ℕ) → f z ≡ replicate size 0 → flat_map f (replicate n z) ≡ replicate (n * size) 0
zero_pieces f z size zero h = let none : 0 ≡ zero * size = omega arith in ap (λ (k : ℕ). replicate k 0) none
zero_pieces f z size (suc n) h =
    let more : size + n * size ≡ suc n * size = omega arith in
    ap (λ (x : List ℕ). x ++ flat_map f (replicate n z)) h ∙ ap (λ (x : List ℕ). replicate size 0 ++ x) (zero_pieces f z size n h) ∙ replicate-append-replicate size (n * size) 0 ∙ ap (λ (k : ℕ). replicate k 0) more

zero_text : string_bytes (replicate 40 0) ≡ replicate 40 0
unfolding string_bytes
zero_text = refl

zero_byte_1 : byte_1 0 ≡ replicate 1 0
unfolding byte_1
zero_byte_1 = refl

zero_bytes_2 : bytes_2 0 ≡ replicate 2 0
unfolding bytes_2
zero_bytes_2 = refl

zero_bytes_4 : bytes_4 0 ≡ replicate 4 0
unfolding bytes_4
zero_bytes_4 = refl

zero_bytes_8 : bytes_8 0 ≡ replicate 8 0
unfolding bytes_8
zero_bytes_8 = refl

zero_signed_bytes_2 : signed_bytes_2 (pos 0) ≡ replicate 2 0
unfolding signed_bytes_2
zero_signed_bytes_2 = refl

zero_signed_bytes_4 : signed_bytes_4 (pos 0) ≡ replicate 4 0
unfolding signed_bytes_4
zero_signed_bytes_4 = refl

behind_pieces : {X : Type 0} (f : X → List ℕ) (z : X) (size n : ℕ) (xs : List X) → f z ≡ replicate size 0 → flat_map f (xs ++ replicate n z) ≡ flat_map f xs ++ replicate (n * size) 0
behind_pieces f z size n xs h = flat_map-append f xs (replicate n z) ∙ ap (λ (x : List ℕ). flat_map f xs ++ x) (zero_pieces f z size n h)

pub bytes_of-with_zeros : (n : ℕ) (e : Elements) → bytes_of (with_zeros n e) ≡ bytes_of e ++ replicate (n * element_size (base_of e)) 0
bytes_of-with_zeros n (strings xs) = behind_pieces string_bytes (replicate 40 0) 40 n xs zero_text
bytes_of-with_zeros n (ints xs) = behind_pieces signed_bytes_2 (pos 0) 2 n xs zero_signed_bytes_2
bytes_of-with_zeros n (floats xs) = behind_pieces bytes_4 0 4 n xs zero_bytes_4
bytes_of-with_zeros n (enums xs) = behind_pieces bytes_2 0 2 n xs zero_bytes_2
bytes_of-with_zeros n (chars xs) = behind_pieces byte_1 0 1 n xs zero_byte_1
bytes_of-with_zeros n (longs xs) = behind_pieces signed_bytes_4 (pos 0) 4 n xs zero_signed_bytes_4
bytes_of-with_zeros n (doubles xs) = behind_pieces bytes_8 0 8 n xs zero_bytes_8
bytes_of-with_zeros n (displayed d e) = bytes_of-with_zeros n e

All_behind : {X : Type 0} (P : X → Type 0) (xs : List X) (n : ℕ) (z : X) → All P xs → P z → All P (xs ++ replicate n z)
All_behind P xs n z all is = All-append P xs (replicate n z) all (λ k d h. subst P (sym (get_or-replicate n k z d (omega (arith, h, length-replicate n z)))) is)

pub IsValue-with_zeros : (n : ℕ) (e : Elements) → IsValue e → IsValue (with_zeros n e)
IsValue-with_zeros n (strings xs) v = All_behind (λ x. length x ≡ 40) xs n (replicate 40 0) v refl
IsValue-with_zeros n (ints xs) v = All_behind (λ z. FitsSigned w16 z) xs n (pos 0) v (record { sfits = omega arith })
IsValue-with_zeros n (floats xs) v = All_behind (λ k. k < 2 ^ 32) xs n 0 v (omega arith)
IsValue-with_zeros n (enums xs) v = All_behind (λ k. k < 2 ^ 16) xs n 0 v (omega arith)
IsValue-with_zeros n (chars xs) v = All_behind (λ k. k < 2 ^ 8) xs n 0 v (omega arith)
IsValue-with_zeros n (longs xs) v = All_behind (λ z. FitsSigned w32 z) xs n (pos 0) v (record { sfits = omega arith })
IsValue-with_zeros n (doubles xs) v = All_behind (λ k. k < 2 ^ 64) xs n 0 v (omega arith)
IsValue-with_zeros n (displayed d e) v = absurd v

pub base_of-with_zeros : (n : ℕ) (e : Elements) → base_of (with_zeros n e) ≡ base_of e
base_of-with_zeros n (strings xs) = refl
base_of-with_zeros n (ints xs) = refl
base_of-with_zeros n (floats xs) = refl
base_of-with_zeros n (enums xs) = refl
base_of-with_zeros n (chars xs) = refl
base_of-with_zeros n (longs xs) = refl
base_of-with_zeros n (doubles xs) = refl
base_of-with_zeros n (displayed d e) = base_of-with_zeros n e

-- ---- the type of what was converted

abbrev okay : {A : Type 0} → A → Result A Refusal
okay a = Ok a

no_err : {A : Type 0} (r : Refusal) (a : A) → Err r ≡ Ok a → ⊥
no_err r a h = cc

same_ok : {A : Type 0} (e f : A) → okay e ≡ okay f → e ≡ f
same_ok e f h = cc

based_then : {T : Type 0} (made : List T → Elements) (b : BaseType) → ((ys : List T) → base_of (made ys) ≡ b) → (r : Result (List T) Refusal) (f : Elements) → then_elements made r ≡ Ok f → base_of f ≡ b
based_then made b each (Ok ys) f h = ap base_of (sym (same_ok (made ys) f h)) ∙ each ys
based_then made b each (Err e) f h = absurd (no_err e f h)

in_base-based : {S : Type 0} (number : S → Option ℤ) (xs : List S) (b : BaseType) (f : Elements) → in_base number xs b ≡ Ok f → base_of f ≡ b
in_base-based number xs base.String f h = based_then strings base.String (λ ys. refl) (gathered (λ x. numbered (λ _. true) number_text (number x)) xs) f h
in_base-based number xs base.Int f h = based_then ints base.Int (λ ys. refl) (gathered (λ x. numbered (in_signed 15) (λ z. z) (number x)) xs) f h
in_base-based number xs base.Enum f h = based_then enums base.Enum (λ ys. refl) (gathered (λ x. numbered (in_unsigned 16) unsigned_abs (number x)) xs) f h
in_base-based number xs base.Char f h = based_then chars base.Char (λ ys. refl) (gathered (λ x. numbered (in_unsigned 8) unsigned_abs (number x)) xs) f h
in_base-based number xs base.Long f h = based_then longs base.Long (λ ys. refl) (gathered (λ x. numbered (in_signed 31) (λ z. z) (number x)) xs) f h
in_base-based number xs base.Float f h = absurd (no_err refusal.NoConvert f h)
in_base-based number xs base.Double f h = absurd (no_err refusal.NoConvert f h)

-- what has display data was made with them
pub with_data-made : (d : DisplayData) (r : Result Elements Refusal) (f : Elements) → with_data d r ≡ Ok f → (g : Elements) × (r ≡ Ok g) × (f ≡ displayed d g)
with_data-made d (Ok g) f h = (g, refl, sym (same_ok (displayed d g) f h))
with_data-made d (Err e) f h = absurd (no_err e f h)

-- what is converted has the wanted type
pub converted-based : (e : Elements) (b : BaseType) (f : Elements) → converted e b ≡ Ok f → base_of f ≡ b
converted-based (strings xs) base.String f h = ap base_of (sym (same_ok (strings xs) f h))
converted-based (strings xs) b f h = in_base-based (λ x. number_in (text_of x)) xs b f h
converted-based (ints xs) base.Int f h = ap base_of (sym (same_ok (ints xs) f h))
converted-based (ints xs) b f h = in_base-based (λ z. Some z) xs b f h
converted-based (enums xs) base.Enum f h = ap base_of (sym (same_ok (enums xs) f h))
converted-based (enums xs) b f h = in_base-based (λ n. Some (pos n)) xs b f h
converted-based (chars xs) base.Char f h = ap base_of (sym (same_ok (chars xs) f h))
converted-based (chars xs) b f h = in_base-based (λ n. Some (pos n)) xs b f h
converted-based (longs xs) base.Long f h = ap base_of (sym (same_ok (longs xs) f h))
converted-based (longs xs) b f h = in_base-based (λ z. Some z) xs b f h
converted-based (floats xs) base.Float f h = ap base_of (sym (same_ok (floats xs) f h))
converted-based (floats xs) b f h = absurd (no_err refusal.NoConvert f h)
converted-based (doubles xs) base.Double f h = ap base_of (sym (same_ok (doubles xs) f h))
converted-based (doubles xs) b f h = absurd (no_err refusal.NoConvert f h)
converted-based (displayed d e) b f h =
    let made = with_data-made d (converted e b) f h in
    ap base_of made.2 ∙ converted-based e b made.0 made.1

-- ---- its count

first_counted : {S T : Type 0} (y : T) (zs ys : List T) (xs : List S) → length zs ≡ length xs → okay (y ∷ zs) ≡ okay ys → length ys ≡ suc (length xs)
first_counted y zs ys xs size e = let same : y ∷ zs ≡ ys = cc in ap length (sym same) ∙ ap (λ (n : ℕ). suc n) size

gathered-length : {S T : Type 0} (f : S → Result T Refusal) (xs : List S) (ys : List T) → gathered f xs ≡ Ok ys → length ys ≡ length xs
gathered-length f [] ys h = let same : [] ≡ ys = cc in ap length (sym same)
gathered-length {S} {T} f (x ∷ xs) ys h =
    let by_case : (r : Result T Refusal) (rs : Result (List T) Refusal) → ((zs : List T) → rs ≡ Ok zs → length zs ≡ length xs) → first_and r rs ≡ Ok ys → length ys ≡ suc (length xs) = elim [ Ok y ↦ elim [ Ok zs ↦ λ each e. first_counted y zs ys xs (each zs refl) e | Err d ↦ λ each e. absurd (no_err d ys e) ] | Err d ↦ λ rs each e. absurd (no_err d ys e) ] in
    by_case (f x) (gathered f xs) (λ zs e. gathered-length f xs zs e) h

counted_then : {T : Type 0} (made : List T → Elements) (n : ℕ) → ((ys : List T) → count_of (made ys) ≡ length ys) → (r : Result (List T) Refusal) → ((ys : List T) → r ≡ Ok ys → length ys ≡ n) → (f : Elements) → then_elements made r ≡ Ok f → count_of f ≡ n
counted_then made n each (Ok ys) size f h = ap count_of (sym (same_ok (made ys) f h)) ∙ each ys ∙ size ys refl
counted_then made n each (Err e) size f h = absurd (no_err e f h)

in_base-counted : {S : Type 0} (number : S → Option ℤ) (xs : List S) (b : BaseType) (f : Elements) → in_base number xs b ≡ Ok f → count_of f ≡ length xs
in_base-counted number xs base.String f h = counted_then strings (length xs) (λ ys. refl) _ (gathered-length (λ x. numbered (λ _. true) number_text (number x)) xs) f h
in_base-counted number xs base.Int f h = counted_then ints (length xs) (λ ys. refl) _ (gathered-length (λ x. numbered (in_signed 15) (λ z. z) (number x)) xs) f h
in_base-counted number xs base.Enum f h = counted_then enums (length xs) (λ ys. refl) _ (gathered-length (λ x. numbered (in_unsigned 16) unsigned_abs (number x)) xs) f h
in_base-counted number xs base.Char f h = counted_then chars (length xs) (λ ys. refl) _ (gathered-length (λ x. numbered (in_unsigned 8) unsigned_abs (number x)) xs) f h
in_base-counted number xs base.Long f h = counted_then longs (length xs) (λ ys. refl) _ (gathered-length (λ x. numbered (in_signed 31) (λ z. z) (number x)) xs) f h
in_base-counted number xs base.Float f h = absurd (no_err refusal.NoConvert f h)
in_base-counted number xs base.Double f h = absurd (no_err refusal.NoConvert f h)

-- as many elements as there were
pub converted-counted : (e : Elements) (b : BaseType) (f : Elements) → converted e b ≡ Ok f → count_of f ≡ count_of e
converted-counted (strings xs) base.String f h = ap count_of (sym (same_ok (strings xs) f h))
converted-counted (strings xs) b f h = in_base-counted (λ x. number_in (text_of x)) xs b f h
converted-counted (ints xs) base.Int f h = ap count_of (sym (same_ok (ints xs) f h))
converted-counted (ints xs) b f h = in_base-counted (λ z. Some z) xs b f h
converted-counted (enums xs) base.Enum f h = ap count_of (sym (same_ok (enums xs) f h))
converted-counted (enums xs) b f h = in_base-counted (λ n. Some (pos n)) xs b f h
converted-counted (chars xs) base.Char f h = ap count_of (sym (same_ok (chars xs) f h))
converted-counted (chars xs) b f h = in_base-counted (λ n. Some (pos n)) xs b f h
converted-counted (longs xs) base.Long f h = ap count_of (sym (same_ok (longs xs) f h))
converted-counted (longs xs) b f h = in_base-counted (λ z. Some z) xs b f h
converted-counted (floats xs) base.Float f h = ap count_of (sym (same_ok (floats xs) f h))
converted-counted (floats xs) b f h = absurd (no_err refusal.NoConvert f h)
converted-counted (doubles xs) base.Double f h = ap count_of (sym (same_ok (doubles xs) f h))
converted-counted (doubles xs) b f h = absurd (no_err refusal.NoConvert f h)
converted-counted (displayed d e) b f h =
    let made = with_data-made d (converted e b) f h in
    ap count_of made.2 ∙ converted-counted e b made.0 made.1

count_of-first : (n : ℕ) (e : Elements) → count_of (first_elements n e) ≡ min n (count_of e)
count_of-first n (strings xs) = length-take n xs
count_of-first n (ints xs) = length-take n xs
count_of-first n (floats xs) = length-take n xs
count_of-first n (enums xs) = length-take n xs
count_of-first n (chars xs) = length-take n xs
count_of-first n (longs xs) = length-take n xs
count_of-first n (doubles xs) = length-take n xs
count_of-first n (displayed d e) = count_of-first n e

count_behind : {X : Type 0} (xs : List X) (n : ℕ) (z : X) → length (xs ++ replicate n z) ≡ length xs + n
count_behind xs n z = omega (arith, length-append xs (replicate n z), length-replicate n z)

count_of-with_zeros : (n : ℕ) (e : Elements) → count_of (with_zeros n e) ≡ count_of e + n
count_of-with_zeros n (strings xs) = count_behind xs n (replicate 40 0)
count_of-with_zeros n (ints xs) = count_behind xs n (pos 0)
count_of-with_zeros n (floats xs) = count_behind xs n 0
count_of-with_zeros n (enums xs) = count_behind xs n 0
count_of-with_zeros n (chars xs) = count_behind xs n 0
count_of-with_zeros n (longs xs) = count_behind xs n (pos 0)
count_of-with_zeros n (doubles xs) = count_behind xs n 0
count_of-with_zeros n (displayed d e) = count_of-with_zeros n e

shown_parts : (n : ℕ) (r : Result Elements Refusal) (f : Elements) → zeros_behind n r ≡ Ok f → (g : Elements) × (r ≡ Ok g) × (f ≡ with_zeros n g)
shown_parts n (Ok g) f h = (g, refl, sym (same_ok (with_zeros n g) f h))
shown_parts n (Err e) f h = absurd (no_err e f h)

-- a read shows elements of the wanted type, as many as are wanted
pub shown-is : (e : Elements) (count : ℕ) (b : BaseType) (f : Elements) → shown e count b ≡ Ok f → (base_of f ≡ b) × (count_of f ≡ count)
shown-is e count b f h =
    let n : ℕ = count - count_of e in
    let parts = shown_parts n (converted (first_elements count e) b) f h in
    let g : Elements = parts.0 in
    let based = ap base_of parts.2 ∙ base_of-with_zeros n g ∙ converted-based (first_elements count e) b g parts.1 in
    let counted : count_of g ≡ min count (count_of e) = converted-counted (first_elements count e) b g parts.1 ∙ count_of-first count e in
    (based, ap count_of parts.2 ∙ count_of-with_zeros n g ∙ omega (arith, counted))

regroup : (a b c d e : List ℕ) → (((a ++ b) ++ c) ++ d) ++ e ≡ a ++ (b ++ (c ++ (d ++ e)))
regroup a b c d e = simp append_assoc

regroup_three : (a b c d : List ℕ) → ((a ++ b) ++ c) ++ d ≡ a ++ (b ++ (c ++ d))
regroup_three a b c d = simp append_assoc

-- the image of what a read shows, from its parts
pub shown_written : (t : DataType) (e : Elements) (count : ℕ) (m : Meta) (g : Elements) (o0 o1 o2 o3 o4 : List ℕ) → converted (first_elements count e) t.base ≡ Ok g → IsValue g → o1 ≡ o0 ++ meta_bytes t.form m → o2 ≡ o1 ++ replicate (padding_size t.form t.base) 0 → o3 ≡ o2 ++ bytes_of g → o4 ≡ o3 ++ replicate ((count - count_of e) * element_size t.base) 0 → PutsShown t count e m o0 (Ok tt) o4
shown_written t e count m g o0 o1 o2 o3 o4 gives valued a b c d =
    let n : ℕ = count - count_of e in
    let pad : List ℕ = replicate (padding_size t.form t.base) 0 in
    let zeros : List ℕ = replicate (n * element_size t.base) 0 in
    let f : Elements = with_zeros n g in
    let spelled : bytes_of f ≡ bytes_of g ++ zeros = bytes_of-with_zeros n g ∙ ap (λ (b : BaseType). bytes_of g ++ replicate (n * element_size b) 0) (converted-based (first_elements count e) t.base g gives) in
    let whole : o4 ≡ (((o0 ++ meta_bytes t.form m) ++ pad) ++ bytes_of g) ++ zeros =
    d ∙ ap (λ (x : List ℕ). x ++ zeros) (c ∙ ap (λ (x : List ℕ). x ++ bytes_of g) (b ∙ ap (λ (x : List ℕ). x ++ pad) a)) in
    (f, ap (λ (r : Result Elements Refusal). zeros_behind n r) gives, whole ∙ regroup o0 (meta_bytes t.form m) pad (bytes_of g) zeros ∙ ap (λ (x : List ℕ). o0 ++ (meta_bytes t.form m ++ (pad ++ x))) (sym spelled), IsValue-with_zeros n g valued)

pub shown_refused : (t : DataType) (e : Elements) (count : ℕ) (m : Meta) (r : Refusal) (o0 o1 o2 o3 : List ℕ) → converted (first_elements count e) t.base ≡ Err r → o1 ≡ o0 ++ meta_bytes t.form m → o2 ≡ o1 ++ replicate (padding_size t.form t.base) 0 → ((x : List ℕ) × (o3 ≡ o2 ++ x)) → PutsShown t count e m o0 (Err r) o3
shown_refused t e count m r o0 o1 o2 o3 gives a b c =
    let pad : List ℕ = replicate (padding_size t.form t.base) 0 in
    (ap (λ (s : Result Elements Refusal). zeros_behind (count - count_of e) s) gives, (meta_bytes t.form m ++ (pad ++ c.0), c.1 ∙ ap (λ (x : List ℕ). x ++ c.0) (b ∙ ap (λ (x : List ℕ). x ++ pad) a) ∙ regroup_three o0 (meta_bytes t.form m) pad c.0))

add_mul : (a b c : ℕ) → (a + b) * c ≡ a * c + b * c
add_mul a b c = omega arith

-- the shown elements and the missing ones are as many as are wanted
pub split_size : (count n size : ℕ) → min count n * size + (count - n) * size ≡ count * size
split_size count n size = let whole : min count n + (count - n) ≡ count = omega arith in sym (add_mul (min count n) (count - n) size) ∙ ap (λ (k : ℕ). k * size) whole
