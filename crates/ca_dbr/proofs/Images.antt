-- How long images are.
use Rattle.std.proofs.Common.{◌≡◌, ℕ, suc, ◌*◌, List, [], ◌∷◌, ◌++◌, length, get_or, All, refl, ◌∙◌, arith, ℤ}
use Rattle.std.specs.List.{flat_map}
use Rattle.std.proofs.lemmas.List.{length-append}
use Rattle.ca_dbr.specs.declared.data_type.Form.{Form}
use Rattle.ca_dbr.specs.declared.data_type.Form.TheVariants as form
use Rattle.ca_dbr.specs.declared.value.Meta.{Meta}
use Rattle.ca_dbr.specs.Types.{element_size, meta_size}
use Rattle.ca_dbr.specs.Elements.{Elements, strings, ints, floats, enums, chars, longs, doubles, displayed, base_of, count_of, bytes_of, IsValue, string_bytes, byte_1, bytes_2, bytes_4, bytes_8, signed_bytes_2, signed_bytes_4}
use Rattle.ca_dbr.specs.Image.{meta_bytes}

pub All-head : {X : Type 0} (P : X → Type 0) (x : X) (xs : List X) → All P (x ∷ xs) → P x
All-head P x xs all = all 0 x (omega arith)

pub All-tail : {X : Type 0} (P : X → Type 0) (x : X) (xs : List X) → All P (x ∷ xs) → All P xs
All-tail P x xs all = λ k d h. all (suc k) d (omega arith)

-- pieces of one length, one after another
pub length-pieces : {X : Type 0} (f : X → List ℕ) (size : ℕ) (xs : List X) → All (λ x. length (f x) ≡ size) xs → length (flat_map f xs) ≡ length xs * size
length-pieces f size [] all = omega arith
length-pieces f size (x ∷ xs) all =
    let rest = length-pieces f size xs (All-tail (λ y. length (f y) ≡ size) x xs all) in
    let first = All-head (λ y. length (f y) ≡ size) x xs all in
    length-append (f x) (flat_map f xs) ∙ omega (arith, rest, first)

pub length-byte_1 : (n : ℕ) → length (byte_1 n) ≡ 1
unfolding byte_1
length-byte_1 n = refl

pub length-bytes_2 : (n : ℕ) → length (bytes_2 n) ≡ 2
unfolding bytes_2
length-bytes_2 n = refl

pub length-bytes_4 : (n : ℕ) → length (bytes_4 n) ≡ 4
unfolding bytes_4
length-bytes_4 n = refl

pub length-bytes_8 : (n : ℕ) → length (bytes_8 n) ≡ 8
unfolding bytes_8
length-bytes_8 n = refl

pub length-signed_bytes_2 : (z : ℤ) → length (signed_bytes_2 z) ≡ 2
unfolding signed_bytes_2
length-signed_bytes_2 z = refl

pub length-signed_bytes_4 : (z : ℤ) → length (signed_bytes_4 z) ≡ 4
unfolding signed_bytes_4
length-signed_bytes_4 z = refl

length-texts : (xs : List (List ℕ)) → All (λ x. length x ≡ 40) xs → All (λ x. length (string_bytes x) ≡ 40) xs
unfolding string_bytes
length-texts xs all = all

pub length-bytes_of : (e : Elements) → IsValue e → length (bytes_of e) ≡ count_of e * element_size (base_of e)
length-bytes_of (strings xs) v = length-pieces string_bytes 40 xs (length-texts xs v)
length-bytes_of (ints xs) v = length-pieces signed_bytes_2 2 xs (λ k d h. length-signed_bytes_2 (get_or xs k d))
length-bytes_of (floats xs) v = length-pieces bytes_4 4 xs (λ k d h. length-bytes_4 (get_or xs k d))
length-bytes_of (enums xs) v = length-pieces bytes_2 2 xs (λ k d h. length-bytes_2 (get_or xs k d))
length-bytes_of (chars xs) v = length-pieces byte_1 1 xs (λ k d h. length-byte_1 (get_or xs k d))
length-bytes_of (longs xs) v = length-pieces signed_bytes_4 4 xs (λ k d h. length-signed_bytes_4 (get_or xs k d))
length-bytes_of (doubles xs) v = length-pieces bytes_8 8 xs (λ k d h. length-bytes_8 (get_or xs k d))
length-bytes_of (displayed d e) v = absurd v

pub length-meta_bytes : (f : Form) (m : Meta) → length (meta_bytes f m) ≡ meta_size f
length-meta_bytes form.Plain m = refl
length-meta_bytes form.Status m =
    length-append (bytes_2 m.status) (bytes_2 m.severity) ∙ omega (arith, length-bytes_2 m.status, length-bytes_2 m.severity)
length-meta_bytes form.Time m =
    omega (arith, length-append (bytes_2 m.status) (bytes_2 m.severity ++ (bytes_4 m.seconds ++ bytes_4 m.nanos)), length-append (bytes_2 m.severity) (bytes_4 m.seconds ++ bytes_4 m.nanos), length-append (bytes_4 m.seconds) (bytes_4 m.nanos), length-bytes_2 m.status, length-bytes_2 m.severity, length-bytes_4 m.seconds, length-bytes_4 m.nanos)
