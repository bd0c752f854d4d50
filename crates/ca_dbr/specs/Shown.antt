-- What a read shows: n elements of a value, in a type.
use Rattle.std.specs.Prelude.{ℕ, ◌≡◌, ◌<◌, ◌-◌, pos, List, ◌++◌, take, replicate, All, Result, Ok}
use Rattle.std.specs.Prelude.{Err, ◌⊎◌}
use Rattle.std.specs.List.{flat_map}
use Rattle.ca_text.specs.declared.refusal.Refusal.{Refusal}
use Rattle.ca_text.specs.declared.refusal.Refusal.TheVariants as refusal
use Rattle.ca_dbr.specs.declared.data_type.BaseType.{BaseType}
use Rattle.ca_dbr.specs.declared.data_type.DataType.{DataType}
use Rattle.ca_dbr.specs.declared.value.Meta.{Meta}
use Rattle.ca_dbr.specs.Types.{type_number}
use Rattle.ca_dbr.specs.Elements.{Elements, strings, ints, floats, enums, chars, longs, doubles}
use Rattle.ca_dbr.specs.Elements.{displayed}
use Rattle.ca_dbr.specs.Elements.{count_of, bytes_of, IsValue}
use Rattle.ca_dbr.specs.Image.{image}
use Rattle.ca_dbr.specs.Conversion.{Fails, converted}

-- n elements from the front, or all if there are fewer
abbrev pub first_elements : ℕ → Elements → Elements
first_elements n (strings xs) = strings (take n xs)
first_elements n (ints xs) = ints (take n xs)
first_elements n (floats xs) = floats (take n xs)
first_elements n (enums xs) = enums (take n xs)
first_elements n (chars xs) = chars (take n xs)
first_elements n (longs xs) = longs (take n xs)
first_elements n (doubles xs) = doubles (take n xs)
first_elements n (displayed d e) = displayed d (first_elements n e)

-- n elements of zero bytes after these
abbrev pub with_zeros : ℕ → Elements → Elements
with_zeros n (strings xs) = strings (xs ++ replicate n (replicate 40 0))
with_zeros n (ints xs) = ints (xs ++ replicate n (pos 0))
with_zeros n (floats xs) = floats (xs ++ replicate n 0)
with_zeros n (enums xs) = enums (xs ++ replicate n 0)
with_zeros n (chars xs) = chars (xs ++ replicate n 0)
with_zeros n (longs xs) = longs (xs ++ replicate n (pos 0))
with_zeros n (doubles xs) = doubles (xs ++ replicate n 0)
with_zeros n (displayed d e) = displayed d (with_zeros n e)

abbrev pub zeros_behind : ℕ → Result Elements Refusal → Result Elements Refusal
zeros_behind n (Ok e) = Ok (with_zeros n e)
zeros_behind n (Err r) = Err r

-- A count below the present one takes the first elements, before they are converted; after the
-- present ones elements of zero bytes follow.
abbrev pub shown : Elements → ℕ → BaseType → Result Elements Refusal
shown e count b = zeros_behind (count - count_of e) (converted (first_elements count e) b)

-- The bytes of the results were put after the old bytes, with this answer, and left new: after a
-- refusal some bytes may be after the old ones.
abbrev pub PutsAll : {T : Type 0} → (T → List ℕ) → (T → Type 0) → Result (List T) Refusal → List ℕ
    → Result (Unit {0}) Refusal → List ℕ → Type 0
PutsAll {T} spelled fits to old (Ok _) new =
    (ys : List T) × (to ≡ Ok ys) × (new ≡ old ++ flat_map spelled ys) × All fits ys
PutsAll spelled fits to old (Err r) new = (to ≡ Err r) × ((x : List ℕ) × (new ≡ old ++ x))

-- The elements of this result were put after the old bytes, with this answer, and left new: after a
-- refusal some bytes may be after the old ones.
abbrev pub Puts : Result Elements Refusal → List ℕ → Result (Unit {0}) Refusal → List ℕ → Type 0
Puts to old (Ok _) new = (e : Elements) × (to ≡ Ok e) × (new ≡ old ++ bytes_of e) × IsValue e
Puts to old (Err r) new = (to ≡ Err r) × ((x : List ℕ) × (new ≡ old ++ x))

-- The image of what a read shows was put after the old bytes, with this answer, and left new.
abbrev pub PutsShown : DataType → ℕ → Elements → Meta → List ℕ → Result (Unit {0}) Refusal → List ℕ
    → Type 0
PutsShown t count e m old (Ok _) new =
    (f : Elements) × (shown e count t.base ≡ Ok f) × (new ≡ old ++ image t f m) × IsValue f
PutsShown t count e m old (Err r) new =
    (shown e count t.base ≡ Err r) × ((x : List ℕ) × (new ≡ old ++ x))

-- The image of what a read shows was to be written after the old bytes, with this
-- answer, and left new.
abbrev pub WritesShown : ℕ → ℕ → Elements → Meta → List ℕ → Result (Unit {0}) Refusal → List ℕ
    → Type 0
WritesShown number count e m old (Ok _) new =
    (t : DataType) × (type_number t ≡ number)
    × ((f : Elements) × (shown e count t.base ≡ Ok f) × (new ≡ old ++ image t f m) × IsValue f)
WritesShown number count e m old (Err r) new =
    (new ≡ old)
    × (((20 < number) × (r ≡ refusal.BadType))
    ⊎ ((t : DataType) × (type_number t ≡ number) × Fails (shown e count t.base) r))
