-- Vocabulary: what a call answers to C, as numbers.
use Rattle.std.specs.Prelude.{ℕ, ℤ, pos, neg_ℤ, ◌≡◌, ◌≢◌, ◌⊎◌, ◌%◌, ◌/◌, ◌*◌, ◌+◌, ◌++◌}
use Rattle.std.specs.Prelude.{List, [], Option}
use Rattle.std.specs.Prelude.{Some, None, Result, Ok, Err, drop, length, min, take}
use Rattle.ca_arena.specs.declared.handle.Handle.{Handle}
use Rattle.ca_text.specs.declared.refusal.Refusal.{Refusal}
use Rattle.ca_dbr.specs.declared.data_type.DataType.{DataType}
use Rattle.ca_dbr.specs.declared.value.Meta.{Meta}
use Rattle.ca_dbr.specs.DisplayData.{DisplayData}
use Rattle.ca_dbr.specs.Elements.{Elements, base_of, count_of}
use Rattle.ca_dbr.specs.Image.{Writes}
use Rattle.ca_dbr.specs.Reading.{Reads}
use Rattle.ca_dbr.specs.Types.{base_number, type_number}
use Rattle.ca_display.specs.Image.{WritesDisplay}
use Rattle.ca_display.specs.Reading.{ReadsDisplay}
use Rattle.ca_display.specs.Types.{display_number}
use Rattle.ca_display.specs.declared.display_type.DisplayType.{DisplayType}
use Rattle.ca_text.specs.Refusal.{refusal_number}

-- the version of the interface: 1.4
abbrev pub version : ℕ
version = 65540

-- what a call on a struct with no object answers
abbrev pub no_object : ℤ
no_object = neg_ℤ (pos 100)

-- the number of a refusal, below zero
abbrev pub refusal_code : Refusal → ℤ
refusal_code r = neg_ℤ (pos (refusal_number r))

-- 0, or the number of a refusal
abbrev pub code_of : {X : Type 0} → Result X Refusal → ℤ
code_of (Ok x) = pos 0
code_of (Err r) = refusal_code r

-- the number of a handle
abbrev pub number_of : Handle → ℕ
number_of h = h.generation * 65536 + h.index

-- the handle whose number this is
abbrev pub handle_of : ℕ → Handle
handle_of n = record { index = n % 65536; generation = n / 65536 % 4294967296 }

-- what is written if a call succeeds
abbrev pub Tells : {X Y : Type 0} → (X → Y) → Result X Refusal → (before after : Y) → Type 0
Tells f (Ok x) before after = after ≡ f x
Tells f (Err r) before after = after ≡ before

-- the bytes are copied to the room, as many as it has room for, and they wait still
abbrev pub Shows : (bytes : List ℕ) → ℕ → (before after : List ℕ) → Type 0
Shows bytes n before after =
    (n ≡ min (length bytes) (length before)) × (after ≡ take n bytes ++ drop n before)

-- bytes that there may be are shown
abbrev pub ShowsAny : Option (List ℕ) → ℕ → (before after : List ℕ) → Type 0
ShowsAny (Some bytes) n before after = Shows bytes n before after
ShowsAny None n before after = (n ≡ 0) × (after ≡ before)

-- the bytes are copied as far as the room takes them, and it is told how many they are
abbrev pub ShowsAll : (bytes : List ℕ) → (size : ℕ) → (before after : List ℕ) → Type 0
ShowsAll bytes size before after =
    let k : ℕ = min (length bytes) (length before) in
    (size ≡ length bytes) × (after ≡ take k bytes ++ drop k before)

-- the same of bytes that there may be
abbrev pub ShowsAllOf : Option (List ℕ) → (size : ℕ) → (before after : List ℕ) → Type 0
ShowsAllOf (Some bytes) size before after = ShowsAll bytes size before after
ShowsAllOf None size before after = (size ≡ 0) × (after ≡ before)

-- the image of a value is copied as far as the room takes it, and its size is told
abbrev pub ShowsImage : Result (Unit {0}) Refusal → (image : List ℕ) → (size_before size_after : ℕ)
    → (before after : List ℕ) → Type 0
ShowsImage (Ok _) image size_before size_after before after = ShowsAll image size_after before after
ShowsImage (Err e) image size_before size_after before after =
    (size_after ≡ size_before) × (after ≡ before)

-- the image of this value in this type is copied, or refused
abbrev pub CopiesValue : (number : ℕ) → Elements → Meta → Result (Unit {0}) Refusal
    → (size_before size_after : ℕ) → (before after : List ℕ) → Type 0
CopiesValue number value meta r size_before size_after before after =
    (image : List ℕ)
    × (Writes number value meta [] r image × ShowsImage r image size_before size_after before after)

-- the same, with the number that says which
abbrev pub ShowsValue : (number : ℕ) → Elements → Meta → ℤ → (size_before size_after : ℕ)
    → (before after : List ℕ) → Type 0
ShowsValue number value meta n size_before size_after before after =
    (r : Result (Unit {0}) Refusal)
    × ((n ≡ code_of r) × CopiesValue number value meta r size_before size_after before after)

-- the image of this value with its display data is copied, or refused; a message counts no more
-- elements than these
abbrev pub CopiesDisplay : (number : ℕ) → Elements → Meta → DisplayData → Result (Unit {0}) Refusal
    → (size_before size_after : ℕ) → (before after : List ℕ) → Type 0
CopiesDisplay number value meta display r size_before size_after before after =
    (image : List ℕ)
    × (WritesDisplay number (min (count_of value) 4294967295) value meta display [] r image
    × ShowsImage r image size_before size_after before after)

-- the same in a graphic or control type of the value's base, with the number that says which; in
-- any other as a value without display data
abbrev pub ShowsDisplay : (number : ℕ) → Elements → Meta → DisplayData → ℤ
    → (size_before size_after : ℕ) → (before after : List ℕ) → Type 0
ShowsDisplay number value meta display n size_before size_after before after =
    let own : ℕ = base_number (base_of value) in
    (((number ≡ own + 21) ⊎ (number ≡ own + 28))
    × ((r : Result (Unit {0}) Refusal)
    × ((n ≡ code_of r)
    × CopiesDisplay number value meta display r size_before size_after before after)))
    ⊎ ((number ≢ own + 21) × (number ≢ own + 28)
    × ShowsValue number value meta n size_before size_after before after)

-- the image is that of this value with this metadata
abbrev pub IsImage : (number count : ℕ) → (image : List ℕ) → Elements → Meta → Type 0
IsImage number count image value meta =
    (form : DataType) × (type_number form ≡ number) × Reads form count image value meta

-- the image is that of this value with this metadata and these display data
abbrev pub IsDisplayImage : (number count : ℕ) → (image : List ℕ) → Elements → Meta → DisplayData
    → Type 0
IsDisplayImage number count image value meta display =
    (form : DisplayType)
    × (display_number form ≡ number) × ReadsDisplay form count image value meta display
