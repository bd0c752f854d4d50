-- What is read of an image with display data, and that nothing else is.
use Rattle.std.proofs.Common.{◌≡◌, ℕ, ◌+◌, ◌-◌, ◌*◌, ◌<◌, ◌≤◌, ◌⊎◌, ℤ, pos, List, [], ◌∷◌, ◌++◌, length, take, drop, replicate, All, refl, sym, ap, subst, ◌∙◌, arith, slice_index_or, ⊎_elim}
use Rattle.std.specs.Prelude.{FitsSigned}
use Rattle.std.specs.Int.{w16, from_be_bytes}
use Rattle.std.specs.List.{flat_map}
use Rattle.std.proofs.lemmas.List.{length-map, length-append, length-drop, length-replicate, length-take-le, nil_from_length, append-nil, take-append-drop, take-take, drop-take, drop-drop, drop-replicate}
use Rattle.ca_text.specs.declared.refusal.Refusal.{Refusal}
use Rattle.ca_text.specs.declared.refusal.Refusal.TheVariants as refusal
use Rattle.ca_dbr.specs.declared.data_type.BaseType.{BaseType}
use Rattle.ca_dbr.specs.declared.data_type.BaseType.TheVariants as base
use Rattle.ca_dbr.specs.declared.data_type.Form.TheVariants as plain_form
use Rattle.ca_dbr.specs.declared.data_type.DataType.{DataType}
use Rattle.ca_dbr.specs.declared.value.Meta.{Meta}
use Rattle.ca_dbr.specs.Types.{base_number, type_number, element_size}
use Rattle.ca_dbr.specs.DisplayData.{DisplayData}
use Rattle.ca_dbr.specs.Elements.{Elements, strings, ints, floats, enums, chars, longs, doubles, displayed, base_of, count_of, bytes_of, IsValue, bytes_2, signed_bytes_2, string_bytes}
use Rattle.ca_dbr.specs.Image.{meta_bytes}
use Rattle.ca_dbr.specs.Reading.{carried, filled, least_size, IsLong, IsMeta, ReadsElements, Reads, ReadRefused}
use Rattle.ca_dbr.proofs.Images.{length-bytes_of, length-bytes_2, length-signed_bytes_2, length-meta_bytes, length-pieces}
use Rattle.ca_dbr.proofs.OneReading.{base_number-small}
use Rattle.ca_dbr.proofs.Readings.{elements_long, filled_many}
use Rattle.ca_display.specs.declared.display_type.DisplayForm.{DisplayForm}
use Rattle.ca_display.specs.declared.display_type.DisplayType.{DisplayType}
use Rattle.ca_display.specs.declared.display_type.DisplayForm.TheVariants as form
use Rattle.ca_display.specs.Types.{display_number, limit_count, data_size}
use Rattle.ca_display.specs.Limits.{as_doubles, whole_as_double, natural_as_double, float_as_double, double_limit}
use Rattle.ca_dbr.specs.Data.{in_field}
use Rattle.ca_display.specs.Reading.{limits_from, ReadsLimits, ReadsReal, ReadsWhole, ReadsStates, ReadsData, ReadsDisplay, DisplayRefused}
use Rattle.ca_display.proofs.Images.{plain, plain-one}

filled_same : (b : BaseType) (count : ℕ) (bytes : List ℕ) → (count ≡ 1 → ⊥) → filled b count bytes ≡ bytes
filled_same base.String count bytes many = filled_many bytes count many
filled_same base.Int count bytes many = refl
filled_same base.Float count bytes many = refl
filled_same base.Enum count bytes many = refl
filled_same base.Char count bytes many = refl
filled_same base.Long count bytes many = refl
filled_same base.Double count bytes many = refl

-- what a plain type is read of
pub plain_body : (t : DataType) (b : BaseType) (count : ℕ) (bytes : List ℕ) (e : Elements) (m : Meta) → type_number t ≡ base_number b → Reads t count bytes e m → ReadsElements b count bytes e
plain_body t b count bytes e m n reads =
    let r : Reads (plain b) count bytes e m = subst (λ (s : DataType). Reads s count bytes e m) (plain-one t b n) reads in
    let none : r.padding ≡ [] = nil_from_length r.padding r.padded in
    let same : r.body ≡ bytes = ap (λ (x : List ℕ). x ++ r.body) (sym none) ∙ sym r.parts in
    subst (λ (x : List ℕ). ReadsElements b count x e) same r.elements

elements_size : (b : BaseType) (count : ℕ) (bytes : List ℕ) (e : Elements) → ReadsElements b count bytes e → length (bytes_of e) ≡ count * element_size b
elements_size b count bytes e r =
    length-bytes_of e r.valued ∙ ap (λ (n : ℕ). n * element_size (base_of e)) r.counted ∙ ap (λ (c : BaseType). count * element_size c) r.based

-- bytes that have just these elements
pub exact_body : (b : BaseType) (count : ℕ) (bytes : List ℕ) (e : Elements) → (count ≡ 1 → ⊥) → length bytes ≡ count * element_size b → ReadsElements b count bytes e → bytes ≡ bytes_of e
exact_body b count bytes e many sized r =
    let spelled : bytes ≡ bytes_of e ++ r.behind = sym (filled_same b count bytes many) ∙ r.spelled in
    let none : r.behind ≡ [] = nil_from_length r.behind (omega (arith, ap length spelled, length-append (bytes_of e) r.behind, elements_size b count bytes e r, sized)) in
    spelled ∙ ap (λ (x : List ℕ). bytes_of e ++ x) none ∙ append-nil (bytes_of e)

pub length-as_doubles : (e : Elements) → length (as_doubles e) ≤ count_of e
length-as_doubles (strings xs) = omega arith
length-as_doubles (ints xs) = omega (arith, length-map xs whole_as_double)
length-as_doubles (floats xs) = omega (arith, length-map xs float_as_double)
length-as_doubles (enums xs) = omega arith
length-as_doubles (chars xs) = omega (arith, length-map xs natural_as_double)
length-as_doubles (longs xs) = omega (arith, length-map xs whole_as_double)
length-as_doubles (doubles xs) = omega (arith, length-map xs double_limit)
length-as_doubles (displayed d e) = length-as_doubles e

-- a list of eight by its items
eight_parts : (xs : List ℕ) → length xs ≡ 8 → slice_index_or xs 0 0 ∷ slice_index_or xs 1 0 ∷ slice_index_or xs 2 0 ∷ slice_index_or xs 3 0 ∷ slice_index_or xs 4 0 ∷ slice_index_or xs 5 0 ∷ slice_index_or xs 6 0 ∷ slice_index_or xs 7 0 ∷ [] ≡ xs
eight_parts (a ∷ b ∷ c ∷ d ∷ e ∷ f ∷ g ∷ h ∷ []) l = refl
eight_parts [] l = absurd (omega (arith, l))
eight_parts (a ∷ []) l = absurd (omega (arith, l))
eight_parts (a ∷ b ∷ []) l = absurd (omega (arith, l))
eight_parts (a ∷ b ∷ c ∷ []) l = absurd (omega (arith, l))
eight_parts (a ∷ b ∷ c ∷ d ∷ []) l = absurd (omega (arith, l))
eight_parts (a ∷ b ∷ c ∷ d ∷ e ∷ []) l = absurd (omega (arith, l))
eight_parts (a ∷ b ∷ c ∷ d ∷ e ∷ f ∷ []) l = absurd (omega (arith, l))
eight_parts (a ∷ b ∷ c ∷ d ∷ e ∷ f ∷ g ∷ []) l = absurd (omega (arith, l))
eight_parts (a ∷ b ∷ c ∷ d ∷ e ∷ f ∷ g ∷ h ∷ i ∷ xs) l = absurd (omega (arith, l))

-- eight numbers, the last of them zero
pub eight_filled : (xs front : List ℕ) → length xs ≤ 8 → front ≡ xs → let all = front ++ drop (length xs) (replicate 8 0) in slice_index_or all 0 0 ∷ slice_index_or all 1 0 ∷ slice_index_or all 2 0 ∷ slice_index_or all 3 0 ∷ slice_index_or all 4 0 ∷ slice_index_or all 5 0 ∷ slice_index_or all 6 0 ∷ slice_index_or all 7 0 ∷ [] ≡ in_field 8 xs
eight_filled xs front few is =
    let all = front ++ drop (length xs) (replicate 8 0) in
    let same : all ≡ in_field 8 xs = ap (λ (x : List ℕ). x ++ drop (length xs) (replicate 8 0)) is ∙ ap (λ (x : List ℕ). xs ++ x) (drop-replicate (length xs) 8 0) in
    let sized : length all ≡ 8 = ap length same ∙ length-append xs (replicate (8 - length xs) 0) ∙ omega (arith, length-replicate {A = ℕ} (8 - length xs) 0) in
    eight_parts all sized ∙ same

pub limit_count-many : (f : DisplayForm) → limit_count f ≡ 1 → ⊥
limit_count-many form.Graphic e = omega (arith, e)
limit_count-many form.Control e = omega (arith, e)

-- units and limits
limits_read : (b : BaseType) (f : DisplayForm) (bytes units limits : List ℕ) (shown : Elements) → 8 ≤ length bytes → units ≡ take 8 bytes → drop 8 bytes ≡ bytes_of shown → base_of shown ≡ b → count_of shown ≡ limit_count f → IsValue shown → limits ≡ limits_from shown → ReadsLimits b f bytes units limits
limits_read b f bytes units limits shown long is_units spelled based counted valued doubled = record {
  shown = shown;
  parts = sym (take-append-drop 8 bytes) ∙ ap (λ (x : List ℕ). x ++ drop 8 bytes) (sym is_units) ∙ ap (λ (x : List ℕ). units ++ x) spelled;
  sized = ap length is_units ∙ length-take-le 8 bytes long;
  based = based;
  counted = counted;
  valued = valued;
  doubled = doubled;
}

pub whole_read : (b : BaseType) (f : DisplayForm) (n : ℕ) (bytes : List ℕ) (d : DisplayData) (shown : Elements) → n ≡ limit_count f * element_size b → 8 + n ≤ length bytes → d.units ≡ take 8 bytes → take n (drop 8 bytes) ≡ bytes_of shown → base_of shown ≡ b → count_of shown ≡ limit_count f → IsValue shown → d.limits ≡ limits_from shown → d.precision ≡ pos 0 → d.states ≡ [] → ReadsWhole b f (length bytes - (8 + limit_count f * element_size b)) bytes d
whole_read b f n bytes d shown is_n long is_units spelled based counted valued doubled exact none =
    let front : List ℕ = take (8 + n) bytes in
    let sized : length front ≡ 8 + n = length-take-le (8 + n) bytes long in
    record {
      front = front;
      padding = drop (8 + n) bytes;
      parts = sym (take-append-drop (8 + n) bytes);
      padded = length-drop (8 + n) bytes ∙ ap (λ (k : ℕ). length bytes - (8 + k)) is_n;
      limits = limits_read b f front d.units d.limits shown (omega (arith, sized)) (is_units ∙ sym (take-take 8 (8 + n) bytes (omega arith))) (drop-take 8 n bytes ∙ spelled) based counted valued doubled;
      exact = exact;
      no_states = none;
    }

pub real_read : (b : BaseType) (f : DisplayForm) (bytes : List ℕ) (d : DisplayData) (p : ℤ) (shown : Elements) → 12 ≤ length bytes → d.precision ≡ p → signed_bytes_2 p ≡ take 2 bytes → FitsSigned w16 p → d.units ≡ take 8 (drop 4 bytes) → drop 12 bytes ≡ bytes_of shown → base_of shown ≡ b → count_of shown ≡ limit_count f → IsValue shown → d.limits ≡ limits_from shown → d.states ≡ [] → ReadsReal b f bytes d
real_read b f bytes d p shown long same is_precision fits is_units spelled based counted valued doubled none = record {
  padding = take 2 (drop 2 bytes);
  behind = drop 4 bytes;
  parts = sym (take-append-drop 2 bytes) ∙ ap (λ (x : List ℕ). x ++ drop 2 bytes) (sym is_precision ∙ ap signed_bytes_2 (sym same)) ∙ ap (λ (x : List ℕ). signed_bytes_2 d.precision ++ x) (sym (take-append-drop 2 (drop 2 bytes)) ∙ ap (λ (x : List ℕ). take 2 (drop 2 bytes) ++ x) (drop-drop 2 2 bytes));
  padded = length-take-le 2 (drop 2 bytes) (omega (arith, length-drop 2 bytes));
  fits = subst (λ (z : ℤ). FitsSigned w16 z) (sym same) fits;
  limits = limits_read b f (drop 4 bytes) d.units d.limits shown (omega (arith, length-drop 4 bytes)) is_units (drop-drop 8 4 bytes ∙ spelled) based counted valued doubled;
  no_states = none;
}

pub states_read : (bytes : List ℕ) (d : DisplayData) (n : ℕ) → length bytes ≡ 418 → n ≡ length d.states → n ≤ 16 → bytes_2 n ≡ take 2 bytes → flat_map string_bytes d.states ≡ take (n * 26) (drop 2 bytes) → All (λ x. length x ≡ 26) d.states → d ≡ record { units = replicate 8 0; precision = pos 0; limits = replicate 8 0; states = d.states } → ReadsStates bytes d
states_read bytes d n sized is_n few counted spelled names only = record {
  others = drop (n * 26) (drop 2 bytes);
  parts = sym (take-append-drop 2 bytes) ∙ ap (λ (x : List ℕ). x ++ drop 2 bytes) (sym counted ∙ ap bytes_2 is_n) ∙ ap (λ (x : List ℕ). bytes_2 (length d.states) ++ x) (sym (take-append-drop (n * 26) (drop 2 bytes)) ∙ ap (λ (x : List ℕ). x ++ drop (n * 26) (drop 2 bytes)) (sym spelled));
  few = omega (arith, is_n);
  names = names;
  filled = length-drop (n * 26) (drop 2 bytes) ∙ omega (arith, length-drop 2 bytes, is_n);
  only = only;
}

limits_size : (b : BaseType) (f : DisplayForm) (bytes units limits : List ℕ) → ReadsLimits b f bytes units limits → length bytes ≡ 8 + limit_count f * element_size b
limits_size b f bytes units limits r =
    let size : length (bytes_of r.shown) ≡ limit_count f * element_size b = length-bytes_of r.shown r.valued ∙ ap (λ (n : ℕ). n * element_size (base_of r.shown)) r.counted ∙ ap (λ (c : BaseType). limit_count f * element_size c) r.based in
    ap length r.parts ∙ length-append units (bytes_of r.shown) ∙ omega (arith, size, r.sized)

whole_size : (b : BaseType) (f : DisplayForm) (n : ℕ) (bytes : List ℕ) (d : DisplayData) → ReadsWhole b f n bytes d → length bytes ≡ 8 + limit_count f * element_size b + n
whole_size b f n bytes d r =
    ap length r.parts ∙ length-append r.front r.padding ∙ omega (arith, limits_size b f r.front d.units d.limits r.limits, r.padded)

real_size : (b : BaseType) (f : DisplayForm) (bytes : List ℕ) (d : DisplayData) → ReadsReal b f bytes d → length bytes ≡ 12 + limit_count f * element_size b
real_size b f bytes d r =
    ap length r.parts ∙ length-append (signed_bytes_2 d.precision) (r.padding ++ r.behind) ∙ omega (arith, length-signed_bytes_2 d.precision, length-append r.padding r.behind, r.padded, limits_size b f r.behind d.units d.limits r.limits)

pub length-names : (xs : List (List ℕ)) → All (λ x. length x ≡ 26) xs → All (λ x. length (string_bytes x) ≡ 26) xs
unfolding string_bytes
length-names xs all = all

states_size : (bytes : List ℕ) (d : DisplayData) → ReadsStates bytes d → length bytes ≡ 418
states_size bytes d r =
    let names : length (flat_map string_bytes d.states) ≡ length d.states * 26 = length-pieces string_bytes 26 d.states (length-names d.states r.names) in
    ap length r.parts ∙ length-append (bytes_2 (length d.states)) (flat_map string_bytes d.states ++ r.others) ∙ omega (arith, length-bytes_2 (length d.states), length-append (flat_map string_bytes d.states) r.others, names, r.filled, r.few)

pub data_sized : (b : BaseType) (f : DisplayForm) (bytes : List ℕ) (d : DisplayData) → ReadsData b f bytes d → length bytes ≡ data_size b f
data_sized base.String f bytes d r = ap length r.0
data_sized base.Int f bytes d r = whole_size base.Int f 0 bytes d r ∙ omega arith
data_sized base.Float f bytes d r = real_size base.Float f bytes d r
data_sized base.Enum f bytes d r = states_size bytes d r
data_sized base.Char f bytes d r = whole_size base.Char f 1 bytes d r ∙ omega arith
data_sized base.Long f bytes d r = whole_size base.Long f 0 bytes d r ∙ omega arith
data_sized base.Double f bytes d r = real_size base.Double f bytes d r

-- what is read is long enough
pub display_long : (t : DisplayType) (count : ℕ) (bytes : List ℕ) (e : Elements) (m : Meta) (d : DisplayData) → ReadsDisplay t count bytes e m d → 4 + data_size t.base t.form + least_size t.base count ≤ length bytes
display_long t count bytes e m d r =
    omega (arith, ap length r.parts, length-append (meta_bytes plain_form.Status m) (r.middle ++ r.body), length-append r.middle r.body, length-meta_bytes plain_form.Status m, data_sized t.base t.form r.middle d r.read, elements_long t.base count r.body e r.elements)

-- the elements are not read
pub value_refused : (t : DisplayType) (number given count n : ℕ) (bytes rest body : List ℕ) (r : Refusal) → display_number t ≡ number → given ≡ base_number t.base → n ≡ data_size t.base t.form → 4 + n ≤ length bytes → rest ≡ drop 4 bytes → body ≡ drop n rest → ReadRefused given count body r → DisplayRefused number count bytes r
value_refused t number given count n bytes rest body refusal.BadType numbered is sized long is_rest is_body w = absurd (omega (arith, base_number-small t.base, w, is))
value_refused t number given count n bytes rest body refusal.Short numbered is sized long is_rest is_body w =
    let left : length body ≡ length bytes - 4 - n = ap length is_body ∙ length-drop n rest ∙ ap (λ (x : List ℕ). length x - n) is_rest ∙ ap (λ (k : ℕ). k - n) (length-drop 4 bytes) in
    (t, numbered, λ e m d read. w.2 (subst (λ (s : DataType). IsLong s count body) (sym (plain-one w.0 t.base (w.1 ∙ is))) (omega (arith, display_long t count bytes e m d read, left, sized))))
value_refused t number given count n bytes rest body refusal.OutOfMemory numbered is sized long is_rest is_body w = (t, numbered)
value_refused t number given count n bytes rest body _ numbered is sized long is_rest is_body w = absurd w

-- the display data is not read
pub data_refused : (t : DisplayType) (number count n : ℕ) (bytes rest : List ℕ) (r : Refusal) → display_number t ≡ number → n ≡ data_size t.base t.form → rest ≡ drop 4 bytes → (r ≡ refusal.OutOfMemory) ⊎ ((r ≡ refusal.BadCount) × (t.base ≡ base.Enum) × (16 < from_be_bytes w16 (take 2 (take n rest)))) → DisplayRefused number count bytes r
data_refused t number count n bytes rest r numbered sized is why =
    ⊎_elim (λ (h : r ≡ refusal.OutOfMemory). subst (λ (x : Refusal). DisplayRefused number count bytes x) (sym h) (t, numbered))
    (λ (h : (r ≡ refusal.BadCount) × (t.base ≡ base.Enum) × (16 < from_be_bytes w16 (take 2 (take n rest)))).
    let size : n ≡ 418 = sized ∙ ap (λ (b : BaseType). data_size b t.form) h.1 in
    let front : take 2 (take n rest) ≡ take 2 (drop 4 bytes) = take-take 2 n rest (omega (arith, size)) ∙ ap (λ (x : List ℕ). take 2 x) is in
    subst (λ (x : Refusal). DisplayRefused number count bytes x) (sym h.0) (t, numbered, h.1, subst (λ (x : List ℕ). 16 < from_be_bytes w16 x) front h.2))
    why

-- all parts of an image
pub display_read : (t : DisplayType) (s : DataType) (count given n : ℕ) (bytes rest body : List ℕ) (e : Elements) (m k : Meta) (d : DisplayData) → given ≡ base_number t.base → rest ≡ drop 4 bytes → body ≡ drop n rest → bytes ≡ meta_bytes plain_form.Status m ++ drop 4 bytes → IsMeta m → carried plain_form.Status m ≡ m → ReadsData t.base t.form (take n rest) d → type_number s ≡ given → Reads s count body e k → ReadsDisplay t count bytes e m d
display_read t s count given n bytes rest body e m k d is is_rest is_body front meta only read numbered reads = record {
  middle = take n rest;
  body = body;
  parts = front ∙ ap (λ (x : List ℕ). meta_bytes plain_form.Status m ++ x) (sym is_rest ∙ sym (take-append-drop n rest) ∙ ap (λ (x : List ℕ). take n rest ++ x) (sym is_body));
  read = read;
  elements = plain_body s t.base count body e k (numbered ∙ is) reads;
  meta = meta;
  only = only;
}
