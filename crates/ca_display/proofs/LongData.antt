-- Bytes that are long enough have display data.
use Rattle.std.proofs.Common.{◌≡◌, ◌∙◌, ℕ, zero, suc, ◌+◌, ◌-◌, ◌*◌, ◌≤◌, pos, List, [], ◌++◌, length, take, drop, replicate, refl, sym, ap, subst, arith}
use Rattle.std.specs.Int.{w16, from_be_bytes}
use Rattle.std.specs.List.{flat_map}
use Rattle.std.proofs.lemmas.List.{append-nil, length-append, length-drop, length-replicate, length-take-le, nil_from_length}
use Rattle.std.proofs.lemmas.Nat.{be_bytes_2}
use Rattle.ca_dbr.specs.declared.data_type.BaseType.{BaseType}
use Rattle.ca_dbr.specs.declared.data_type.BaseType.TheVariants as base
use Rattle.ca_dbr.specs.DisplayData.{DisplayData}
use Rattle.ca_dbr.specs.Elements.{Elements, IsValue, base_of, bytes_of, bytes_2, count_of, string_bytes}
use Rattle.ca_dbr.specs.Octets.{AreBytes}
use Rattle.ca_dbr.specs.Reading.{least_size}
use Rattle.ca_dbr.specs.Types.{element_size}
use Rattle.ca_dbr.proofs.Images.{length-pieces}
use Rattle.ca_dbr.proofs.LongBytes.{Unit-of, are-drop, are-take, each-byte, int-of, many, reading, total}
use Rattle.ca_display.specs.declared.display_type.DisplayForm.{DisplayForm}
use Rattle.ca_display.specs.declared.display_type.DisplayForm.TheVariants as form
use Rattle.ca_display.specs.Limits.{as_doubles}
use Rattle.ca_display.specs.Reading.{ReadsData, ReadsReal, ReadsStates, ReadsWhole, limits_from, no_data}
use Rattle.ca_display.specs.Types.{data_size, limit_count}
use Rattle.ca_display.proofs.Readings.{exact_body, length-as_doubles, length-names, limit_count-many, real_read, states_read, whole_read}

-- display data that a program may have: eight limits, and at most 16 states
pub record IsShort (d : DisplayData) : Type 0 where
  pub eight : length d.limits ≡ 8
  pub few : length d.states ≤ 16

-- ---- limits

-- limits in the type of an image
record Shown (b : BaseType) (f : DisplayForm) (bytes : List ℕ) : Type 0 where
  e : Elements
  spelled : bytes ≡ bytes_of e
  based : base_of e ≡ b
  counted : count_of e ≡ limit_count f
  valued : IsValue e

shown-in : (b : BaseType) (f : DisplayForm) (bytes : List ℕ) → least_size b (limit_count f) ≤ length bytes → length bytes ≡ limit_count f * element_size b → AreBytes bytes → Shown b f bytes
shown-in b f bytes long sized are =
    let r = reading b (limit_count f) bytes long are in
    record {
      e = r.0;
      spelled = exact_body b (limit_count f) bytes r.0 (limit_count-many f) sized r.1;
      based = r.1.based;
      counted = r.1.counted;
      valued = r.1.valued;
    }

limits-few : (f : DisplayForm) → limit_count f ≤ 8
limits-few form.Graphic = omega arith
limits-few form.Control = omega arith

-- those that are lacking are zero
eight-limits : (b : BaseType) (f : DisplayForm) (bytes : List ℕ) (s : Shown b f bytes) → length (limits_from s.e) ≡ 8
eight-limits b f bytes s =
    let few : length (as_doubles s.e) ≤ count_of s.e = length-as_doubles s.e in
    let most : limit_count f ≤ 8 = limits-few f in
    let zeros : List ℕ = replicate (8 - length (as_doubles s.e)) 0 in
    let filled : length zeros ≡ 8 - length (as_doubles s.e) = length-replicate {A = ℕ} (8 - length (as_doubles s.e)) 0 in
    length-append (as_doubles s.e) zeros ∙ omega (arith, few, most, filled, s.counted)

-- ---- whole numbers

-- units and limits of this type, and n bytes of padding
whole-in : (b : BaseType) (f : DisplayForm) (n : ℕ) (bytes : List ℕ) → least_size b (limit_count f) ≤ limit_count f * element_size b → length bytes ≡ 8 + limit_count f * element_size b + n → AreBytes bytes → (d : DisplayData) × ReadsWhole b f n bytes d × IsShort d
whole-in b f n bytes least sized are =
    let k : ℕ = limit_count f * element_size b in
    let part : List ℕ = take k (drop 8 bytes) in
    let behind : length (drop 8 bytes) ≡ length bytes - 8 = length-drop 8 bytes in
    let size : length part ≡ k = length-take-le k (drop 8 bytes) (omega (arith, sized, behind)) in
    let s = shown-in b f part (omega (arith, least, size)) size (are-take k (drop 8 bytes) (are-drop 8 bytes are)) in
    let d : DisplayData = record { units = take 8 bytes; precision = pos 0; limits = limits_from s.e; states = [] } in
    let reads = whole_read b f k bytes d s.e refl (omega (arith, sized)) refl s.spelled s.based s.counted s.valued refl refl refl in
    let left : length bytes - (8 + k) ≡ n = omega (arith, sized) in
    (d, subst (λ (x : ℕ). ReadsWhole b f x bytes d) left reads, record { eight = eight-limits b f part s; few = omega arith })

-- ---- FLOAT and DOUBLE

real-in : (b : BaseType) (f : DisplayForm) (bytes : List ℕ) → least_size b (limit_count f) ≤ limit_count f * element_size b → length bytes ≡ 12 + limit_count f * element_size b → AreBytes bytes → (d : DisplayData) × ReadsReal b f bytes d × IsShort d
real-in b f bytes least sized are =
    let part : List ℕ = drop 12 bytes in
    let size : length part ≡ length bytes - 12 = length-drop 12 bytes in
    let s = shown-in b f part (omega (arith, least, size, sized)) (omega (arith, size, sized)) (are-drop 12 bytes are) in
    let p = int-of (take 2 bytes) (length-take-le 2 bytes (omega (arith, sized))) (are-take 2 bytes are) in
    let d : DisplayData = record { units = take 8 (drop 4 bytes); precision = p.0; limits = limits_from s.e; states = [] } in
    (d, real_read b f bytes d p.0 s.e (omega (arith, sized)) refl p.1 p.2 refl s.spelled s.based s.counted s.valued refl refl, record { eight = eight-limits b f part s; few = omega arith })

-- ---- the names of states

name-of : (bs : List ℕ) → length bs ≡ 26 → AreBytes bs → Unit-of string_bytes (λ (x : List ℕ). length x ≡ 26) bs
unfolding string_bytes
name-of bs size are = (bs, refl, size)

number-of : (bs : List ℕ) → length bs ≡ 2 → AreBytes bs → bytes_2 (from_be_bytes w16 bs) ≡ bs
unfolding bytes_2
number-of bs size are = be_bytes_2 bs (from_be_bytes w16 bs) size (each-byte bs are) refl

total-26 : (n : ℕ) → total n 26 ≡ n * 26
total-26 zero = refl
total-26 (suc n) = (let r = total-26 n in omega (arith, r))

states-in : (n : ℕ) (bytes : List ℕ) → length bytes ≡ 418 → bytes_2 n ≡ take 2 bytes → n ≤ 16 → AreBytes bytes → (d : DisplayData) × ReadsStates bytes d × IsShort d
states-in n bytes sized counted few are =
    let rest : List ℕ = drop 2 bytes in
    let left : length rest ≡ length bytes - 2 = length-drop 2 bytes in
    let part : List ℕ = take (n * 26) rest in
    let size : length part ≡ n * 26 = length-take-le (n * 26) rest (omega (arith, left, sized, few)) in
    let m = many 26 string_bytes (λ (x : List ℕ). length x ≡ 26) name-of n part (omega (arith, total-26 n, size)) (are-take (n * 26) rest (are-drop 2 bytes are)) in
    let d : DisplayData = record { units = replicate 8 0; precision = pos 0; limits = replicate 8 0; states = m.0 } in
    let names : length (flat_map string_bytes m.0) ≡ length m.0 * 26 = length-pieces string_bytes 26 m.0 (length-names m.0 m.4) in
    let whole : length part ≡ length (flat_map string_bytes m.0) + length m.1 = ap length m.2 ∙ length-append (flat_map string_bytes m.0) m.1 in
    let none : m.1 ≡ [] = nil_from_length m.1 (omega (arith, whole, names, size, m.3)) in
    let spelled : flat_map string_bytes m.0 ≡ part = sym (m.2 ∙ ap (λ (x : List ℕ). flat_map string_bytes m.0 ++ x) none ∙ append-nil (flat_map string_bytes m.0)) in
    (d, states_read bytes d n sized (sym m.3) few counted spelled m.4 refl, record { eight = length-replicate {A = ℕ} 8 0; few = omega (arith, m.3, few) })

-- ---- any type

-- what there is between severity and value, if it is as long as the type has it, and no ENUM of more than 16 states
pub data-in : (b : BaseType) (f : DisplayForm) (bytes : List ℕ) → length bytes ≡ data_size b f → (b ≡ base.Enum → from_be_bytes w16 (take 2 bytes) ≤ 16) → AreBytes bytes → (d : DisplayData) × ReadsData b f bytes d × IsShort d
data-in base.String f bytes sized few are = (no_data, (nil_from_length bytes sized, refl), record { eight = length-replicate {A = ℕ} 8 0; few = omega arith })
data-in base.Int f bytes sized few are = whole-in base.Int f 0 bytes (omega arith) (sized ∙ omega arith) are
data-in base.Float f bytes sized few are = real-in base.Float f bytes (omega arith) sized are
data-in base.Enum f bytes sized few are =
    states-in (from_be_bytes w16 (take 2 bytes)) bytes sized (number-of (take 2 bytes) (length-take-le 2 bytes (omega (arith, sized))) (are-take 2 bytes are)) (few refl) are
data-in base.Char f bytes sized few are = whole-in base.Char f 1 bytes (omega arith) (sized ∙ omega arith) are
data-in base.Long f bytes sized few are = whole-in base.Long f 0 bytes (omega arith) (sized ∙ omega arith) are
data-in base.Double f bytes sized few are = real-in base.Double f bytes (omega arith) sized are
