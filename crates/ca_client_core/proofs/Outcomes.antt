-- Each image has an outcome: its value, why it has none, or the status.
use Rattle.std.proofs.Common.{◌≡◌, ◌∙◌, ℕ, zero, suc, ◌+◌, ◌-◌, ◌<◌, ◌≤◌, ◌^◌, inl, inr, Global, Vec, List, ◌++◌, ap, append_assoc, arith, drop, length, length-drop, refl, subst, sym, take}
use Rattle.std.proofs.lemmas.Bool.{cases_eq, cases_lt}
use Rattle.std.proofs.lemmas.List.{drop-drop, length-take-le, take-append-drop}
use Rattle.ca_text.specs.Status.{normal}
use Rattle.ca_text.specs.declared.refusal.Refusal.TheVariants as refusal
use Rattle.ca_dbr.specs.Octets.{AreBytes}
use Rattle.ca_dbr.specs.declared.data_type.DataType.{DataType}
use Rattle.ca_dbr.specs.declared.data_type.Form.{Form}
use Rattle.ca_dbr.specs.declared.data_type.Form.TheVariants as form
use Rattle.ca_dbr.specs.declared.value.Meta.{Meta}
use Rattle.ca_dbr.specs.declared.value.Outcome.{Outcome}
use Rattle.ca_dbr.specs.declared.value.Outcome.TheVariants as outcome
use Rattle.ca_dbr.specs.declared.value.Value.{Value}
use Rattle.ca_dbr.specs.declared.value.Value.TheVariants as value
use Rattle.ca_dbr.specs.Elements.{Elements, IsValue, bytes_2, bytes_4, chars, count_of, displayed, doubles, elements, enums, floats, ints, longs, strings}
use Rattle.ca_dbr.specs.Image.{meta_bytes}
use Rattle.ca_dbr.specs.Reading.{IsLong, IsMeta, Reads, ReadsElements, carried, least_size}
use Rattle.ca_dbr.specs.Types.{meta_size, padding_size, type_at, type_number}
use Rattle.ca_dbr.proofs.LongBytes.{are-drop, are-take, enum-of, float-of, reading}
use Rattle.ca_dbr.proofs.Readings.{reads_long, reads_parts}
use Rattle.ca_wire.specs.Fields.{Fields}
use Rattle.ca_requests.specs.Meaning.{ImageMeans}

-- ---- the type of a number

pub type-of : (n : ℕ) → n ≤ 20 → type_number (type_at n) ≡ n
type-of zero small = refl
type-of (suc zero) small = refl
type-of (suc (suc zero)) small = refl
type-of (suc (suc (suc zero))) small = refl
type-of (suc (suc (suc (suc zero)))) small = refl
type-of (suc (suc (suc (suc (suc zero))))) small = refl
type-of (suc (suc (suc (suc (suc (suc zero)))))) small = refl
type-of (suc (suc (suc (suc (suc (suc (suc zero))))))) small = refl
type-of (suc (suc (suc (suc (suc (suc (suc (suc zero)))))))) small = refl
type-of (suc (suc (suc (suc (suc (suc (suc (suc (suc zero))))))))) small = refl
type-of (suc (suc (suc (suc (suc (suc (suc (suc (suc (suc zero)))))))))) small = refl
type-of (suc (suc (suc (suc (suc (suc (suc (suc (suc (suc (suc zero))))))))))) small = refl
type-of (suc (suc (suc (suc (suc (suc (suc (suc (suc (suc (suc (suc zero)))))))))))) small = refl
type-of (suc (suc (suc (suc (suc (suc (suc (suc (suc (suc (suc (suc (suc zero))))))))))))) small = refl
type-of (suc (suc (suc (suc (suc (suc (suc (suc (suc (suc (suc (suc (suc (suc zero)))))))))))))) small = refl
type-of (suc (suc (suc (suc (suc (suc (suc (suc (suc (suc (suc (suc (suc (suc (suc zero))))))))))))))) small = refl
type-of (suc (suc (suc (suc (suc (suc (suc (suc (suc (suc (suc (suc (suc (suc (suc (suc zero)))))))))))))))) small = refl
type-of (suc (suc (suc (suc (suc (suc (suc (suc (suc (suc (suc (suc (suc (suc (suc (suc (suc zero))))))))))))))))) small = refl
type-of (suc (suc (suc (suc (suc (suc (suc (suc (suc (suc (suc (suc (suc (suc (suc (suc (suc (suc zero)))))))))))))))))) small = refl
type-of (suc (suc (suc (suc (suc (suc (suc (suc (suc (suc (suc (suc (suc (suc (suc (suc (suc (suc (suc zero))))))))))))))))))) small = refl
type-of (suc (suc (suc (suc (suc (suc (suc (suc (suc (suc (suc (suc (suc (suc (suc (suc (suc (suc (suc (suc zero)))))))))))))))))))) small = refl
type-of (suc (suc (suc (suc (suc (suc (suc (suc (suc (suc (suc (suc (suc (suc (suc (suc (suc (suc (suc (suc (suc n))))))))))))))))))))) small = absurd (omega arith)

-- ---- metadata

-- the metadata at the front of these bytes
pub record HasMeta (f : Form) (bytes : List ℕ) : Type 0 where
  pub m : Meta
  pub front : bytes ≡ meta_bytes f m ++ drop (meta_size f) bytes
  pub fits : IsMeta m
  pub only : carried f m ≡ m

-- two parts of a list, of these sizes
parts-of : (n : ℕ) (bytes : List ℕ) (a : List ℕ) → a ≡ take n bytes → bytes ≡ a ++ drop n bytes
parts-of n bytes a is = sym (take-append-drop n bytes) ∙ ap (λ (x : List ℕ). x ++ drop n bytes) (sym is)

pub meta-of : (f : Form) (bytes : List ℕ) → meta_size f ≤ length bytes → AreBytes bytes → HasMeta f bytes
meta-of form.Plain bytes long are = record {
  m = record { status = 0; severity = 0; seconds = 0; nanos = 0 };
  front = refl;
  fits = record { status = omega arith; severity = omega arith; seconds = omega arith; nanos = omega arith };
  only = refl;
}
meta-of form.Status bytes long are =
    let s = enum-of (take 2 bytes) (length-take-le 2 bytes (omega (arith, long))) (are-take 2 bytes are) in
    let rest : List ℕ = drop 2 bytes in
    let left : length rest ≡ length bytes - 2 = length-drop 2 bytes in
    let v = enum-of (take 2 rest) (length-take-le 2 rest (omega (arith, long, left))) (are-take 2 rest (are-drop 2 bytes are)) in
    let ss = s.2 in
    let sv = v.2 in
    record {
      m = record { status = s.0; severity = v.0; seconds = 0; nanos = 0 };
      front = parts-of 2 bytes (bytes_2 s.0) s.1
          ∙ ap (λ (x : List ℕ). bytes_2 s.0 ++ x) (parts-of 2 rest (bytes_2 v.0) v.1 ∙ ap (λ (x : List ℕ). bytes_2 v.0 ++ x) (drop-drop 2 2 bytes))
          ∙ sym (append_assoc (bytes_2 s.0) (bytes_2 v.0) (drop 4 bytes));
      fits = record { status = ss; severity = sv; seconds = omega arith; nanos = omega arith };
      only = refl;
    }
meta-of form.Time bytes long are =
    let s = enum-of (take 2 bytes) (length-take-le 2 bytes (omega (arith, long))) (are-take 2 bytes are) in
    let rest : List ℕ = drop 2 bytes in
    let left : length rest ≡ length bytes - 2 = length-drop 2 bytes in
    let v = enum-of (take 2 rest) (length-take-le 2 rest (omega (arith, long, left))) (are-take 2 rest (are-drop 2 bytes are)) in
    let more : List ℕ = drop 2 rest in
    let least : length more ≡ length rest - 2 = length-drop 2 rest in
    let t = float-of (take 4 more) (length-take-le 4 more (omega (arith, long, left, least))) (are-take 4 more (are-drop 2 rest (are-drop 2 bytes are))) in
    let last : List ℕ = drop 4 more in
    let end : length last ≡ length more - 4 = length-drop 4 more in
    let n = float-of (take 4 last) (length-take-le 4 last (omega (arith, long, left, least, end))) (are-take 4 last (are-drop 4 more (are-drop 2 rest (are-drop 2 bytes are)))) in
    let ss = s.2 in
    let sv = v.2 in
    let st = t.2 in
    let sn = n.2 in
    let behind : drop 4 last ≡ drop 12 bytes = ap (λ (x : List ℕ). drop 4 (drop 4 x)) (drop-drop 2 2 bytes) ∙ ap (drop 4) (drop-drop 4 4 bytes) ∙ drop-drop 4 8 bytes in
    record {
      m = record { status = s.0; severity = v.0; seconds = t.0; nanos = n.0 };
      front = parts-of 2 bytes (bytes_2 s.0) s.1
          ∙ ap (λ (x : List ℕ). bytes_2 s.0 ++ x)
          (parts-of 2 rest (bytes_2 v.0) v.1
          ∙ ap (λ (x : List ℕ). bytes_2 v.0 ++ x)
          (parts-of 4 more (bytes_4 t.0) t.1
          ∙ ap (λ (x : List ℕ). bytes_4 t.0 ++ x) (parts-of 4 last (bytes_4 n.0) n.1 ∙ ap (λ (x : List ℕ). bytes_4 n.0 ++ x) behind)))
          ∙ regroup (bytes_2 s.0) (bytes_2 v.0) (bytes_4 t.0) (bytes_4 n.0) (drop 12 bytes);
      fits = record { status = ss; severity = sv; seconds = st; nanos = sn };
      only = refl;
    }
  where
    regroup : (a b c d e : List ℕ) → a ++ (b ++ (c ++ (d ++ e))) ≡ (a ++ (b ++ (c ++ d))) ++ e
    regroup a b c d e = simp append_assoc

-- ---- values

-- a list in memory, beside one that is there
abbrev pub vec_of : {X Y Z : Type 0} → Vec Y Z → (xs : List X) → length xs < 2 ^ 32 → Vec X Z
vec_of w xs small = record { ptr = w.ptr; len = length xs; cap = length xs; alloc = w.alloc; items = xs; ok = (refl, omega arith); small = omega (arith, small) }

pub value-of : {Y : Type 0} (w : Vec Y Global) (e : Elements) → count_of e < 2 ^ 32 → IsValue e → (v : Value) × (elements v ≡ e)
value-of w (strings xs) small valued = (value.Strings (vec_of w xs small), refl)
value-of w (ints xs) small valued = (value.Ints (vec_of w xs small), refl)
value-of w (floats xs) small valued = (value.Floats (vec_of w xs small), refl)
value-of w (enums xs) small valued = (value.Enums (vec_of w xs small), refl)
value-of w (chars xs) small valued = (value.Chars (vec_of w xs small), refl)
value-of w (longs xs) small valued = (value.Longs (vec_of w xs small), refl)
value-of w (doubles xs) small valued = (value.Doubles (vec_of w xs small), refl)
value-of w (displayed d e) small valued = absurd valued

-- ---- an image

-- one that is long enough has a value
pub value-in : {Y : Type 0} (w : Vec Y Global) (t : DataType) (count : ℕ) (bytes : List ℕ) → count < 2 ^ 32 → IsLong t count bytes → AreBytes bytes → (v : Value) × (m : Meta) × Reads t count bytes (elements v) m
value-in w t count bytes few long are =
    let k = meta_size t.form + padding_size t.form t.base in
    let body : List ℕ = drop k bytes in
    let left : length body ≡ length bytes - k = length-drop k bytes in
    let m = meta-of t.form bytes (omega (arith, long)) are in
    let r = reading t.base count body (omega (arith, long, left)) (are-drop k bytes are) in
    let counted : count_of r.0 ≡ count = r.1.counted in
    let v = value-of w r.0 (omega (arith, few, counted)) r.1.valued in
    let reads : ReadsElements t.base count body (elements v.0) = subst (ReadsElements t.base count body) (sym v.1) r.1 in
    (v.0, m.m, reads_parts t count bytes body (elements v.0) m.m m.front (omega (arith, long)) refl reads m.fits m.only)

pub image-means : {Y : Type 0} (w : Vec Y Global) (m : Fields) → m.count < 2 ^ 32 → AreBytes m.payload → (o : Outcome) × ImageMeans m o
image-means w m few are =
    elim (cases_eq m.p1 normal) [
      | inr other ↦ (outcome.Failed (record { number = m.p1 }), (other, refl))
      | inl is ↦
          elim (cases_lt 20 m.data_type) [
            | inl over ↦ (outcome.Unreadable refusal.BadType, (is, (λ same. absurd cc), over))
            | inr small ↦
                let t : DataType = type_at m.data_type in
                let named : type_number t ≡ m.data_type = type-of m.data_type small in
                elim (cases_lt (length m.payload) (meta_size t.form + padding_size t.form t.base + least_size t.base m.count)) [
                  | inl short ↦
                      let not_long : IsLong t m.count m.payload → ⊥ = λ long. omega (arith, long, short) in
                      (outcome.Unreadable refusal.Short, (is, (λ same. absurd cc), (t, named, not_long, λ e k reads. not_long (reads_long t m.count m.payload e k reads))))
                  | inr long ↦
                      let v = value-in w t m.count m.payload few long are in
                      (outcome.Value v.0 v.1, (is, t, named, v.2))
                ]
          ]
    ]
