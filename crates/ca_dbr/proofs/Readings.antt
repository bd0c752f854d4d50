-- What is read, and that nothing else is.
use Rattle.std.proofs.Common.{◌≡◌, ◌≢◌, ℕ, zero, suc, subst, All, ◌+◌, ◌-◌, ◌*◌, ◌<◌, ◌≤◌, min, Bool, true, false, cond, eqb, List, [], ◌∷◌, ◌++◌, length, take, drop, replicate, refl, sym, ap, ◌∙◌, ⊎_elim, arith}
use Rattle.std.proofs.lemmas.Bool.{cases_lt, ne_eqb}
use Rattle.std.proofs.lemmas.List.{length-append, length-replicate, length-drop, length-take-le, take-append-drop, append-nil, take_all, take-append-le, drop-drop, drop-replicate, drop_all}
use Rattle.ca_dbr.specs.declared.data_type.BaseType.{BaseType}
use Rattle.ca_dbr.specs.declared.data_type.BaseType.TheVariants as base
use Rattle.ca_dbr.specs.declared.data_type.DataType.{DataType}
use Rattle.ca_dbr.specs.declared.value.Meta.{Meta}
use Rattle.ca_dbr.specs.Types.{base_number, element_size, meta_size, padding_size}
use Rattle.std.specs.List.{flat_map}
use Rattle.ca_dbr.specs.Elements.{Elements, strings, string_bytes, base_of, count_of, bytes_of, IsValue}
use Rattle.ca_dbr.specs.Image.{meta_bytes}
use Rattle.ca_dbr.specs.Reading.{carried, IsMeta, filled, ReadsElements, ReadsOver, Reads, least_size, IsLong}
use Rattle.ca_dbr.proofs.Images.{length-bytes_of, length-meta_bytes}

-- the front of a text, with zero bytes after it
pub text_filled : (bytes front zeros : List ℕ) (n : ℕ) → n ≡ min (length bytes) 40 → front ≡ take n bytes → zeros ≡ replicate 40 0 → front ++ drop n zeros ≡ take 40 (bytes ++ replicate (40 - length bytes) 0)
text_filled bytes front zeros n is_min is_front is_zeros =
    ⊎_elim (λ (short : length bytes < 40).
    let n_is : n ≡ length bytes = omega arith in
    let a : front ≡ bytes = is_front ∙ take_all n bytes (omega arith) in
    let b : drop n zeros ≡ replicate (40 - length bytes) 0 = ap (λ (z : List ℕ). drop n z) is_zeros ∙ drop-replicate n 40 0 ∙ ap (λ (k : ℕ). replicate (40 - k) 0) n_is in
    ap (λ (x : List ℕ). x ++ drop n zeros) a ∙ ap (λ (x : List ℕ). bytes ++ x) b ∙ sym (take_all 40 (bytes ++ replicate (40 - length bytes) 0) (omega (arith, length-append bytes (replicate (40 - length bytes) 0), length-replicate {A = ℕ} (40 - length bytes) 0))))
    (λ (long : 40 ≤ length bytes).
    let n_is : n ≡ 40 = omega arith in
    let a : front ≡ take 40 bytes = is_front ∙ ap (λ (k : ℕ). take k bytes) n_is in
    let b : drop n zeros ≡ [] = drop_all n zeros (omega (arith, ap length is_zeros, length-replicate {A = ℕ} 40 0)) in
    ap (λ (x : List ℕ). front ++ x) b ∙ append-nil front ∙ a ∙ sym (take-append-le 40 bytes (replicate (40 - length bytes) 0) long))
    (cases_lt (length bytes) 40)

one_text : (text : List ℕ) → flat_map string_bytes (text ∷ []) ≡ text
unfolding string_bytes
one_text text = append-nil text

one_sized : (text : List ℕ) → length text ≡ 40 → All (λ x. length x ≡ 40) (text ∷ [])
one_sized text size zero d h = size
one_sized text size (suc k) d h = absurd (omega arith)

-- a front that has the bytes of these elements
pub reads_front : (e : Elements) (bytes : List ℕ) (count n : ℕ) → filled (base_of e) count bytes ≡ bytes → bytes_of e ≡ take n bytes → count_of e ≡ count → IsValue e → ReadsElements (base_of e) count bytes e
reads_front e bytes count n whole front counted valued = record {
  behind = drop n bytes;
  spelled = whole ∙ sym (take-append-drop n bytes) ∙ ap (λ (x : List ℕ). x ++ drop n bytes) (sym front);
  based = refl;
  counted = counted;
  valued = valued;
}

-- one text, filled
pub reads_text : (count : ℕ) (bytes text : List ℕ) (items : List (List ℕ)) → count ≡ 1 → items ≡ text ∷ [] → text ≡ take 40 (bytes ++ replicate (40 - length bytes) 0) → ReadsElements base.String count bytes (strings items)
reads_text count bytes text items one is_items is_text =
    let whole : List ℕ = bytes ++ replicate (40 - length bytes) 0 in
    let size : length text ≡ 40 = ap length is_text ∙ length-take-le 40 whole (omega (arith, length-append bytes (replicate (40 - length bytes) 0), length-replicate {A = ℕ} (40 - length bytes) 0)) in
    let spelled : bytes_of (strings items) ≡ text = ap (λ (xs : List (List ℕ)). flat_map string_bytes xs) is_items ∙ one_text text in
    let is_filled : filled base.String count bytes ≡ whole = ap (λ (n : ℕ). filled base.String n bytes) one in
    record {
      behind = drop 40 whole;
      spelled = is_filled ∙ sym (take-append-drop 40 whole) ∙ ap (λ (x : List ℕ). x ++ drop 40 whole) (sym (spelled ∙ is_text));
      based = refl;
      counted = ap length is_items ∙ sym one;
      valued = let P : List (List ℕ) → Type 0 = λ xs. All (λ x. length x ≡ 40) xs in subst P (sym is_items) (one_sized text size);
    }

pub filled_many : (bytes : List ℕ) (count : ℕ) → (count ≡ 1 → ⊥) → filled base.String count bytes ≡ bytes
filled_many bytes count many = ap (λ (b : Bool). cond b (bytes ++ replicate (40 - length bytes) 0) bytes) (ne_eqb count 1 many)

-- all parts of an image
pub reads_parts : (t : DataType) (count : ℕ) (bytes body : List ℕ) (e : Elements) (m : Meta) → bytes ≡ meta_bytes t.form m ++ drop (meta_size t.form) bytes → meta_size t.form + padding_size t.form t.base ≤ length bytes → body ≡ drop (meta_size t.form + padding_size t.form t.base) bytes → ReadsElements t.base count body e → IsMeta m → carried t.form m ≡ m → Reads t count bytes e m
reads_parts t count bytes body e m front long is_body elements meta only =
    let rest : List ℕ = drop (meta_size t.form) bytes in
    let n : ℕ = padding_size t.form t.base in
    let behind : drop n rest ≡ body = drop-drop n (meta_size t.form) bytes ∙ sym is_body in
    record {
      padding = take n rest;
      body = body;
      parts = front ∙ ap (λ (x : List ℕ). meta_bytes t.form m ++ x) (sym (take-append-drop n rest) ∙ ap (λ (x : List ℕ). take n rest ++ x) behind);
      padded = length-take-le n rest (omega (arith, length-drop (meta_size t.form) bytes));
      elements = elements;
      meta = meta;
      only = only;
    }

-- n elements take their bytes, but for one text
least_taken : (b : BaseType) (count : ℕ) (bytes : List ℕ) (n : ℕ) → n ≡ length (filled b count bytes) → count * element_size b ≤ n → least_size b count ≤ length bytes
least_taken base.String count bytes n e h =
    let by_case : (one : Bool) → n ≡ length (cond one (bytes ++ replicate (40 - length bytes) 0) bytes) → cond one 0 (count * 40) ≤ length bytes = elim [ true ↦ λ _. omega arith | false ↦ λ (f : n ≡ length bytes). omega arith ] in
    by_case (eqb count 1) e
least_taken base.Int count bytes n e h = omega arith
least_taken base.Float count bytes n e h = omega arith
least_taken base.Enum count bytes n e h = omega arith
least_taken base.Char count bytes n e h = omega arith
least_taken base.Long count bytes n e h = omega arith
least_taken base.Double count bytes n e h = omega arith

pub elements_long : (b : BaseType) (count : ℕ) (bytes : List ℕ) (e : Elements) → ReadsElements b count bytes e → least_size b count ≤ length bytes
elements_long b count bytes e r =
    let size : length (bytes_of e) ≡ count * element_size b =
    length-bytes_of e r.valued ∙ ap (λ (n : ℕ). n * element_size (base_of e)) r.counted ∙ ap (λ (c : BaseType). count * element_size c) r.based in
    least_taken b count bytes (length (filled b count bytes)) refl (omega (arith, ap length r.spelled, length-append (bytes_of e) r.behind, size))

-- what is read is long enough
pub reads_long : (t : DataType) (count : ℕ) (bytes : List ℕ) (e : Elements) (m : Meta) → Reads t count bytes e m → IsLong t count bytes
reads_long t count bytes e m r =
    omega (arith, ap length r.parts, length-append (meta_bytes t.form m) (r.padding ++ r.body), length-append r.padding r.body, length-meta_bytes t.form m, r.padded, elements_long t.base count r.body e r.elements)

-- one element came in place of others of its type, or none did
pub reads_over : (old e : Elements) (number n : ℕ) (bytes : List ℕ) (result : Bool) → base_of e ≡ base_of old → base_of old ≢ base.String → base_number (base_of old) ≡ number → least_size (base_of e) 1 ≡ n → filled (base_of e) 1 bytes ≡ bytes → (result ≡ true → bytes_of e ≡ take n bytes) → (result ≡ true → count_of e ≡ 1) → (result ≡ true → count_of old ≡ 1) → (result ≡ true → IsValue e) → (result ≡ true → n ≤ length bytes) → (result ≡ false → e ≡ old) → (result ≡ false → count_of old ≡ 1 → n ≤ length bytes → ⊥) → ReadsOver number bytes old result e
reads_over old e number n bytes true same no_text numbered size whole front counted one valued long stays unfit =
    (record { typed = numbered; no_text = no_text; one = one refl; long = (let most : n ≤ length bytes = long refl in rw (← same) (omega (arith, size, most))) }, subst (λ (b : BaseType). ReadsElements b 1 bytes e) same (reads_front e bytes 1 n whole (front refl) (counted refl) (valued refl)))
reads_over old e number n bytes false same no_text numbered size whole front counted one valued long stays unfit =
    (λ can. let most : least_size (base_of e) 1 ≤ length bytes = rw same can.long in unfit refl can.one (omega (arith, size, most)), stays refl)
