-- What a read of a record comes to.
use Rattle.std.proofs.Common.{◌≡◌, ◌==◌, ℕ, zero, suc, List, if◌then◌else◌, ◌<◌, ◌≤◌, ◌||◌, ◌⊎◌, inl, inr, Bool, true, false, not, nat_lt, [], ◌∷◌, Option, Some, None, Result, Ok, Err, refl, sym, ap, ◌∙◌, subst, arith}
use Rattle.std.specs.Option.{IfSome}
use Rattle.std.proofs.lemmas.Bool.{le-ltb, lt-ltb}
use Rattle.ca_text.specs.declared.refusal.Refusal.{Refusal}
use Rattle.ca_text.specs.declared.refusal.Refusal.TheVariants as refusal
use Rattle.ca_text.proofs.Places.{some_is}
use Rattle.ca_text.specs.Limits.{payload_limit}
use Rattle.ca_text.specs.Status.{bad_count, bad_type, get_fail, no_convert, no_read_access, normal}
use Rattle.std.specs.Int.{to_be_bytes, w64}
use Rattle.ca_dbr.specs.declared.data_type.BaseType.{BaseType}
use Rattle.ca_dbr.specs.declared.data_type.BaseType.TheVariants as base
use Rattle.ca_dbr.specs.declared.data_type.Form.TheVariants as form
use Rattle.ca_dbr.specs.Scalar.{IsScalar}
use Rattle.ca_wire.specs.declared.requests.Wanted.{Wanted}
use Rattle.ca_dbr.specs.declared.data_type.DataType.{DataType}
use Rattle.ca_dbr.specs.Elements.{Elements, base_of, bytes_8, count_of}
use Rattle.ca_dbr.specs.DisplayData.{DisplayData}
use Rattle.ca_dbr.specs.Held.{bare, display_of}
use Rattle.ca_dbr.specs.Types.{size_of_image}
use Rattle.ca_dbr.proofs.Helds.{count_of-bare}
use Rattle.ca_display.specs.declared.image_type.ImageType.{ImageType}
use Rattle.ca_display.specs.declared.image_type.ImageType.TheVariants as any
use Rattle.ca_display.specs.Image.{size_in}
use Rattle.ca_records.specs.Faults.{first_fault, has_misfit, lacks_conversion}
use Rattle.ca_records.specs.Record.{IsRecord, RecordState}
use Rattle.ca_records.specs.Rules.{may_read}
use Rattle.ca_wire.specs.Fields.{Fields, padded}
use Rattle.ca_wire.specs.Messages.{scalar, read_request, status_reply, value_reply}
use Rattle.ca_model.specs.Faults.{read_count, read_fault, read_shown, too_many}
use Rattle.ca_model.specs.Images.{image_of, image_type_of, lacks_type, shown_by, shown_in}
use Rattle.ca_server_subscriptions.proofs.Imaging.{image_by-data, image_type-of-number, shown_by-own}
use Rattle.ca_server_circuit.specs.declared.read.ReadSize.{ReadSize}
use Rattle.ca_server_circuit.specs.Showing.{AnswersRead, IsInOrder, LacksImage, ShowsRead, scalar_reply, status_for}

-- the faults of a read in order, by their tests
abbrev faults : (lacking forbidden many lacks misfit : Bool) → Option ℕ
faults lacking forbidden many lacks misfit =
    first_fault ((lacking, bad_type) ∷ (forbidden, no_read_access) ∷ (many, bad_count) ∷ (lacks, no_convert) ∷ (misfit, get_fail) ∷ [])

module _ (r : RecordState) (rights : ℕ) (m : Fields) where
  abbrev fault : Option ℕ
  fault = read_fault r rights m (image_type_of m.data_type)

  module _ (t : ImageType) (typed : image_type_of m.data_type ≡ Some t) where
    abbrev many : Bool
    many = too_many r t (read_count r m)

    abbrev lacks : Bool
    lacks = lacks_conversion (read_shown r m t)

    abbrev misfit : Bool
    misfit = has_misfit (read_shown r m t)

    start : (b : Bool) → lacks_type (display_of r.value) t ≡ b → fault ≡ faults b (not (may_read rights)) many lacks misfit
    start b has = ap (λ (o : Option ImageType). read_fault r rights m o) typed ∙ ap (λ (x : Bool). faults x (not (may_read rights)) many lacks misfit) has

    pub fault-right : lacks_type (display_of r.value) t ≡ false → may_read rights ≡ false → fault ≡ Some no_read_access
    fault-right has no_right = start false has ∙ ap (λ (b : Bool). faults false (not b) many lacks misfit) no_right

    pub fault-count : lacks_type (display_of r.value) t ≡ false → may_read rights ≡ true → many ≡ true → fault ≡ Some bad_count
    fault-count has right over =
        start false has ∙ ap (λ (b : Bool). faults false (not b) many lacks misfit) right ∙ ap (λ (b : Bool). faults false false b lacks misfit) over

    -- with the right and not too many, what is shown decides
    fault-shown : lacks_type (display_of r.value) t ≡ false → may_read rights ≡ true → many ≡ false → (x : Result Elements Refusal) → read_shown r m t ≡ x → fault ≡ faults false false false (lacks_conversion x) (has_misfit x)
    fault-shown has right few x is =
        start false has ∙ ap (λ (b : Bool). faults false (not b) many lacks misfit) right ∙ ap (λ (b : Bool). faults false false b lacks misfit) few
        ∙ ap (λ (y : Result Elements Refusal). faults false false false (lacks_conversion y) (has_misfit y)) is

  pub fault-type : LacksImage r.value m.data_type → fault ≡ Some bad_type
  fault-type lacking = by (image_type_of m.data_type) refl
    where
      by : (o : Option ImageType) → image_type_of m.data_type ≡ o → fault ≡ Some bad_type
      by None none = ap (λ (o : Option ImageType). read_fault r rights m o) none
      by (Some t) typed = start t typed true (lacking t typed)

  refused-so : (why : Refusal) → faults false false false (lacks_conversion (Err why)) (has_misfit (Err why)) ≡ Some (status_for why)
  refused-so refusal.NoConvert = refl
  refused-so refusal.OutOfMemory = refl
  refused-so refusal.Misaligned = refl
  refused-so refusal.TooLarge = refl
  refused-so refusal.BadType = refl
  refused-so refusal.Short = refl
  refused-so refusal.OutOfRange = refl
  refused-so refusal.BadText = refl
  refused-so _ = refl

  -- a read in order is answered by what it is shown
  pub answers-shown : (a : ReadSize) (reply : Fields) → IsInOrder r m a → may_read rights ≡ true → ShowsRead r m reply → AnswersRead r rights m reply
  answers-shown a reply order right shows = by shows.shows
    where
      same : order.image.t ≡ shows.t
      same = some_is order.image.t shows.t (sym order.image.typed ∙ shows.typed)

      has : lacks_type (display_of r.value) shows.t ≡ false
      has = subst (λ (t : ImageType). lacks_type (display_of r.value) t ≡ false) same order.image.has

      few : too_many r shows.t (read_count r m) ≡ false
      few = subst (λ (t : ImageType). too_many r t (read_count r m) ≡ false) same (subst (λ (n : ℕ). too_many r order.image.t n ≡ false) order.count order.few)

      by : (((e : Elements) × (read_shown r m shows.t ≡ Ok e) × (reply ≡ value_reply m (count_of e) (image_of r.value shows.t e r.meta)))
          ⊎ ((why : Refusal) × (read_shown r m shows.t ≡ Err why) × (reply ≡ status_reply m (status_for why)))) → AnswersRead r rights m reply
      by (inl h) = inr (fault-shown shows.t shows.typed has right few (Ok h.0) h.1, (shows.t, h.0, shows.typed, h.1, h.2))
      by (inr h) = inl (status_for h.0, fault-shown shows.t shows.typed has right few (Err h.0) h.1 ∙ refused-so h.0, h.2)

-- ---- what is too much

pub over-count : (r : RecordState) (t : ImageType) (n : ℕ) → r.count < n → too_many r t n ≡ true
over-count r t n over = ap (λ (b : Bool). b || nat_lt payload_limit (size_in t n)) (lt-ltb r.count n over)

or-true : (b : Bool) → (b || true) ≡ true
or-true true = refl
or-true false = refl

pub over-size : (r : RecordState) (t : ImageType) (n : ℕ) → payload_limit < size_in t n → too_many r t n ≡ true
over-size r t n over = ap (λ (b : Bool). nat_lt r.count n || b) (lt-ltb payload_limit (size_in t n) over) ∙ or-true (nat_lt r.count n)

pub not-many : (r : RecordState) (t : ImageType) (n : ℕ) → n ≤ r.count → size_in t n ≤ payload_limit → too_many r t n ≡ false
not-many r t n few small = ap (λ (b : Bool). b || nat_lt payload_limit (size_in t n)) (le-ltb r.count n few) ∙ le-ltb payload_limit (size_in t n) small

-- ---- one element, in its own type

plain-small : (b : BaseType) → (let t : DataType = record { base = b; form = form.Plain } in size_of_image t 1) ≤ payload_limit
plain-small base.String = omega arith
plain-small base.Int = omega arith
plain-small base.Float = omega arith
plain-small base.Enum = omega arith
plain-small base.Char = omega arith
plain-small base.Long = omega arith
plain-small base.Double = omega arith

one-read : (k n : ℕ) → k ≤ 1 → n ≡ 1 → (if k == 0 then n else k) ≡ 1
one-read zero n few one = one
one-read (suc zero) n few one = refl
one-read (suc (suc k)) n few one = absurd (omega arith)

pub shows-scalar : (r : RecordState) (rights : ℕ) (w : Wanted) (n : ℕ) (v : Elements) → IsRecord r → may_read rights ≡ true → w.count ≤ 1 → v ≡ bare r.value → IsScalar v w.data_type n → AnswersRead r rights (read_request w) (scalar (scalar_reply w n))
unfolding bytes_8
shows-scalar r rights w n v recorded right few same is =
    let m : Fields = read_request w in
    let plain : DataType = record { base = base_of v; form = form.Plain } in
    let t : ImageType = any.Data plain in
    let typed : image_type_of m.data_type ≡ Some t = image_type-of-number t m.data_type (omega (arith, is.typed)) in
    let held = recorded.value in
    let one : count_of r.value ≡ 1 = sym (count_of-bare r.value) ∙ ap count_of (sym same) ∙ is.one in
    let asks : read_count r m ≡ 1 = one-read w.count (count_of r.value) few one in
    let a : ReadSize = record { count = 1; size = size_in t 1 } in
    let within : 1 ≤ r.count = omega (arith, held.one, held.within) in
    let order : IsInOrder r m a = record {
      count = sym asks;
      image = record { t = t; typed = typed; has = has-plain (display_of r.value) plain; sized = refl };
      few = not-many r t 1 within (plain-small (base_of v));
    } in
    let made : ℕ → List ℕ → Fields = λ k p. record { command = m.command; data_type = m.data_type; count = k; p1 = normal; p2 = m.p2; payload = p } in
    let shown-so : read_shown r m t ≡ Ok v =
    ap (λ (k : ℕ). shown_in r.value k t) asks ∙ ap (λ (x : Elements). shown_by (display_of r.value) x 1 t) (sym same) ∙ shown_by-own (display_of r.value) v 1 plain refl ∙ is.shown in
    let reply : scalar (scalar_reply w n) ≡ value_reply m (count_of v) (image_of r.value t v r.meta) =
    ap (λ (k : ℕ). made k (to_be_bytes w64 n)) (sym is.one) ∙ ap (λ (p : List ℕ). made (count_of v) p) (sym is.bytes) ∙ ap (λ (p : List ℕ). made (count_of v) (padded p)) (sym (image_by-data (display_of r.value) plain v r.meta)) in
    answers-shown r rights m a (scalar (scalar_reply w n)) order right (record { t = t; typed = typed; shows = inl (v, shown-so, reply) })
  where
    has-plain : (o : Option DisplayData) (p : DataType) → lacks_type o (any.Data p) ≡ false
    has-plain None p = refl
    has-plain (Some d) p = refl

pub if-scalar : (r : RecordState) (rights : ℕ) (w : Wanted) (v : Elements) (o : Option ℕ) → IsRecord r → may_read rights ≡ true → w.count ≤ 1 → v ≡ bare r.value → IfSome o (λ n. IsScalar v w.data_type n)
    → IfSome o (λ n. AnswersRead r rights (read_request w) (scalar (scalar_reply w n)))
if-scalar r rights w v (Some n) recorded right few same is = shows-scalar r rights w n v recorded right few same is
if-scalar r rights w v None recorded right few same is = tt
