-- Each image with display data has an outcome: its value and these, why it has none, or the status.
use Rattle.std.proofs.Common.{◌≡◌, ◌∙◌, ℕ, zero, suc, ◌+◌, ◌-◌, ◌<◌, ◌≤◌, ◌^◌, ◌⊎◌, inl, inr, Global, Vec, List, [], ◌∷◌, ◌++◌, ap, arith, drop, length, length-drop, refl, subst, sym, take}
use Rattle.std.proofs.lemmas.Bool.{cases_eq, cases_lt}
use Rattle.std.proofs.lemmas.List.{length-take-le, take-append-drop, take-take}
use Rattle.std.specs.Int.{w16, from_be_bytes}
use Rattle.ca_text.specs.Status.{normal}
use Rattle.ca_text.specs.declared.refusal.Refusal.TheVariants as refusal
use Rattle.ca_dbr.specs.Data.{data_of, limits_of}
use Rattle.ca_dbr.specs.DisplayData.{DisplayData}
use Rattle.ca_dbr.specs.Elements.{count_of, elements}
use Rattle.ca_dbr.specs.Octets.{AreBytes}
use Rattle.ca_dbr.specs.Image.{meta_bytes}
use Rattle.ca_dbr.specs.Reading.{ReadsElements, least_size}
use Rattle.ca_dbr.specs.Types.{base_number}
use Rattle.ca_dbr.specs.declared.data_type.BaseType.{BaseType}
use Rattle.ca_dbr.specs.declared.data_type.BaseType.TheVariants as base
use Rattle.ca_dbr.specs.declared.data_type.Form.TheVariants as plain_form
use Rattle.ca_dbr.specs.declared.display.Display.{Display}
use Rattle.ca_dbr.specs.declared.display.Limits.{Limits}
use Rattle.ca_dbr.specs.declared.value.Outcome.{Outcome}
use Rattle.ca_dbr.specs.declared.value.Outcome.TheVariants as outcome
use Rattle.ca_dbr.proofs.LongBytes.{are-drop, are-take, reading}
use Rattle.ca_display.specs.Reading.{ReadsData, ReadsDisplay}
use Rattle.ca_display.specs.Types.{data_size, display_number}
use Rattle.ca_display.specs.declared.display_type.DisplayForm.{DisplayForm}
use Rattle.ca_display.specs.declared.display_type.DisplayForm.TheVariants as form
use Rattle.ca_display.specs.declared.display_type.DisplayType.{DisplayType}
use Rattle.ca_display.proofs.LongData.{IsShort, data-in}
use Rattle.ca_display.proofs.Readings.{display_long}
use Rattle.ca_wire.specs.Fields.{Fields}
use Rattle.ca_requests.specs.Meaning.{DisplayMeans}
use Rattle.ca_client_core.proofs.Outcomes.{meta-of, value-of, vec_of}

-- ---- the type of a number

base-of : (n : ℕ) → n ≤ 6 → (b : BaseType) × (base_number b ≡ n)
base-of zero small = (base.String, refl)
base-of (suc zero) small = (base.Int, refl)
base-of (suc (suc zero)) small = (base.Float, refl)
base-of (suc (suc (suc zero))) small = (base.Enum, refl)
base-of (suc (suc (suc (suc zero)))) small = (base.Char, refl)
base-of (suc (suc (suc (suc (suc zero))))) small = (base.Long, refl)
base-of (suc (suc (suc (suc (suc (suc zero)))))) small = (base.Double, refl)
base-of (suc (suc (suc (suc (suc (suc (suc n))))))) small = absurd (omega (arith, small))

type-of : (n : ℕ) → 21 ≤ n → n ≤ 34 → (t : DisplayType) × (display_number t ≡ n)
type-of n from upto =
    elim (cases_lt n 28) [
      | inl graphic ↦ (let b = base-of (n - 21) (omega (arith, graphic)) in (record { base = b.0; form = form.Graphic }, omega (arith, b.1, from)))
      | inr control ↦ (let b = base-of (n - 28) (omega (arith, upto)) in (record { base = b.0; form = form.Control }, omega (arith, b.1, control)))
    ]

-- ---- display data of a program

limits-of : (xs : List ℕ) → length xs ≡ 8 → (l : Limits) × (limits_of l ≡ xs)
limits-of (a ∷ b ∷ c ∷ d ∷ e ∷ f ∷ g ∷ h ∷ []) eight = (record { upper_display = a; lower_display = b; upper_alarm = c; upper_warning = d; lower_warning = e; lower_alarm = f; upper_control = g; lower_control = h }, refl)
limits-of [] eight = absurd (omega (arith, eight))
limits-of (a ∷ []) eight = absurd (omega (arith, eight))
limits-of (a ∷ b ∷ []) eight = absurd (omega (arith, eight))
limits-of (a ∷ b ∷ c ∷ []) eight = absurd (omega (arith, eight))
limits-of (a ∷ b ∷ c ∷ d ∷ []) eight = absurd (omega (arith, eight))
limits-of (a ∷ b ∷ c ∷ d ∷ e ∷ []) eight = absurd (omega (arith, eight))
limits-of (a ∷ b ∷ c ∷ d ∷ e ∷ f ∷ []) eight = absurd (omega (arith, eight))
limits-of (a ∷ b ∷ c ∷ d ∷ e ∷ f ∷ g ∷ []) eight = absurd (omega (arith, eight))
limits-of (a ∷ b ∷ c ∷ d ∷ e ∷ f ∷ g ∷ h ∷ i ∷ xs) eight = absurd (omega (arith, eight))

display-of : {Y : Type 0} (w : Vec Y Global) (d : DisplayData) → IsShort d → (v : Display) × (data_of v ≡ d)
display-of w d short =
    let l = limits-of d.limits short.eight in
    (record { units = d.units; precision = d.precision; limits = l.0; states = vec_of w d.states (omega (arith, short.few)); few = short.few }, λ i. record { units = d.units; precision = d.precision; limits = l.1 i; states = d.states })

-- ---- an image

is-enum : (b : BaseType) → (b ≡ base.Enum) ⊎ (b ≡ base.Enum → ⊥)
is-enum base.String = inr (λ e. absurd cc)
is-enum base.Int = inr (λ e. absurd cc)
is-enum base.Float = inr (λ e. absurd cc)
is-enum base.Enum = inl refl
is-enum base.Char = inr (λ e. absurd cc)
is-enum base.Long = inr (λ e. absurd cc)
is-enum base.Double = inr (λ e. absurd cc)

-- one that is long enough, with no more than 16 states if it is an ENUM
whole-means : {Y : Type 0} (w : Vec Y Global) (m : Fields) (t : DisplayType) → display_number t ≡ m.data_type → m.p1 ≡ normal → m.count < 2 ^ 32 → AreBytes m.payload → 4 + data_size t.base t.form + least_size t.base m.count ≤ length m.payload → (t.base ≡ base.Enum → from_be_bytes w16 (take 2 (drop 4 m.payload)) ≤ 16) → (o : Outcome) × DisplayMeans m o
whole-means w m t named is few are long states =
    let k : ℕ = data_size t.base t.form in
    let rest : List ℕ = drop 4 m.payload in
    let left : length rest ≡ length m.payload - 4 = length-drop 4 m.payload in
    let middle : List ℕ = take k rest in
    let body : List ℕ = drop k rest in
    let behind : length body ≡ length rest - k = length-drop k rest in
    let d = data-in t.base t.form middle (length-take-le k rest (omega (arith, long, left))) (λ e. subst (λ (x : List ℕ). from_be_bytes w16 x ≤ 16) (sym (take-take 2 k rest (omega (arith, ap (λ (b : BaseType). data_size b t.form) e)))) (states e)) (are-take k rest (are-drop 4 m.payload are)) in
    let h = meta-of plain_form.Status m.payload (omega (arith, long)) are in
    let r = reading t.base m.count body (omega (arith, long, left, behind)) (are-drop k rest (are-drop 4 m.payload are)) in
    let counted : count_of r.0 ≡ m.count = r.1.counted in
    let v = value-of w r.0 (omega (arith, few, counted)) r.1.valued in
    let shown = display-of w d.0 d.2 in
    let reads : ReadsDisplay t m.count m.payload (elements v.0) h.m (data_of shown.0) = record {
      middle = middle;
      body = body;
      parts = h.front ∙ ap (λ (x : List ℕ). meta_bytes plain_form.Status h.m ++ x) (sym (take-append-drop k rest));
      read = subst (ReadsData t.base t.form middle) (sym shown.1) d.1;
      elements = subst (ReadsElements t.base m.count body) (sym v.1) r.1;
      meta = h.fits;
      only = h.only;
    } in
    (outcome.Displayed v.0 h.m (record { ptr = w.ptr; alloc = w.alloc; value = shown.0 }), (is, t, named, reads))

typed-means : {Y : Type 0} (w : Vec Y Global) (m : Fields) (t : DisplayType) → display_number t ≡ m.data_type → m.p1 ≡ normal → m.count < 2 ^ 32 → AreBytes m.payload → (o : Outcome) × DisplayMeans m o
typed-means w m t named is few are =
    elim (cases_lt (length m.payload) (4 + data_size t.base t.form + least_size t.base m.count)) [
      | inl short ↦ (outcome.Unreadable refusal.Short, (is, (λ same. absurd cc), (t, named, λ e k d reads. omega (arith, short, display_long t m.count m.payload e k d reads))))
      | inr long ↦
          elim (is-enum t.base) [
            | inr other ↦ whole-means w m t named is few are long (λ e. absurd (other e))
            | inl enum ↦
                elim (cases_lt 16 (from_be_bytes w16 (take 2 (drop 4 m.payload)))) [
                  | inl over ↦ (outcome.Unreadable refusal.BadCount, (is, (λ same. absurd cc), (t, named, enum, over)))
                  | inr within ↦ whole-means w m t named is few are long (λ e. within)
                ]
          ]
    ]

pub display-means : {Y : Type 0} (w : Vec Y Global) (m : Fields) → m.count < 2 ^ 32 → AreBytes m.payload → (o : Outcome) × DisplayMeans m o
display-means w m few are =
    elim (cases_eq m.p1 normal) [
      | inr other ↦ (outcome.Failed (record { number = m.p1 }), (other, refl))
      | inl is ↦
          elim (cases_lt m.data_type 21) [
            | inl low ↦ (outcome.Unreadable refusal.BadType, (is, (λ same. absurd cc), inl low))
            | inr from ↦
                elim (cases_lt 34 m.data_type) [
                  | inl high ↦ (outcome.Unreadable refusal.BadType, (is, (λ same. absurd cc), inr high))
                  | inr upto ↦ (let t = type-of m.data_type from upto in typed-means w m t.0 t.1 is few are)
                ]
          ]
    ]
