-- What an image with display data is made of.
use Rattle.std.proofs.Common.{◌≡◌, ℕ, ◌+◌, ◌*◌, ◌<◌, ◌≤◌, ◌⊎◌, List, ◌++◌, refl, sym, ap, subst, ◌∙◌, append_assoc, arith, Result, Ok, Err, inl, inr}
use Rattle.std.specs.Prelude.{IfErr, OnErr, OnOk}
use Rattle.ca_text.specs.declared.refusal.Refusal.{Refusal}
use Rattle.ca_text.specs.declared.refusal.Refusal.TheVariants as refusal
use Rattle.ca_dbr.specs.declared.data_type.BaseType.{BaseType}
use Rattle.ca_dbr.specs.declared.data_type.BaseType.TheVariants as base
use Rattle.ca_dbr.specs.declared.data_type.Form.TheVariants as plain_form
use Rattle.ca_dbr.specs.declared.data_type.DataType.{DataType}
use Rattle.ca_dbr.specs.declared.value.Meta.{Meta}
use Rattle.ca_dbr.specs.Types.{base_number, type_number, element_size, size_of_image}
use Rattle.ca_dbr.specs.DisplayData.{DisplayData}
use Rattle.ca_dbr.specs.Elements.{Elements, base_of, bytes_of}
use Rattle.ca_dbr.specs.Image.{image, meta_bytes}
use Rattle.ca_dbr.specs.Shown.{shown, WritesShown}
use Rattle.ca_dbr.proofs.OneReading.{base_number-one, base_number-small, type_number-one}
use Rattle.ca_dbr.proofs.Valued.{type_number-small}
use Rattle.ca_display.specs.declared.display_type.DisplayForm.{DisplayForm}
use Rattle.ca_display.specs.declared.display_type.DisplayType.{DisplayType}
use Rattle.ca_display.specs.declared.display_type.DisplayForm.TheVariants as form
use Rattle.ca_display.specs.declared.image_type.ImageType.{ImageType}
use Rattle.ca_display.specs.declared.image_type.ImageType.TheVariants as any
use Rattle.ca_display.specs.Types.{base_in, display_number, form_number, image_number}
use Rattle.ca_display.specs.Limits.{limits_in}
use Rattle.ca_display.specs.Image.{PutsOwn, WritesIn, data_bytes, display_image}
use Rattle.ca_display.proofs.Shown.{ShowsAs, own-shows}

-- no metadata
abbrev pub zero_meta : Meta
zero_meta = record { status = 0; severity = 0; seconds = 0; nanos = 0 }

abbrev pub plain : BaseType → DataType
plain b = record { base = b; form = plain_form.Plain }

plain-number : (b : BaseType) → type_number (plain b) ≡ base_number b
plain-number b = omega arith

pub plain-one : (t : DataType) (b : BaseType) → type_number t ≡ base_number b → t ≡ plain b
plain-one t b e = type_number-one t (plain b) (e ∙ sym (plain-number b))

pub image-plain : (t : DataType) (b : BaseType) (e : Elements) (m : Meta) → type_number t ≡ base_number b → image t e m ≡ bytes_of e
image-plain t b e m n = ap (λ (s : DataType). image s e m) (plain-one t b n)

pub base_of-limits : (b : BaseType) (ns : List ℕ) → base_of (limits_in b ns) ≡ b
base_of-limits base.String ns = refl
base_of-limits base.Int ns = refl
base_of-limits base.Float ns = refl
base_of-limits base.Enum ns = refl
base_of-limits base.Char ns = refl
base_of-limits base.Long ns = refl
base_of-limits base.Double ns = refl

-- three pieces, one after another
pub three_pieces : (o a b c o1 o2 o3 : List ℕ) → o1 ≡ o ++ a → o2 ≡ o1 ++ b → o3 ≡ o2 ++ c → o3 ≡ o ++ (a ++ (b ++ c))
three_pieces o a b c o1 o2 o3 p q r =
    r ∙ ap (λ (x : List ℕ). x ++ c) (q ∙ ap (λ (x : List ℕ). x ++ b) p) ∙ append_assoc (o ++ a) b c ∙ append_assoc o a (b ++ c)

-- elements that were put after all else
pub display_put : (t : DisplayType) (count : ℕ) (e : Elements) (m zero : Meta) (d : DisplayData) (number : ℕ) (old front mid new : List ℕ) → number ≡ base_number t.base → front ≡ meta_bytes plain_form.Status m ++ data_bytes t.base t.form d → mid ≡ old ++ front → WritesShown number count e zero mid (Ok tt) new → (f : Elements) × (shown e count t.base ≡ Ok f) × (new ≡ old ++ display_image t f m d)
display_put t count e m zero d number old front mid new n is_front is_mid w =
    let numbered : type_number w.0 ≡ base_number t.base = w.1 ∙ n in
    let f = w.2.0 in
    let meta = meta_bytes plain_form.Status m in
    let middle = data_bytes t.base t.form d in
    (f, ap (λ (s : DataType). shown e count s.base) (sym (plain-one w.0 t.base numbered)) ∙ w.2.1, w.2.2 ∙ ap (λ (x : List ℕ). mid ++ x) (image-plain w.0 t.base f zero numbered) ∙ ap (λ (x : List ℕ). x ++ bytes_of f) (is_mid ∙ ap (λ (x : List ℕ). old ++ x) is_front) ∙ append_assoc old (meta ++ middle) (bytes_of f) ∙ ap (λ (x : List ℕ). old ++ x) (append_assoc meta middle (bytes_of f)))

-- elements of the type itself are refused for memory alone
for_memory : (t : DataType) (count : ℕ) (e : Elements) (m : Meta) (given : ℕ) (mid after : List ℕ) (r : Refusal) → given ≡ type_number t → base_of e ≡ t.base → WritesShown given count e m mid (Err r) after → r ≡ refusal.OutOfMemory
for_memory t count e m given mid after r n based w =
    elim w.1 [
      | inl unknown ↦ absurd (omega (arith, type_number-small t, unknown.0, n))
      | inr known ↦
          let is : known.0.base ≡ base_of e = ap (λ (s : DataType). s.base) (type_number-one known.0 t (known.1 ∙ n)) ∙ sym based in
          elim known.2 [
            | inl fault ↦ absurd (own-shows e count r (ap (λ (c : BaseType). shown e count c) (sym is) ∙ fault))
            | inr memory ↦ memory.0
          ]
    ]

-- when there is no memory for an image of a type, by its number
abbrev Lacks : ℕ → ℕ → Refusal → (len capacity : ℕ) → Type 0
Lacks given count r len capacity =
    r ≡ refusal.OutOfMemory → (s : DataType) × (type_number s ≡ given) × (capacity < len + size_of_image s count)

-- such elements are refused only for lack of room
pub data_lacks : (t : DataType) (count : ℕ) (e : Elements) (m : Meta) (given : ℕ) (mid after : List ℕ) (r : Refusal) (len capacity : ℕ) → given ≡ type_number t → base_of e ≡ t.base → WritesShown given count e m mid (Err r) after → Lacks given count r len capacity → capacity < len + size_of_image t count
data_lacks t count e m given mid after r len capacity n based w needs =
    let lacks = needs (for_memory t count e m given mid after r n based w) in
    subst (λ (s : DataType). capacity < len + size_of_image s count) (type_number-one lacks.0 t (lacks.1 ∙ n)) lacks.2

-- and not where there is room for them
pub display_fits : (t : DisplayType) (count : ℕ) (e : Elements) (zero : Meta) (given : ℕ) (mid after : List ℕ) (r : Refusal) (len capacity : ℕ) → given ≡ base_number t.base → base_of e ≡ t.base → WritesShown given count e zero mid (Err r) after → Lacks given count r len capacity → len + count * element_size t.base ≤ capacity → ⊥
display_fits t count e zero given mid after r len capacity is based w needs enough =
    let lacks : capacity < len + size_of_image (plain t.base) count = data_lacks (plain t.base) count e zero given mid after r len capacity (is ∙ sym (plain-number t.base)) based w needs in
    omega (arith, lacks, enough)

-- elements that were put in a type without display data
pub data_put : (t : DataType) (count : ℕ) (e : Elements) (m : Meta) (d : DisplayData) (given : ℕ) (old new : List ℕ) → given ≡ type_number t → WritesShown given count e m old (Ok tt) new → PutsOwn (any.Data t) count e m d old new
data_put t count e m d given old new n w =
    let same : w.0 ≡ t = type_number-one w.0 t (w.1 ∙ n) in
    let f = w.2.0 in
    (f, ap (λ (s : DataType). shown e count s.base) (sym same) ∙ w.2.1, w.2.2 ∙ ap (λ (s : DataType). old ++ image s f m) same)

forms-one : (f g : DisplayForm) (b c : ℕ) → b < 7 → c < 7 → b + form_number f ≡ c + form_number g → (f ≡ g) × (b ≡ c)
forms-one form.Graphic form.Graphic b c p q e = (refl, omega arith)
forms-one form.Graphic form.Control b c p q e = absurd (omega arith)
forms-one form.Control form.Graphic b c p q e = absurd (omega arith)
forms-one form.Control form.Control b c p q e = (refl, omega arith)

display_number-one : (s t : DisplayType) → display_number s ≡ display_number t → s ≡ t
display_number-one s t e =
    let parts = forms-one s.form t.form (base_number s.base) (base_number t.base) (base_number-small s.base) (base_number-small t.base) e in
    let based = base_number-one s.base t.base parts.1 in
    let made : BaseType → DisplayForm → DisplayType = λ b f. record { base = b; form = f } in
    ap (λ (b : BaseType). made b s.form) based ∙ ap (λ (f : DisplayForm). made t.base f) parts.0

-- ---- any type

display_number-large : (t : DisplayType) → 20 < display_number t
display_number-large t = large t.form (base_number t.base)
  where
    large : (f : DisplayForm) (n : ℕ) → 20 < n + form_number f
    large form.Graphic n = omega arith
    large form.Control n = omega arith

apart : (s : DataType) (t : DisplayType) → type_number s ≡ display_number t → ⊥
apart s t e = omega (arith, type_number-small s, display_number-large t, e)

-- a number names one type
pub image_number-one : (s t : ImageType) → image_number s ≡ image_number t → s ≡ t
image_number-one (any.Data s) (any.Data t) e = ap (λ (x : DataType). any.Data x) (type_number-one s t e)
image_number-one (any.Data s) (any.Display t) e = absurd (apart s t e)
image_number-one (any.Display s) (any.Data t) e = absurd (apart t s (sym e))
image_number-one (any.Display s) (any.Display t) e = ap (λ (x : DisplayType). any.Display x) (display_number-one s t e)

-- no type has a number over 34, if those below 21 and the others are told apart
pub above_all : (number : ℕ) → (number < 21) ⊎ (34 < number) → 20 < number → 34 < number
above_all number (inl low) high = absurd (omega (arith, low, high))
above_all number (inr above) high = above

-- what was put of elements that are shown as others are with display data
pub own_written : (t : ImageType) (count : ℕ) (g e : Elements) (m : Meta) (d : DisplayData) (old new : List ℕ) (r : Result (Unit {0}) Refusal) → ShowsAs d g e count (base_in t)
    → OnOk r (PutsOwn t count g m d old new) → IfErr r (λ k. k ≡ refusal.OutOfMemory) → OnErr r (new ≡ old) → WritesIn t count e m d old r new
own_written t count g e m d old new (Ok u) same put memory stays = (put.0, same ∙ put.1, put.2)
own_written t count g e m d old new (Err k) same put memory stays = (stays, inr memory)
