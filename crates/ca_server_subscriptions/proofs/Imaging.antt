-- The image of what a record shows.
use Rattle.std.proofs.Common.{◌≡◌, ◌==◌, ℕ, ◌+◌, ◌<◌, ◌≤◌, ◌⊎◌, inl, inr, Bool, true, false, cond, List, [], ◌∷◌, length, Option, None, Some, Result, Ok, Err, refl, sym, ap, ◌∙◌, subst, arith}
use Rattle.std.specs.Prelude.{IfOk, find}
use Rattle.std.proofs.lemmas.Bool.{cases_lt, eqb-true}
use Rattle.std.proofs.lemmas.List.{append-nil}
use Rattle.ca_text.specs.declared.refusal.Refusal.{Refusal}
use Rattle.ca_text.specs.declared.refusal.Refusal.TheVariants as refusal
use Rattle.ca_text.proofs.Places.{some_is}
use Rattle.ca_dbr.specs.declared.data_type.BaseType.{BaseType}
use Rattle.ca_dbr.specs.declared.data_type.BaseType.TheVariants as base
use Rattle.ca_dbr.specs.declared.data_type.DataType.{DataType}
use Rattle.ca_dbr.specs.declared.data_type.Form.{Form}
use Rattle.ca_dbr.specs.declared.data_type.Form.TheVariants as form
use Rattle.ca_dbr.specs.declared.value.Meta.{Meta}
use Rattle.ca_dbr.specs.Conversion.{Fails}
use Rattle.ca_dbr.specs.DisplayData.{DisplayData}
use Rattle.ca_dbr.specs.Elements.{Elements, base_of}
use Rattle.ca_dbr.specs.Held.{IsHeldValue, bare, display_of}
use Rattle.ca_dbr.specs.Image.{image}
use Rattle.ca_dbr.specs.Shown.{WritesShown, shown}
use Rattle.ca_dbr.specs.Types.{type_number}
use Rattle.ca_dbr.proofs.OneReading.{base_number-small}
use Rattle.ca_dbr.proofs.Valued.{type_number-small}
use Rattle.ca_display.specs.declared.display_type.DisplayForm.{DisplayForm}
use Rattle.ca_display.specs.declared.display_type.DisplayForm.TheVariants as display_form
use Rattle.ca_display.specs.declared.display_type.DisplayType.{DisplayType}
use Rattle.ca_display.specs.declared.image_type.ImageType.{ImageType}
use Rattle.ca_display.specs.declared.image_type.ImageType.TheVariants as any
use Rattle.ca_display.specs.Conversion.{display_shown}
use Rattle.ca_display.specs.Image.{IsUnshown, WritesDisplay, WritesIn, image_in, size_in}
use Rattle.ca_display.proofs.Shown.{shows-own}
use Rattle.ca_display.specs.Types.{base_in, display_number, image_number}
use Rattle.ca_wire.specs.Made.{Extends, Makes}
use Rattle.ca_model.specs.Images.{image_by, image_of, image_type_of, image_types, lacks_type, shown_by, shown_in}
use Rattle.ca_model.proofs.Showing.{length-image_of}
use Rattle.ca_server_subscriptions.specs.Imaging.{image_as, image_with, shown_image}

-- ---- types by their numbers

data-parts : (b : BaseType) (f : Form) → let t : ImageType = any.Data (record { base = b; form = f }) in image_type_of (image_number t) ≡ Some t
data-parts base.String form.Plain = refl
data-parts base.String form.Status = refl
data-parts base.String form.Time = refl
data-parts base.Int form.Plain = refl
data-parts base.Int form.Status = refl
data-parts base.Int form.Time = refl
data-parts base.Float form.Plain = refl
data-parts base.Float form.Status = refl
data-parts base.Float form.Time = refl
data-parts base.Enum form.Plain = refl
data-parts base.Enum form.Status = refl
data-parts base.Enum form.Time = refl
data-parts base.Char form.Plain = refl
data-parts base.Char form.Status = refl
data-parts base.Char form.Time = refl
data-parts base.Long form.Plain = refl
data-parts base.Long form.Status = refl
data-parts base.Long form.Time = refl
data-parts base.Double form.Plain = refl
data-parts base.Double form.Status = refl
data-parts base.Double form.Time = refl

display-parts : (b : BaseType) (f : DisplayForm) → let t : ImageType = any.Display (record { base = b; form = f }) in image_type_of (image_number t) ≡ Some t
display-parts base.String display_form.Graphic = refl
display-parts base.String display_form.Control = refl
display-parts base.Int display_form.Graphic = refl
display-parts base.Int display_form.Control = refl
display-parts base.Float display_form.Graphic = refl
display-parts base.Float display_form.Control = refl
display-parts base.Enum display_form.Graphic = refl
display-parts base.Enum display_form.Control = refl
display-parts base.Char display_form.Graphic = refl
display-parts base.Char display_form.Control = refl
display-parts base.Long display_form.Graphic = refl
display-parts base.Long display_form.Control = refl
display-parts base.Double display_form.Graphic = refl
display-parts base.Double display_form.Control = refl

by-own-number : (t : ImageType) → image_type_of (image_number t) ≡ Some t
by-own-number (any.Data t) = data-parts t.base t.form
by-own-number (any.Display t) = display-parts t.base t.form

pub image_type-of-number : (t : ImageType) (n : ℕ) → image_number t ≡ n → image_type_of n ≡ Some t
image_type-of-number t n is = subst (λ (k : ℕ). image_type_of k ≡ Some t) is (by-own-number t)

found : (ts : List ImageType) (n : ℕ) (t : ImageType) → find (λ (u : ImageType). image_number u == n) ts ≡ Some t → image_number t ≡ n
found [] n t is = absurd cc
found (u ∷ us) n t is = go (image_number u == n) refl is (λ more. found us n t more)
  where
    rest : Option ImageType
    rest = find (λ (v : ImageType). image_number v == n) us

    go : (b : Bool) → (image_number u == n) ≡ b → cond b (Some u) rest ≡ Some t → (rest ≡ Some t → image_number t ≡ n) → image_number t ≡ n
    go true same here more = ap image_number (sym (some_is u t here)) ∙ eqb-true (image_number u) n same
    go false other here more = more here

pub number-of-image_type : (n : ℕ) (t : ImageType) → image_type_of n ≡ Some t → image_number t ≡ n
number-of-image_type n t is = found image_types n t is

display-small : (t : DisplayType) → display_number t ≤ 34
display-small t = by t.form
  where
    by : (f : DisplayForm) → (let s : DisplayType = record { base = t.base; form = f } in display_number s) ≤ 34
    by display_form.Graphic = (let small = base_number-small t.base in omega (arith, small))
    by display_form.Control = (let small = base_number-small t.base in omega (arith, small))

pub image_type-small : (t : ImageType) → image_number t ≤ 34
image_type-small (any.Data t) = (let small = type_number-small t in omega (arith, small))
image_type-small (any.Display t) = display-small t

-- no type has a number above 34
pub image_type-past : (n : ℕ) → 34 < n → image_type_of n ≡ None
image_type-past n over = by (image_type_of n) refl
  where
    by : (o : Option ImageType) → image_type_of n ≡ o → image_type_of n ≡ None
    by None is = is
    by (Some t) is = (let same = number-of-image_type n t is in let small = image_type-small t in absurd (omega (arith, same, small, over)))

-- each number up to 34 is one of a type
abbrev Typed : ℕ → Type 0
Typed n = (t : ImageType) × (image_type_of n ≡ Some t)

none-below : (n : ℕ) → n < 0 → Typed n
none-below n lt = absurd (omega (arith, lt))

step : (k : ℕ) → Typed k → ((n : ℕ) → n < k → Typed n) → (n : ℕ) → n < k + 1 → Typed n
step k here below n lt = elim (cases_lt n k) [
  | inl less ↦ below n less
  | inr past ↦ (let is : k ≡ n = omega (arith, lt, past) in subst Typed is here)
]

pub image_type-there : (n : ℕ) → n ≤ 34 → Typed n
image_type-there n le = (step 34 (any.Display (record { base = base.Double; form = display_form.Control }), refl) (step 33 (any.Display (record { base = base.Long; form = display_form.Control }), refl) (step 32 (any.Display (record { base = base.Char; form = display_form.Control }), refl) (step 31 (any.Display (record { base = base.Enum; form = display_form.Control }), refl) (step 30 (any.Display (record { base = base.Float; form = display_form.Control }), refl) (step 29 (any.Display (record { base = base.Int; form = display_form.Control }), refl) (step 28 (any.Display (record { base = base.String; form = display_form.Control }), refl) (step 27 (any.Display (record { base = base.Double; form = display_form.Graphic }), refl) (step 26 (any.Display (record { base = base.Long; form = display_form.Graphic }), refl) (step 25 (any.Display (record { base = base.Char; form = display_form.Graphic }), refl) (step 24 (any.Display (record { base = base.Enum; form = display_form.Graphic }), refl) (step 23 (any.Display (record { base = base.Float; form = display_form.Graphic }), refl) (step 22 (any.Display (record { base = base.Int; form = display_form.Graphic }), refl) (step 21 (any.Display (record { base = base.String; form = display_form.Graphic }), refl) (step 20 (any.Data (record { base = base.Double; form = form.Time }), refl) (step 19 (any.Data (record { base = base.Long; form = form.Time }), refl) (step 18 (any.Data (record { base = base.Char; form = form.Time }), refl) (step 17 (any.Data (record { base = base.Enum; form = form.Time }), refl) (step 16 (any.Data (record { base = base.Float; form = form.Time }), refl) (step 15 (any.Data (record { base = base.Int; form = form.Time }), refl) (step 14 (any.Data (record { base = base.String; form = form.Time }), refl) (step 13 (any.Data (record { base = base.Double; form = form.Status }), refl) (step 12 (any.Data (record { base = base.Long; form = form.Status }), refl) (step 11 (any.Data (record { base = base.Char; form = form.Status }), refl) (step 10 (any.Data (record { base = base.Enum; form = form.Status }), refl) (step 9 (any.Data (record { base = base.Float; form = form.Status }), refl) (step 8 (any.Data (record { base = base.Int; form = form.Status }), refl) (step 7 (any.Data (record { base = base.String; form = form.Status }), refl) (step 6 (any.Data (record { base = base.Double; form = form.Plain }), refl) (step 5 (any.Data (record { base = base.Long; form = form.Plain }), refl) (step 4 (any.Data (record { base = base.Char; form = form.Plain }), refl) (step 3 (any.Data (record { base = base.Enum; form = form.Plain }), refl) (step 2 (any.Data (record { base = base.Float; form = form.Plain }), refl) (step 1 (any.Data (record { base = base.Int; form = form.Plain }), refl) (step 0 (any.Data (record { base = base.String; form = form.Plain }), refl) none-below))))))))))))))))))))))))))))))))))) n (omega (arith, le))

-- ---- the types that a record has

display-large : (t : DisplayType) → 20 < display_number t
display-large t = by t.form
  where
    by : (f : DisplayForm) → 20 < (let s : DisplayType = record { base = t.base; form = f } in display_number s)
    by display_form.Graphic = omega arith
    by display_form.Control = omega arith

-- without display data it lacks those above 20
pub lacks-above : (o : Option DisplayData) (n : ℕ) (t : ImageType) → o ≡ None → 20 < n → image_type_of n ≡ Some t → lacks_type o t ≡ true
lacks-above o n (any.Data t) none over is = (let same : type_number t ≡ n = number-of-image_type n (any.Data t) is in let small = type_number-small t in absurd (omega (arith, same, small, over)))
lacks-above o n (any.Display t) none over is = ap (λ (p : Option DisplayData). lacks_type p (any.Display t)) none

pub has-type : (o : Option DisplayData) (n : ℕ) (t : ImageType) → image_number t ≡ n → (20 < n → o ≡ None → ⊥) → lacks_type o t ≡ false
has-type None n (any.Data t) is may = refl
has-type None n (any.Display t) is may = absurd (may (let large = display-large t in let same : display_number t ≡ n = is in omega (arith, large, same)) refl)
has-type (Some d) n (any.Data t) is may = refl
has-type (Some d) n (any.Display t) is may = refl

-- ---- what is written is the image

stays : (old new : List ℕ) → new ≡ old → Extends old new
stays old new same = ([], same ∙ sym (append-nil old))

module _ (n count : ℕ) (e : Elements) (m : Meta) where
  abbrev image-so : Option DisplayData → Option ImageType → Result (List ℕ) Refusal
  image-so o t = image_as o e count m t

  -- without display data
  plain-past : 20 < n → image-so None (image_type_of n) ≡ Err refusal.BadType
  plain-past over = by (image_type_of n) refl
    where
      by : (o : Option ImageType) → image_type_of n ≡ o → image-so None o ≡ Err refusal.BadType
      by None is = refl
      by (Some (any.Data t)) is = (let same : type_number t ≡ n = number-of-image_type n (any.Data t) is in let small = type_number-small t in absurd (omega (arith, same, small, over)))
      by (Some (any.Display t)) is = refl

  plain-at : (t : DataType) → type_number t ≡ n → image-so None (image_type_of n) ≡ image_with None (any.Data t) m (shown e count t.base)
  plain-at t is = ap (λ (o : Option ImageType). image-so None o) (image_type-of-number (any.Data t) n is)

  abbrev Lacks : Refusal → Type 0
  Lacks r = ((20 < n) × (r ≡ refusal.BadType)) ⊎ ((t : DataType) × (type_number t ≡ n) × Fails (shown e count t.base) r)

  refused : (r : Refusal) → (r ≡ refusal.OutOfMemory → ⊥) → Lacks r → image-so None (image_type_of n) ≡ Err r
  refused r memory (inl bad) = plain-past bad.0 ∙ sym (ap (λ (x : Refusal). let failed : Result (List ℕ) Refusal = Err x in failed) bad.1)
  refused r memory (inr (t, is, fails)) = plain-at t is ∙ by fails
    where
      by : Fails (shown e count t.base) r → image_with None (any.Data t) m (shown e count t.base) ≡ Err r
      by (inl fault) = ap (λ (x : Result Elements Refusal). image_with None (any.Data t) m x) fault
      by (inr lacks) = absurd (memory lacks.0)

  makes-plain : (old new : List ℕ) (r : Result (Unit {0}) Refusal) → WritesShown n count e m old r new → Makes (image-so None (image_type_of n)) old r new
  makes-plain old new (Ok u) x = (image x.0 x.2.0 m, plain-at x.0 x.1 ∙ ap (λ (y : Result Elements Refusal). image_with None (any.Data x.0) m y) x.2.1, x.2.2)
  makes-plain old new (Err refusal.OutOfMemory) x = stays old new x.0
  makes-plain old new (Err r) x = (refused r (λ lack. cc) x.1, stays old new x.0)

  -- with display data
  module _ (d : DisplayData) where
    display-at : (t : ImageType) → image_number t ≡ n → image-so (Some d) (image_type_of n) ≡ image_with (Some d) t m (display_shown d e count (base_in t))
    display-at t is = ap (λ (o : Option ImageType). image-so (Some d) o) (image_type-of-number t n is)

    unshown : (t : ImageType) (r : Refusal) → (r ≡ refusal.OutOfMemory → ⊥) → image_number t ≡ n → IsUnshown d e count (base_in t) r → image-so (Some d) (image_type_of n) ≡ Err r
    unshown t r memory is (inl fault) = display-at t is ∙ ap (λ (x : Result Elements Refusal). image_with (Some d) t m x) fault
    unshown t r memory is (inr lack) = absurd (memory lack)

    in-type : (old new : List ℕ) (t : ImageType) (r : Result (Unit {0}) Refusal) → image_number t ≡ n → WritesIn t count e m d old r new → Makes (image-so (Some d) (image_type_of n)) old r new
    in-type old new t (Ok u) is x = (image_in t x.0 m d, display-at t is ∙ ap (λ (y : Result Elements Refusal). image_with (Some d) t m y) x.1, x.2)
    in-type old new t (Err refusal.OutOfMemory) is x = stays old new x.0
    in-type old new t (Err r) is x = (unshown t r (λ lack. cc) is x.1, stays old new x.0)

    past : (old new : List ℕ) (r : Result (Unit {0}) Refusal) → 34 < n → r ≡ Err refusal.BadType → new ≡ old → Makes (image-so (Some d) (image_type_of n)) old r new
    past old new r over is same =
        subst (λ (x : Result (Unit {0}) Refusal). Makes (image-so (Some d) (image_type_of n)) old x new) (sym is)
        (ap (λ (o : Option ImageType). image-so (Some d) o) (image_type-past n over), stays old new same)

    makes-display : (old new : List ℕ) (r : Result (Unit {0}) Refusal) → WritesDisplay n count e m d old r new → Makes (image-so (Some d) (image_type_of n)) old r new
    makes-display old new r (inl x) = past old new r x.0 x.1 x.2
    makes-display old new r (inr x) = in-type old new x.0 r x.1 x.2

module _ (held : Elements) (n count : ℕ) (e : Elements) (m : Meta) (old new : List ℕ) (r : Result (Unit {0}) Refusal) (alone : e ≡ bare held) where
  made : (o : Option DisplayData) → o ≡ display_of held → Makes (image_as o e count m (image_type_of n)) old r new → Makes (shown_image n count held m) old r new
  made o is makes =
      subst (λ (x : Elements). Makes (image_as (display_of held) x count m (image_type_of n)) old r new) alone
      (subst (λ (p : Option DisplayData). Makes (image_as p e count m (image_type_of n)) old r new) is makes)

  pub writes-plain : None ≡ display_of held → WritesShown n count e m old r new → Makes (shown_image n count held m) old r new
  writes-plain is writes = made None is (makes-plain n count e m old new r writes)

  pub writes-display : (d : DisplayData) → Some d ≡ display_of held → WritesDisplay n count e m d old r new → Makes (shown_image n count held m) old r new
  writes-display d is writes = made (Some d) is (makes-display n count e m d old new r writes)

-- ---- elements in their own type

pub shown_by-own : (o : Option DisplayData) (e : Elements) (n : ℕ) (t : DataType) → base_of e ≡ t.base → shown_by o e n (any.Data t) ≡ shown e n t.base
shown_by-own None e n t own = refl
shown_by-own (Some d) e n t own = shows-own d e n t.base own

pub image_by-data : (o : Option DisplayData) (t : DataType) (e : Elements) (m : Meta) → image_by o (any.Data t) e m ≡ image t e m
image_by-data None t e m = refl
image_by-data (Some d) t e m = refl

-- ---- what the image is, in this type

module _ (n count : ℕ) (held : Elements) (m : Meta) (t : ImageType) (typed : image_type_of n ≡ Some t) where
  same : (r : Result Elements Refusal) → shown_in held count t ≡ r → shown_image n count held m ≡ image_with (display_of held) t m r
  same r is =
      ap (λ (o : Option ImageType). image_as (display_of held) (bare held) count m o) typed ∙ ap (λ (y : Result Elements Refusal). image_with (display_of held) t m y) is

  -- the elements of an image that was made
  pub image-of : (bytes : List ℕ) → shown_image n count held m ≡ Ok bytes → (f : Elements) × (shown_in held count t ≡ Ok f) × (bytes ≡ image_of held t f m)
  image-of bytes made = by (shown_in held count t) refl
    where
      bytes_in : Result (List ℕ) Refusal → List ℕ
      bytes_in (Ok xs) = xs
      bytes_in (Err r) = []

      by : (x : Result Elements Refusal) → shown_in held count t ≡ x → (f : Elements) × (shown_in held count t ≡ Ok f) × (bytes ≡ image_of held t f m)
      by (Ok f) shows = (f, shows, ap bytes_in (sym made ∙ same (Ok f) shows))
      by (Err r) shows = absurd (never (sym made ∙ same (Err r) shows))
        where
          never : ◌≡◌ {A = Result (List ℕ) Refusal} (Ok bytes) (Err r) → ⊥
          never e = cc

  -- why no image was made
  pub image-not : (why : Refusal) → shown_image n count held m ≡ Err why → shown_in held count t ≡ Err why
  image-not why made = by (shown_in held count t) refl
    where
      by : (x : Result Elements Refusal) → shown_in held count t ≡ x → shown_in held count t ≡ Err why
      by (Ok f) shows = absurd (never (sym made ∙ same (Ok f) shows))
        where
          never : ◌≡◌ {A = Result (List ℕ) Refusal} (Err why) (Ok (image_of held t f m)) → ⊥
          never e = cc
      by (Err r) shows = shows ∙ again (sym made ∙ same (Err r) shows)
        where
          again : ◌≡◌ {A = Result (List ℕ) Refusal} (Err why) (Err r) → ◌≡◌ {A = Result Elements Refusal} (Err r) (Err why)
          again e = cc

  pub image-sized : (size : ℕ) → IsHeldValue held → size ≡ size_in t count → IfOk (shown_image n count held m) (λ bytes. length bytes ≡ size)
  image-sized size valued is = by (shown_image n count held m) refl
    where
      by : (x : Result (List ℕ) Refusal) → shown_image n count held m ≡ x → IfOk x (λ bytes. length bytes ≡ size)
      by (Ok bytes) made =
          let f = image-of bytes made in
          ap (λ (l : List ℕ). length l) f.2 ∙ length-image_of t count held f.0 m valued f.1 ∙ sym is
      by (Err r) made = tt
