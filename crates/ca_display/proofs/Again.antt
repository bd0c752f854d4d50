-- What was written with display data is read again.
use Rattle.std.proofs.Common.{◌≡◌, ℕ, zero, suc, ◌-◌, ◌*◌, ◌^◌, ◌<◌, ◌≤◌, T, List, [], ◌∷◌, ◌++◌, length, map, take, replicate, All, refl, sym, ap, subst, ◌∙◌, append_assoc, arith}
use Rattle.std.specs.Prelude.{FitsSigned}
use Rattle.std.specs.Int.{w16, w32}
use Rattle.std.specs.Float.{Float, binary32, round_to_format, nan, inf, fin}
use lib.Ieee.{fits}
use lib.Ieee.Casts.{to_signed_in}
use lib.Ieee.Bits.{to_bits-lt}
use lib.Ieee.Fits.{round-fits, nan-fits, inf-fits}
use borrow.Author.Gap.{read_sfits}
use Rattle.std.proofs.lemmas.List.{length-append, length-map, length-replicate, length-take-le, append-nil, get_or-take}
use Rattle.ca_dbr.specs.declared.data_type.BaseType.{BaseType}
use Rattle.ca_dbr.specs.declared.data_type.BaseType.TheVariants as base
use Rattle.ca_dbr.specs.declared.data_type.Form.TheVariants as plain_form
use Rattle.ca_dbr.specs.declared.value.Meta.{Meta}
use Rattle.ca_dbr.specs.Types.{element_size}
use Rattle.ca_dbr.specs.DisplayData.{DisplayData, IsData}
use Rattle.ca_dbr.specs.Elements.{Elements, base_of, count_of, bytes_of, IsValue}
use Rattle.ca_dbr.specs.Image.{meta_bytes}
use Rattle.ca_dbr.specs.Reading.{carried, IsMeta, ReadsElements}
use Rattle.ca_dbr.proofs.Images.{length-bytes_of, length-meta_bytes}
use Rattle.ca_dbr.proofs.OneReading.{length-image, reads-image}
use Rattle.ca_display.specs.declared.display_type.DisplayForm.{DisplayForm}
use Rattle.ca_display.specs.declared.display_type.DisplayForm.TheVariants as form
use Rattle.ca_display.specs.declared.display_type.DisplayType.{DisplayType}
use Rattle.ca_display.specs.declared.image_type.ImageType.{ImageType}
use Rattle.ca_display.specs.declared.image_type.ImageType.TheVariants as any
use Rattle.ca_display.specs.Types.{base_in, limit_count}
use Rattle.ca_display.specs.Limits.{int_limit, char_limit, long_limit, float_limit, double_limit, limits_in}
use Rattle.ca_display.specs.Image.{data_bytes, limit_bytes, display_image, image_in, size_in, size_of_display}
use Rattle.ca_display.specs.Reading.{ReadsLimits, ReadsWhole, ReadsData, ReadsDisplay, limits_carried, whole_carried, carried_data}
use Rattle.ca_display.proofs.Images.{plain, zero_meta, base_of-limits}
use Rattle.ca_display.proofs.Readings.{plain_body, data_sized}

All-mapped : {X : Type 0} (P : X → Type 0) (f : ℕ → X) → ((n : ℕ) → P (f n)) → (ns : List ℕ) → All P (map f ns)
All-mapped P f each [] k d h = absurd (omega (arith, h))
All-mapped P f each (n ∷ ns) zero d h = each n
All-mapped P f each (n ∷ ns) (suc k) d h = All-mapped P f each ns k d (omega (arith, h))

-- numbers of a type, each as it is
All-same : (P : ℕ → Type 0) (ns : List ℕ) → All P ns → All P (map double_limit ns)
All-same P [] all k d h = absurd (omega (arith, h))
All-same P (n ∷ ns) all zero d h = all zero d (omega arith)
All-same P (n ∷ ns) all (suc k) d h = All-same P ns (λ i e l. all (suc i) e (omega (arith, l))) k d (omega (arith, h))

float_fits : (x : Float) → T (fits binary32 (round_to_format binary32 x))
unfolding round_to_format
float_fits nan = nan-fits binary32
float_fits (inf s) = inf-fits binary32 s
float_fits (fin s m e) = round-fits binary32 s _ _

-- limits in a type are a value of it
limits_valued : (b : BaseType) (ns : List ℕ) → All (λ n. n < 2 ^ 64) ns → IsValue (limits_in b ns)
limits_valued base.String ns all = λ k d h. absurd (omega (arith, h))
limits_valued base.Int ns all = All-mapped (λ z. FitsSigned w16 z) int_limit (λ n. read_sfits w16 _) ns
limits_valued base.Float ns all = All-mapped (λ n. n < 2 ^ 32) float_limit (λ n. to_bits-lt binary32 _ (float_fits _)) ns
limits_valued base.Enum ns all = λ k d h. absurd (omega (arith, h))
limits_valued base.Char ns all = All-mapped (λ n. n < 2 ^ 8) char_limit (λ n. omega arith) ns
limits_valued base.Long ns all = All-mapped (λ z. FitsSigned w32 z) long_limit (λ n. record { sfits = to_signed_in 31 _ }) ns
limits_valued base.Double ns all = All-same (λ n. n < 2 ^ 64) ns all

limit_count-few : (f : DisplayForm) → limit_count f ≤ 8
limit_count-few form.Graphic = omega arith
limit_count-few form.Control = omega arith

module _ (f : DisplayForm) (d : DisplayData) (is : IsData d) where
  abbrev ns : List ℕ
  ns = take (limit_count f) d.limits

  sized : length ns ≡ limit_count f
  sized = length-take-le (limit_count f) d.limits (omega (arith, limit_count-few f, is.limits))

  patterns : All (λ n. n < 2 ^ 64) ns
  patterns k e h =
      subst (λ (n : ℕ). n < 2 ^ 64) (sym (get_or-take (limit_count f) d.limits k e (omega (arith, h, sized)))) (is.patterns k e (omega (arith, h, sized, limit_count-few f, is.limits)))

  limits_again : (b : BaseType) → count_of (limits_in b ns) ≡ limit_count f → ReadsLimits b f (limit_bytes b f d) d.units (limits_carried b f d)
  limits_again b counted = record {
    shown = limits_in b ns;
    parts = refl;
    sized = is.units;
    based = base_of-limits b ns;
    counted = counted;
    valued = limits_valued b ns patterns;
    doubled = refl;
  }

  whole_again : (b : BaseType) → count_of (limits_in b ns) ≡ limit_count f → ReadsWhole b f 0 (limit_bytes b f d) (whole_carried b f d)
  whole_again b counted = record {
    front = limit_bytes b f d;
    padding = [];
    parts = sym (append-nil (limit_bytes b f d));
    padded = refl;
    limits = limits_again b counted;
    exact = refl;
    no_states = refl;
  }

  data_again : (b : BaseType) → ReadsData b f (data_bytes b f d) (carried_data b f d)
  data_again base.String = (refl, refl)
  data_again base.Int = whole_again base.Int (length-map ns int_limit ∙ sized)
  data_again base.Float = record {
    padding = replicate 2 0;
    behind = limit_bytes base.Float f d;
    parts = refl;
    padded = refl;
    fits = is.precision;
    limits = limits_again base.Float (length-map ns float_limit ∙ sized);
    no_states = refl;
  }
  data_again base.Enum = record {
    others = replicate ((16 - length d.states) * 26) 0;
    parts = refl;
    few = is.states;
    names = is.names;
    filled = length-replicate {A = ℕ} ((16 - length d.states) * 26) 0;
    only = refl;
  }
  data_again base.Char = record {
    front = limit_bytes base.Char f d;
    padding = replicate 1 0;
    parts = refl;
    padded = refl;
    limits = limits_again base.Char (length-map ns char_limit ∙ sized);
    exact = refl;
    no_states = refl;
  }
  data_again base.Long = whole_again base.Long (length-map ns long_limit ∙ sized)
  data_again base.Double = record {
    padding = replicate 2 0;
    behind = limit_bytes base.Double f d;
    parts = refl;
    padded = refl;
    fits = is.precision;
    limits = limits_again base.Double (length-map ns double_limit ∙ sized);
    no_states = refl;
  }

-- what was written is read again, whatever is after it
pub display_again : (t : DisplayType) (e : Elements) (m : Meta) (d : DisplayData) (behind : List ℕ) → t.base ≡ base_of e → IsValue e → IsMeta m → IsData d → ReadsDisplay t (count_of e) (display_image t e m d ++ behind) e (carried plain_form.Status m) (carried_data t.base t.form d)
display_again t e m d behind based valued is_meta is_data =
    let middle : List ℕ = data_bytes t.base t.form d in
    let alarm : List ℕ = meta_bytes plain_form.Status m in
    let zeros : IsMeta zero_meta = record { status = omega arith; severity = omega arith; seconds = omega arith; nanos = omega arith } in
    let own : ReadsElements (base_of e) (count_of e) (bytes_of e ++ behind) e = plain_body (plain (base_of e)) (base_of e) (count_of e) (bytes_of e ++ behind) e zero_meta (omega arith) (reads-image (plain (base_of e)) e zero_meta behind refl valued zeros) in
    record {
      middle = middle;
      body = bytes_of e ++ behind;
      parts = append_assoc alarm (middle ++ bytes_of e) behind ∙ ap (λ (x : List ℕ). alarm ++ x) (append_assoc middle (bytes_of e) behind);
      read = data_again t.form d is_data t.base;
      elements = subst (λ (b : BaseType). ReadsElements b (count_of e) (bytes_of e ++ behind) e) (sym based) own;
      meta = record { status = is_meta.status; severity = is_meta.severity; seconds = omega arith; nanos = omega arith };
      only = refl;
    }

-- how long an image is
length-display : (t : DisplayType) (e : Elements) (m : Meta) (d : DisplayData) → t.base ≡ base_of e → IsValue e → IsData d → length (display_image t e m d) ≡ size_of_display t (count_of e)
length-display t e m d based valued is =
    let middle : List ℕ = data_bytes t.base t.form d in
    let alarm : List ℕ = meta_bytes plain_form.Status m in
    let size : length (bytes_of e) ≡ count_of e * element_size t.base = length-bytes_of e valued ∙ ap (λ (b : BaseType). count_of e * element_size b) (sym based) in
    length-append alarm (middle ++ bytes_of e) ∙ omega (arith, length-append middle (bytes_of e), length-meta_bytes plain_form.Status m, data_sized t.base t.form middle (carried_data t.base t.form d) (data_again t.form d is t.base), size)

pub length-any : (t : ImageType) (e : Elements) (m : Meta) (d : DisplayData) → base_in t ≡ base_of e → IsValue e → IsData d → length (image_in t e m d) ≡ size_in t (count_of e)
length-any (any.Data t) e m d based valued is = length-image t e m based valued
length-any (any.Display t) e m d based valued is = length-display t e m d based valued is
