use Rattle.std.proofs.Common.{◌≡◌, ℕ, ◌+◌, ◌<◌, ◌⊎◌, min, pos, true, false, List, ◌++◌, take, from_bits, sym, ap, ap₂, ◌∙◌, inl, inr, arith}
use Rattle.std.specs.Float.{Float, binary64, float_with_sign}
use lib.Ieee.{lt, of_int}
use Rattle.ca_display.specs.Decimal.{scientific_text, size_text}
use Rattle.ca_display.specs.Real.{whole_in, fixed_limit, most_places, more_bytes, minus_text, printed_text}
use Rattle.ca_display.proofs.Decimals.{far-text}
use Rattle.ca_display.proofs.Sizes.{up-to-limit}
use Rattle.ca_display.proofs.real.printed_text.Goals as goal
use Rattle.ca_display.proofs.real.printed_text.Goals.{then-places-gt-MOST_PLACES-via-then-places-gt-MOST_PLACES, then-places-gt-MOST_PLACES-via-else-places-gt-MOST_PLACES+then-nearest_u64_to_f64-size}

pub returns-then-places-gt-MOST_PLACES : goal.returns-then-places-gt-MOST_PLACES
returns-then-places-gt-MOST_PLACES g c =
    let f = g.R.Real.FORMAT in
    let p = c.args.places in
    let x = from_bits f (g.R.Real.pattern c.args.bits) in
    let sign = c.sign_text-text.result.items in
    let size : c.abs-size.result ≡ float_with_sign false x = c.abs-size.ensures.value ∙ ap (float_with_sign false) (c.f64_from_bits_with_nan.ensures ∙ c.as_double-double.ensures) in
    let limit : of_int binary64 (pos c.limits-limit.result.0) ≡ whole_in binary64 (fixed_limit f) = ap (λ (l : ℕ). of_int binary64 (pos l)) c.limits-limit.ensures.limit in
    let far : (8 < p) ⊎ (lt (whole_in binary64 (fixed_limit f)) (float_with_sign false x) ≡ true) =
    elim c.then-places-gt-MOST_PLACES.branch [
      | then-places-gt-MOST_PLACES-via-then-places-gt-MOST_PLACES w ↦ inl w.if-places-gt-MOST_PLACES.true
      | then-places-gt-MOST_PLACES-via-else-places-gt-MOST_PLACES+then-nearest_u64_to_f64-size w ↦ inr (sym (ap₂ lt (w.nearest_u64_to_f64.ensures ∙ limit) size) ∙ w.if-nearest_u64_to_f64-size.true)
    ] in
    let kept : c.min-kept.result ≡ min p (most_places f) = c.min-kept.ensures ∙ ap (λ (m : ℕ). min p m) c.limits-limit.ensures.places in
    let width : c.from.result ≡ min p (most_places f) + more_bytes f = c.from.ensures ∙ ap₂ (λ (a b : ℕ). a + b) kept c.limits-limit.ensures.bytes in
    let text : c.put_size.new.text.items ≡ take 40 (sign ++ size_text (scientific_text (min p (most_places f))) x) =
    ◌∙◌ {b = take 40 (sign ++ size_text (scientific_text c.min-kept.result) (from_bits binary64 c.as_double-double.result))} c.put_size.ensures
    (ap₂ (λ (m : ℕ) (y : Float). take 40 (sign ++ size_text (scientific_text m) y)) kept c.as_double-double.ensures) in
    let all : c.in_width.result.items ≡ take 40 (printed_text f p sign x) = far-text f p c.from.result sign c.as_slice.result.now c.in_width.result.items x far width (c.as_slice.ensures.value ∙ text) c.in_width.ensures in
    all ∙ ap (λ (z : List ℕ). take 40 (printed_text f p z x)) (c.sign_text-text.ensures ∙ ap minus_text c.is_minus.ensures)

pub put_size-requires-2-clause-near : goal.put_size-requires-2-clause-near
put_size-requires-2-clause-near g c = λ _.
    let f = g.R.Real.FORMAT in
    let size : c.abs-size.result ≡ float_with_sign false (from_bits binary64 c.as_double-double.result) = c.abs-size.ensures.value ∙ ap (float_with_sign false) c.f64_from_bits_with_nan.ensures in
    (omega arith, up-to-limit f (from_bits binary64 c.as_double-double.result) (sym (ap₂ lt (c.nearest_u64_to_f64.ensures ∙ ap (λ (l : ℕ). of_int binary64 (pos l)) c.limits-limit.ensures.limit) size) ∙ c.if-nearest_u64_to_f64-size.false))
