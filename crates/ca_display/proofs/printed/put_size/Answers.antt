use Rattle.std.proofs.Common.{◌≡◌, ℕ, ◌+◌, ◌-◌, ◌^◌, ◌<◌, Bool, cond, List, ◌++◌, take, from_bits, sym, ap, subst, ◌∙◌, arith}
use Rattle.std.specs.Float.{binary64, float_is_infinite}
use lib.Ieee.{is_nan}
use lib.Ieee.Nearest.{closest}
use Rattle.ca_display.specs.Decimal.{point_text, scientific_text, fixed_text, size_text}
use Rattle.ca_display.specs.Exact.{number_of}
use Rattle.ca_display.proofs.Roundings.{closest-shift, fixed-same, scientific-same}
use Rattle.ca_display.proofs.Sizes.{is-finite, nan-text, inf-text, finite-text, up-to-fits}
use Rattle.ca_display.proofs.printed.put_size.Goals as goal

pub exact_size-exact-requires : goal.exact_size-exact-requires
exact_size-exact-requires c =
    is-finite (from_bits binary64 c.args.bits)
    (sym (c.is_nan.ensures.value ∙ ap is_nan c.f64_from_bits_with_nan-x.ensures) ∙ c.if-is_nan.false)
    (sym (c.is_infinite.ensures.value ∙ ap float_is_infinite c.f64_from_bits_with_nan-x.ensures) ∙ c.if-is_infinite.false)

pub round_off-requires-clause-fits : goal.round_off-requires-clause-fits
round_off-requires-clause-fits c =
    let e = c.exact_size-exact.result in
    let n = number_of e.digits.items in
    let near = c.requires.near c.if-has_exponent.false in
    subst (λ (p : ℕ). n < 10 ^ (e.places - p + 20)) (sym c.from.ensures) (up-to-fits (from_bits binary64 c.args.bits) n e.places c.args.places c.exact_size-exact.ensures.size near.1 near.0 c.exact_size-exact.ensures.digits.places)

pub returns-then-is_nan : goal.returns-then-is_nan
returns-then-is_nan c =
    let x = from_bits binary64 c.args.bits in
    let t = cond c.args.has_exponent (scientific_text c.args.places) (fixed_text c.args.places) in
    c.put.ensures ∙ ap (λ (z : List ℕ). take 40 (c.args.text.now.items ++ z)) (sym (nan-text t x (sym (c.is_nan.ensures.value ∙ ap is_nan c.f64_from_bits_with_nan-x.ensures) ∙ c.if-is_nan.true)))

pub returns-then-is_infinite : goal.returns-then-is_infinite
returns-then-is_infinite c =
    let x = from_bits binary64 c.args.bits in
    let t = cond c.args.has_exponent (scientific_text c.args.places) (fixed_text c.args.places) in
    c.put-then-is_infinite.ensures ∙ ap (λ (z : List ℕ). take 40 (c.args.text.now.items ++ z)) (sym (inf-text t x (sym (c.is_infinite.ensures.value ∙ ap float_is_infinite c.f64_from_bits_with_nan-x.ensures) ∙ c.if-is_infinite.true)))

pub returns-then-has_exponent : goal.returns-then-has_exponent
returns-then-has_exponent c =
    let x = from_bits binary64 c.args.bits in
    let p = c.args.places in
    let e = c.exact_size-exact.result in
    let n = number_of e.digits.items in
    let all : size_text (scientific_text p) x ≡ scientific_text p n e.places = finite-text (scientific_text p) x n e.places (λ m s h. scientific-same p n m e.places s h) c.exact_size-exact.ensures.size in
    c.put_scientific.ensures
    ∙ ap (λ (z : List ℕ). take 40 (c.args.text.now.items ++ z)) (sym all)
    ∙ sym (ap (λ (b : Bool). take 40 (c.args.text.now.items ++ size_text (cond b (scientific_text p) (fixed_text p)) x)) c.if-has_exponent.true)

pub returns-else-has_exponent : goal.returns-else-has_exponent
returns-else-has_exponent c =
    let x = from_bits binary64 c.args.bits in
    let p = c.args.places in
    let e = c.exact_size-exact.result in
    let n = number_of e.digits.items in
    let near = c.requires.near c.if-has_exponent.false in
    let units : c.round_off.result ≡ closest n (10 ^ (e.places - p)) = c.round_off.ensures ∙ ap (λ (k : ℕ). closest n (10 ^ (e.places - k))) c.from.ensures in
    let fixed : point_text p c.round_off.result ≡ fixed_text p n e.places = ap (point_text p) (units ∙ sym (closest-shift n p e.places (omega (arith, near.0, c.exact_size-exact.ensures.digits.places)))) in
    let all : size_text (fixed_text p) x ≡ fixed_text p n e.places = finite-text (fixed_text p) x n e.places (λ m s h. fixed-same p n m e.places s h) c.exact_size-exact.ensures.size in
    c.put_units.ensures
    ∙ ap (λ (z : List ℕ). take 40 (c.args.text.now.items ++ z)) (fixed ∙ sym all)
    ∙ sym (ap (λ (b : Bool). take 40 (c.args.text.now.items ++ size_text (cond b (scientific_text p) (fixed_text p)) x)) c.if-has_exponent.false)
