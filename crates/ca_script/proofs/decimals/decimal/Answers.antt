use Rattle.std.proofs.Common.{◌≡◌, ℕ, ◌+◌, ◌*◌, ◌^◌, ◌<◌, ◌≤◌, false, List, get_or, length, take, refl, sym, subst, ap, ◌∙◌, arith}
use Rattle.std.specs.Char.{digit_value, is_ascii_digit}
use Rattle.std.specs.Str.Parse.{AllDigits, digits_value}
use Rattle.std.proofs.lemmas.Bool.Decides.{nat_tests}
use Rattle.std.proofs.lemmas.Int.Digits.{digits_more, digits_value_more}
use Rattle.std.proofs.lemmas.List.{take_all}
use Rattle.std.proofs.lemmas.Str.Parse.{digit_at, digits_value-take-le}
use Rattle.ca_script.specs.Grammar.{IsNumber}
use Rattle.ca_script.proofs.decimals.decimal.Goals as goal

-- a byte of a number is a digit
no-other : (word : List ℕ) (i n : ℕ) → i < length word → is_ascii_digit (get_or word i 0) ≡ false → IsNumber word n → ⊥
no-other word i n inside other is =
    let digit = digit_at word i is.digits.1 inside in
    absurd (grind (arith, nat_tests))

-- where the first digits do not fit, the whole does not
too-large : (word : List ℕ) (i n : ℕ) → i < length word → 2 ^ 64 ≤ digits_value 10 (take i word) * 10 + digit_value (get_or word i 0) → IsNumber word n → ⊥
too-large word i n inside large is =
    absurd (omega (arith, digits_value_more 10 word i inside, digits_value-take-le 10 word (i + 1) (omega arith), is.value, is.fits))

pub loop-byte-init : goal.loop-byte-init
loop-byte-init c = (refl, tt, omega arith, grind (arith, nat_tests))

pub returns-then-not-is_ascii_digit : goal.returns-then-not-is_ascii_digit
returns-then-not-is_ascii_digit c = λ n. no-other c.args.word.now c.loop-byte.byte-index n c.loop-byte-test.true (sym c.if-not-is_ascii_digit.ensures.value)

pub returns-in_err-checked_mul : goal.returns-in_err-checked_mul
returns-in_err-checked_mul c =
    rw c.from_residual.ensures (λ n. too-large c.args.word.now c.loop-byte.byte-index n c.loop-byte-test.true (omega (arith, c.in_err-checked_mul.ensures, c.loop-byte.invariant.0)))

pub returns-in_err-number : goal.returns-in_err-number
returns-in_err-number c =
    let digit : digit_value (get_or c.args.word.now c.loop-byte.byte-index 0) ≡ c.from.result = grind (arith, nat_tests) in
    rw c.from_residual-in_err-number.ensures
    (λ n. too-large c.args.word.now c.loop-byte.byte-index n c.loop-byte-test.true (omega (arith, c.in_err-number.ensures, c.in_ok-checked_mul.ensures.1, c.loop-byte.invariant.0)))

pub loop-byte-preserved : goal.loop-byte-preserved
loop-byte-preserved c =
    let digit : digit_value (get_or c.args.word.now c.loop-byte.byte-index 0) ≡ c.from.result = grind (arith, nat_tests) in
    let small : digit_value (get_or c.args.word.now c.loop-byte.byte-index 0) < 10 = grind (arith, nat_tests) in (
      omega (arith, digits_value_more 10 c.args.word.now _ c.loop-byte-test.true, c.in_ok-number.ensures.1, c.in_ok-checked_mul.ensures.1, c.loop-byte.invariant.0),
      digits_more 10 c.args.word.now c.loop-byte.byte-index c.loop-byte-test.true c.loop-byte.invariant.1 small,
      omega (arith, c.in_ok-number.ensures.0, c.in_ok-number.ensures.1),
      c.loop-byte.invariant.3,
    )

pub returns : goal.returns
returns c =
    let word : List ℕ = c.args.word.now in
    let all : take c.loop-byte.byte-index word ≡ word = take_all c.loop-byte.byte-index word c.loop-byte-test.false in
    record {
      digits = (c.loop-byte.invariant.3, subst (AllDigits 10) all c.loop-byte.invariant.1);
      value = sym (c.loop-byte.invariant.0 ∙ ap (digits_value 10) all);
      fits = c.loop-byte.invariant.2;
    }
