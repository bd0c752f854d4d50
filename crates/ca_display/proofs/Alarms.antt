-- The alarm of one element, and that others have none.
use Rattle.std.proofs.Common.{◌≡◌, ℕ, ◌<◌, List, [], ◌∷◌, length, Result, refl, sym, subst, arith}
use Rattle.ca_text.specs.declared.refusal.Refusal.{Refusal}
use Rattle.ca_display.specs.declared.number.Number.{Number}
use Rattle.ca_display.specs.Alarm.{number_alarm, one_alarm}

module _ {S : Type 0} (limits : List ℕ) (number : S → Result Number Refusal) where
  pub alarm-none : (xs : List S) → length xs ≡ 0 → one_alarm limits number xs ≡ (0, 0)
  alarm-none [] h = refl
  alarm-none (x ∷ xs) h = absurd (omega (arith, h))

  several : (x : S) (rest : List S) → 0 < length rest → one_alarm limits number (x ∷ rest) ≡ (0, 0)
  several x [] h = absurd (omega (arith, h))
  several x (y ∷ ys) h = refl

  pub alarm-several : (xs : List S) (x : S) (rest : List S) → xs ≡ x ∷ rest → 0 < length rest → one_alarm limits number xs ≡ (0, 0)
  alarm-several xs x rest is some = subst (λ (z : List S). one_alarm limits number z ≡ (0, 0)) (sym is) (several x rest some)

  alone : (x : S) (rest : List S) → length rest ≡ 0 → one_alarm limits number (x ∷ rest) ≡ number_alarm limits (number x)
  alone x [] h = refl
  alone x (y ∷ ys) h = absurd (omega (arith, h))

  pub alarm-one : (xs : List S) (x : S) (rest : List S) → xs ≡ x ∷ rest → length rest ≡ 0 → one_alarm limits number xs ≡ number_alarm limits (number x)
  alarm-one xs x rest is none = subst (λ (z : List S). one_alarm limits number z ≡ number_alarm limits (number x)) (sym is) (alone x rest none)
