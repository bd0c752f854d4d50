-- Clocks after any number of beacons.
use Rattle.std.proofs.Common.{◌≡◌, ℕ, ◌+◌, ◌*◌, ◌%◌, ◌^◌, ◌<◌, List, [], ◌∷◌, ◌++◌, length, zero, suc, min, refl, ap, ◌∙◌, arith}
use Rattle.ca_text.specs.Waits.{latest, wait}
use Rattle.ca_beacon.specs.Clock.{Clock, fresh, run, sent_at}

run-number : (c : Clock) (moments : List ℕ) → c.number < 2 ^ 32 → (run c moments).number ≡ (c.number + length moments) % 2 ^ 32
run-number c [] small = omega arith
run-number c (now ∷ moments) small = run-number (sent_at c now) moments (omega arith) ∙ omega arith

run-wait : (k : ℕ) (c : Clock) (moments : List ℕ) → c.wait ≡ wait 20 15000 k → (run c moments).wait ≡ wait 20 15000 (k + length moments)
run-wait k c [] same = same ∙ ap (λ (n : ℕ). wait 20 15000 n) (omega arith)
run-wait k c (now ∷ moments) same = run-wait (suc k) (sent_at c now) moments (ap (λ (w : ℕ). min (2 * w) 15000) same) ∙ ap (λ (n : ℕ). wait 20 15000 n) (omega arith)

run-snoc : (c : Clock) (moments : List ℕ) (now : ℕ) → run c (moments ++ now ∷ []) ≡ sent_at (run c moments) now
run-snoc c [] now = refl
run-snoc c (m ∷ moments) now = run-snoc (sent_at c m) moments now

pub fresh-number : (start : ℕ) (moments : List ℕ) → (run (fresh start) moments).number ≡ length moments % 2 ^ 32
fresh-number start moments = run-number (fresh start) moments (omega arith) ∙ ap (λ (n : ℕ). n % 2 ^ 32) (omega arith)

pub fresh-due : (start now : ℕ) (moments : List ℕ) → (run (fresh start) (moments ++ now ∷ [])).due ≡ min (now + wait 20 15000 (length moments)) latest
fresh-due start now moments =
    ap (λ (c : Clock). c.due) (run-snoc (fresh start) moments now) ∙ ap (λ (w : ℕ). min (now + w) latest) (run-wait zero (fresh start) moments refl ∙ ap (λ (n : ℕ). wait 20 15000 n) (omega arith))
