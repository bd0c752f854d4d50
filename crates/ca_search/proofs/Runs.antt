-- Clocks after any number of searches.
use Rattle.std.proofs.Common.{◌≡◌, ℕ, ◌+◌, ◌*◌, List, [], ◌∷◌, ◌++◌, length, zero, suc, min, refl, ap, ◌∙◌, arith}
use Rattle.ca_text.specs.Waits.{latest, wait}
use Rattle.ca_search.specs.Clock.{Clock, fresh, run, searched_at}

run-wait : (k : ℕ) (c : Clock) (moments : List ℕ) → c.wait ≡ wait 32 300000 k → (run c moments).wait ≡ wait 32 300000 (k + length moments)
run-wait k c [] same = same ∙ ap (λ (n : ℕ). wait 32 300000 n) (omega arith)
run-wait k c (now ∷ moments) same =
    run-wait (suc k) (searched_at c now) moments (ap (λ (w : ℕ). min (2 * w) 300000) same) ∙ ap (λ (n : ℕ). wait 32 300000 n) (omega arith)

run-snoc : (c : Clock) (moments : List ℕ) (now : ℕ) → run c (moments ++ now ∷ []) ≡ searched_at (run c moments) now
run-snoc c [] now = refl
run-snoc c (m ∷ moments) now = run-snoc (searched_at c m) moments now

pub fresh-due : (start now : ℕ) (moments : List ℕ) → (run (fresh start) (moments ++ now ∷ [])).due ≡ min (now + wait 32 300000 (length moments)) latest
fresh-due start now moments =
    ap (λ (c : Clock). c.due) (run-snoc (fresh start) moments now)
    ∙ ap (λ (w : ℕ). min (now + w) latest) (run-wait zero (fresh start) moments refl ∙ ap (λ (n : ℕ). wait 32 300000 n) (omega arith))
