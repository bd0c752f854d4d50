-- Histories that break a part of what is said of answers and steps: ECHOs on one circuit.
use Rattle.std.proofs.Common.{◌≡◌, inl, inr, List, [], ◌∷◌, refl, arith}
use Rattle.ca_model.specs.History.{Sent, Told, Step, Circuit, Added}
use Rattle.ca_model_examples.specs.Worlds.{AnyDue, circuit, step, temp}
use Rattle.ca_model_examples.specs.Parts.{Part, Holds, BreaksOnly, IsSafeNow, InCircuit}
use Rattle.ca_model_examples.specs.Parts as part
use Rattle.ca_model_examples.specs.Unsafe.{echo, echoed, echoes, temp_there}
use Rattle.ca_model_examples.proofs.Lists.{none-at}
use Rattle.ca_model_examples.proofs.Quiet.{none, quiet, whole, is_finished}
use Rattle.ca_model_examples.proofs.Shown.{answered-by, answered-each, caused-each}
use Rattle.ca_model_examples.proofs.Names.{its-part}

abbrev at : List Sent → List Told → List Step → List Step → Circuit
at up down handled heard = circuit up down handled heard

-- ---- one ECHO

echo-safe-each : (p : Part) → Holds AnyDue p (echoes (echo ∷ []) (echoed 0 ∷ []) (step 0 0 0 ∷ []) [])
echo-safe-each part.Caused = caused-each (at (echo ∷ []) (echoed 0 ∷ []) (step 0 0 0 ∷ []) []) [] temp_there refl refl ((tt, (step 0 0 0, refl, omega arith)), tt)
echo-safe-each part.Answered = answered-each (at (echo ∷ []) (echoed 0 ∷ []) (step 0 0 0 ∷ []) []) [] temp_there refl refl ((answered-by _ temp_there 0 (step 0 0 0) echo ((echoed 0).message ∷ []) [] refl (refl, tt) tt refl ((λ p e. omega arith), tt) ((λ l. absurd (omega (arith, l))), tt)), tt)
echo-safe-each p = quiet AnyDue p (at (echo ∷ []) (echoed 0 ∷ []) (step 0 0 0 ∷ []) []) [] temp_there refl refl refl refl refl

pub echo-safe : IsSafeNow (echoes (echo ∷ []) (echoed 0 ∷ []) (step 0 0 0 ∷ []) [])
echo-safe = whole AnyDue _ echo-safe-each

invented-rest : (p : Part) → (p ≡ part.Caused → ⊥) → Holds AnyDue p (echoes (echo ∷ []) (echoed 0 ∷ []) [] [])
invented-rest part.Caused ne = absurd (ne refl)
invented-rest p ne = quiet AnyDue p (at (echo ∷ []) (echoed 0 ∷ []) [] []) [] temp_there refl refl refl refl refl

pub invented : BreaksOnly part.Caused (echoes (echo ∷ []) (echoed 0 ∷ []) [] [])
invented = (invented-rest, λ h. (let a = its-part part.Caused (at (echo ∷ []) (echoed 0 ∷ []) [] []) [] temp_there refl refl h.0 0 (echoed 0) refl in none-at 0 a.1.0 a.1.1))

heard-safe-each : (p : Part) → Holds AnyDue p (echoes (echo ∷ []) (echoed 0 ∷ []) (step 0 0 0 ∷ []) (step 1 0 0 ∷ []))
heard-safe-each part.Caused = caused-each (at (echo ∷ []) (echoed 0 ∷ []) (step 0 0 0 ∷ []) (step 1 0 0 ∷ [])) [] temp_there refl refl ((tt, (step 0 0 0, refl, omega arith)), tt)
heard-safe-each part.Answered = answered-each (at (echo ∷ []) (echoed 0 ∷ []) (step 0 0 0 ∷ []) (step 1 0 0 ∷ [])) [] temp_there refl refl ((answered-by _ temp_there 0 (step 0 0 0) echo ((echoed 0).message ∷ []) [] refl (refl, tt) tt refl ((λ p e. omega arith), tt) ((λ l. absurd (omega (arith, l))), tt)), tt)
heard-safe-each p = quiet AnyDue p (at (echo ∷ []) (echoed 0 ∷ []) (step 0 0 0 ∷ []) (step 1 0 0 ∷ [])) [] temp_there refl refl refl refl refl

pub heard-safe : IsSafeNow (echoes (echo ∷ []) (echoed 0 ∷ []) (step 0 0 0 ∷ []) (step 1 0 0 ∷ []))
heard-safe = whole AnyDue _ heard-safe-each

heard-unsent-rest : (p : Part) → (p ≡ part.HeardEach → ⊥) → Holds AnyDue p (echoes (echo ∷ []) (echoed 0 ∷ []) (step 0 0 0 ∷ []) (step 1 0 0 ∷ step 1 0 0 ∷ []))
heard-unsent-rest part.HeardEach ne = absurd (ne refl)
heard-unsent-rest part.Caused ne = caused-each (at (echo ∷ []) (echoed 0 ∷ []) (step 0 0 0 ∷ []) (step 1 0 0 ∷ step 1 0 0 ∷ [])) [] temp_there refl refl ((tt, (step 0 0 0, refl, omega arith)), tt)
heard-unsent-rest part.Answered ne = answered-each (at (echo ∷ []) (echoed 0 ∷ []) (step 0 0 0 ∷ []) (step 1 0 0 ∷ step 1 0 0 ∷ [])) [] temp_there refl refl ((answered-by _ temp_there 0 (step 0 0 0) echo ((echoed 0).message ∷ []) [] refl (refl, tt) tt refl ((λ p e. omega arith), tt) ((λ l. absurd (omega (arith, l))), tt)), tt)
heard-unsent-rest p ne = quiet AnyDue p (at (echo ∷ []) (echoed 0 ∷ []) (step 0 0 0 ∷ []) (step 1 0 0 ∷ step 1 0 0 ∷ [])) [] temp_there refl refl refl refl refl

pub heard-unsent : BreaksOnly part.HeardEach (echoes (echo ∷ []) (echoed 0 ∷ []) (step 0 0 0 ∷ []) (step 1 0 0 ∷ step 1 0 0 ∷ []))
heard-unsent = (heard-unsent-rest, λ h. (let a = its-part part.HeardEach (at (echo ∷ []) (echoed 0 ∷ []) (step 0 0 0 ∷ []) (step 1 0 0 ∷ step 1 0 0 ∷ [])) [] temp_there refl refl h.0 in omega (arith, a)))

heard-after-unsent-rest : (p : Part) → (p ≡ part.HeardWithin → ⊥) → Holds AnyDue p (echoes (echo ∷ []) (echoed 0 ∷ []) (step 0 0 0 ∷ []) (step 2 0 0 ∷ []))
heard-after-unsent-rest part.HeardWithin ne = absurd (ne refl)
heard-after-unsent-rest part.Caused ne = caused-each (at (echo ∷ []) (echoed 0 ∷ []) (step 0 0 0 ∷ []) (step 2 0 0 ∷ [])) [] temp_there refl refl ((tt, (step 0 0 0, refl, omega arith)), tt)
heard-after-unsent-rest part.Answered ne = answered-each (at (echo ∷ []) (echoed 0 ∷ []) (step 0 0 0 ∷ []) (step 2 0 0 ∷ [])) [] temp_there refl refl ((answered-by _ temp_there 0 (step 0 0 0) echo ((echoed 0).message ∷ []) [] refl (refl, tt) tt refl ((λ p e. omega arith), tt) ((λ l. absurd (omega (arith, l))), tt)), tt)
heard-after-unsent-rest p ne = quiet AnyDue p (at (echo ∷ []) (echoed 0 ∷ []) (step 0 0 0 ∷ []) (step 2 0 0 ∷ [])) [] temp_there refl refl refl refl refl

pub heard-after-unsent : BreaksOnly part.HeardWithin (echoes (echo ∷ []) (echoed 0 ∷ []) (step 0 0 0 ∷ []) (step 2 0 0 ∷ []))
heard-after-unsent = (heard-after-unsent-rest, λ h. (let a = (its-part part.HeardWithin (at (echo ∷ []) (echoed 0 ∷ []) (step 0 0 0 ∷ []) (step 2 0 0 ∷ [])) [] temp_there refl refl h.0 0 (step 2 0 0) refl).0 in omega (arith, a)))

heard-backwards-rest : (p : Part) → (p ≡ part.HeardWithin → ⊥) → Holds AnyDue p (echoes (echo ∷ []) (echoed 0 ∷ []) (step 0 0 0 ∷ []) (step 1 1 0 ∷ []))
heard-backwards-rest part.HeardWithin ne = absurd (ne refl)
heard-backwards-rest part.Caused ne = caused-each (at (echo ∷ []) (echoed 0 ∷ []) (step 0 0 0 ∷ []) (step 1 1 0 ∷ [])) [] temp_there refl refl ((tt, (step 0 0 0, refl, omega arith)), tt)
heard-backwards-rest part.Answered ne = answered-each (at (echo ∷ []) (echoed 0 ∷ []) (step 0 0 0 ∷ []) (step 1 1 0 ∷ [])) [] temp_there refl refl ((answered-by _ temp_there 0 (step 0 0 0) echo ((echoed 0).message ∷ []) [] refl (refl, tt) tt refl ((λ p e. omega arith), tt) ((λ l. absurd (omega (arith, l))), tt)), tt)
heard-backwards-rest p ne = quiet AnyDue p (at (echo ∷ []) (echoed 0 ∷ []) (step 0 0 0 ∷ []) (step 1 1 0 ∷ [])) [] temp_there refl refl refl refl refl

pub heard-backwards : BreaksOnly part.HeardWithin (echoes (echo ∷ []) (echoed 0 ∷ []) (step 0 0 0 ∷ []) (step 1 1 0 ∷ []))
heard-backwards = (heard-backwards-rest, λ h. (let a = (its-part part.HeardWithin (at (echo ∷ []) (echoed 0 ∷ []) (step 0 0 0 ∷ []) (step 1 1 0 ∷ [])) [] temp_there refl refl h.0 0 (step 1 1 0) refl).1 in omega (arith, a)))

unanswered-safe-each : (p : Part) → Holds AnyDue p (echoes (echo ∷ []) [] (step 0 0 0 ∷ []) [])
unanswered-safe-each part.Answered = answered-each (at (echo ∷ []) [] (step 0 0 0 ∷ []) []) [] temp_there refl refl ((answered-by _ temp_there 0 (step 0 0 0) echo [] [] refl tt tt refl tt ((λ l. absurd (omega (arith, l))), tt)), tt)
unanswered-safe-each p = quiet AnyDue p (at (echo ∷ []) [] (step 0 0 0 ∷ []) []) [] temp_there refl refl refl refl refl

pub unanswered-safe : IsSafeNow (echoes (echo ∷ []) [] (step 0 0 0 ∷ []) [])
unanswered-safe = whole AnyDue _ unanswered-safe-each

handled-after-unsent-rest : (p : Part) → (p ≡ part.HandledWithin → ⊥) → Holds AnyDue p (echoes (echo ∷ []) [] (step 1 0 0 ∷ []) [])
handled-after-unsent-rest part.HandledWithin ne = absurd (ne refl)
handled-after-unsent-rest part.Answered ne = answered-each (at (echo ∷ []) [] (step 1 0 0 ∷ []) []) [] temp_there refl refl ((answered-by _ temp_there 0 (step 1 0 0) echo [] [] refl tt tt refl tt ((λ l. absurd (omega (arith, l))), tt)), tt)
handled-after-unsent-rest p ne = quiet AnyDue p (at (echo ∷ []) [] (step 1 0 0 ∷ []) []) [] temp_there refl refl refl refl refl

pub handled-after-unsent : BreaksOnly part.HandledWithin (echoes (echo ∷ []) [] (step 1 0 0 ∷ []) [])
handled-after-unsent = (handled-after-unsent-rest, λ h. (let a = (its-part part.HandledWithin (at (echo ∷ []) [] (step 1 0 0 ∷ []) []) [] temp_there refl refl h.0 0 (step 1 0 0) refl).0 in omega (arith, a)))

-- ---- two ECHOs

echoes-safe-each : (p : Part) → Holds AnyDue p (echoes (echo ∷ echo ∷ []) (echoed 0 ∷ echoed 1 ∷ []) (step 0 0 0 ∷ step 1 0 0 ∷ []) [])
echoes-safe-each part.Caused = caused-each (at (echo ∷ echo ∷ []) (echoed 0 ∷ echoed 1 ∷ []) (step 0 0 0 ∷ step 1 0 0 ∷ []) []) [] temp_there refl refl ((tt, (step 0 0 0, refl, omega arith)), ((tt, (step 1 0 0, refl, omega arith)), tt))
echoes-safe-each part.Answered = answered-each (at (echo ∷ echo ∷ []) (echoed 0 ∷ echoed 1 ∷ []) (step 0 0 0 ∷ step 1 0 0 ∷ []) []) [] temp_there refl refl ((answered-by _ temp_there 0 (step 0 0 0) echo ((echoed 0).message ∷ []) [] refl (refl, tt) tt refl ((λ p e. omega arith), ((λ p e. absurd (omega (arith, p))), tt)) ((λ l. absurd (omega (arith, l))), ((λ l. omega arith), tt))), ((answered-by _ temp_there 1 (step 1 0 0) echo ((echoed 1).message ∷ []) [] refl (refl, tt) tt refl ((λ p e. omega arith), ((λ p e. omega arith), tt)) ((λ l. absurd (omega (arith, l))), ((λ l. absurd (omega (arith, l))), tt))), tt))
echoes-safe-each p = quiet AnyDue p (at (echo ∷ echo ∷ []) (echoed 0 ∷ echoed 1 ∷ []) (step 0 0 0 ∷ step 1 0 0 ∷ []) []) [] temp_there refl refl refl refl refl

pub echoes-safe : IsSafeNow (echoes (echo ∷ echo ∷ []) (echoed 0 ∷ echoed 1 ∷ []) (step 0 0 0 ∷ step 1 0 0 ∷ []) [])
echoes-safe = whole AnyDue _ echoes-safe-each

out-of-step-rest : (p : Part) → (p ≡ part.Answered → ⊥) → Holds AnyDue p (echoes (echo ∷ echo ∷ []) (echoed 0 ∷ echoed 1 ∷ []) (step 0 0 0 ∷ step 0 0 0 ∷ []) [])
out-of-step-rest part.Answered ne = absurd (ne refl)
out-of-step-rest part.Caused ne = caused-each (at (echo ∷ echo ∷ []) (echoed 0 ∷ echoed 1 ∷ []) (step 0 0 0 ∷ step 0 0 0 ∷ []) []) [] temp_there refl refl ((tt, (step 0 0 0, refl, omega arith)), ((tt, (step 0 0 0, refl, omega arith)), tt))
out-of-step-rest p ne = quiet AnyDue p (at (echo ∷ echo ∷ []) (echoed 0 ∷ echoed 1 ∷ []) (step 0 0 0 ∷ step 0 0 0 ∷ []) []) [] temp_there refl refl refl refl refl

pub out-of-step : BreaksOnly part.Answered (echoes (echo ∷ echo ∷ []) (echoed 0 ∷ echoed 1 ∷ []) (step 0 0 0 ∷ step 0 0 0 ∷ []) [])
out-of-step = (
  out-of-step-rest,
  λ h. (let a = its-part part.Answered (at (echo ∷ echo ∷ []) (echoed 0 ∷ echoed 1 ∷ []) (step 0 0 0 ∷ step 0 0 0 ∷ []) []) [] temp_there refl refl h.0 0 (step 0 0 0) refl in let n = a.next 1 (step 0 0 0) (omega arith) refl in elim (a.only 0 (echoed 0).message refl) [
    | inl first ↦ omega (arith, n, first)
    | inr late ↦ (let f = late.2 in none is_finished temp_there refl f.0 _ f.1 refl)
  ]),
)

both-heard-safe-each : (p : Part) → Holds AnyDue p (echoes (echo ∷ echo ∷ []) (echoed 0 ∷ echoed 1 ∷ []) (step 0 0 0 ∷ step 1 0 0 ∷ []) (step 2 0 0 ∷ step 2 0 0 ∷ []))
both-heard-safe-each part.Caused = caused-each (at (echo ∷ echo ∷ []) (echoed 0 ∷ echoed 1 ∷ []) (step 0 0 0 ∷ step 1 0 0 ∷ []) (step 2 0 0 ∷ step 2 0 0 ∷ [])) [] temp_there refl refl ((tt, (step 0 0 0, refl, omega arith)), ((tt, (step 1 0 0, refl, omega arith)), tt))
both-heard-safe-each part.Answered = answered-each (at (echo ∷ echo ∷ []) (echoed 0 ∷ echoed 1 ∷ []) (step 0 0 0 ∷ step 1 0 0 ∷ []) (step 2 0 0 ∷ step 2 0 0 ∷ [])) [] temp_there refl refl ((answered-by _ temp_there 0 (step 0 0 0) echo ((echoed 0).message ∷ []) [] refl (refl, tt) tt refl ((λ p e. omega arith), ((λ p e. absurd (omega (arith, p))), tt)) ((λ l. absurd (omega (arith, l))), ((λ l. omega arith), tt))), ((answered-by _ temp_there 1 (step 1 0 0) echo ((echoed 1).message ∷ []) [] refl (refl, tt) tt refl ((λ p e. omega arith), ((λ p e. omega arith), tt)) ((λ l. absurd (omega (arith, l))), ((λ l. absurd (omega (arith, l))), tt))), tt))
both-heard-safe-each p = quiet AnyDue p (at (echo ∷ echo ∷ []) (echoed 0 ∷ echoed 1 ∷ []) (step 0 0 0 ∷ step 1 0 0 ∷ []) (step 2 0 0 ∷ step 2 0 0 ∷ [])) [] temp_there refl refl refl refl refl

pub both-heard-safe : IsSafeNow (echoes (echo ∷ echo ∷ []) (echoed 0 ∷ echoed 1 ∷ []) (step 0 0 0 ∷ step 1 0 0 ∷ []) (step 2 0 0 ∷ step 2 0 0 ∷ []))
both-heard-safe = whole AnyDue _ both-heard-safe-each

heard-back-rest : (p : Part) → (p ≡ part.HeardRise → ⊥) → Holds AnyDue p (echoes (echo ∷ echo ∷ []) (echoed 0 ∷ echoed 1 ∷ []) (step 0 0 0 ∷ step 1 0 0 ∷ []) (step 2 0 0 ∷ step 1 0 0 ∷ []))
heard-back-rest part.HeardRise ne = absurd (ne refl)
heard-back-rest part.Caused ne = caused-each (at (echo ∷ echo ∷ []) (echoed 0 ∷ echoed 1 ∷ []) (step 0 0 0 ∷ step 1 0 0 ∷ []) (step 2 0 0 ∷ step 1 0 0 ∷ [])) [] temp_there refl refl ((tt, (step 0 0 0, refl, omega arith)), ((tt, (step 1 0 0, refl, omega arith)), tt))
heard-back-rest part.Answered ne = answered-each (at (echo ∷ echo ∷ []) (echoed 0 ∷ echoed 1 ∷ []) (step 0 0 0 ∷ step 1 0 0 ∷ []) (step 2 0 0 ∷ step 1 0 0 ∷ [])) [] temp_there refl refl ((answered-by _ temp_there 0 (step 0 0 0) echo ((echoed 0).message ∷ []) [] refl (refl, tt) tt refl ((λ p e. omega arith), ((λ p e. absurd (omega (arith, p))), tt)) ((λ l. absurd (omega (arith, l))), ((λ l. omega arith), tt))), ((answered-by _ temp_there 1 (step 1 0 0) echo ((echoed 1).message ∷ []) [] refl (refl, tt) tt refl ((λ p e. omega arith), ((λ p e. omega arith), tt)) ((λ l. absurd (omega (arith, l))), ((λ l. absurd (omega (arith, l))), tt))), tt))
heard-back-rest p ne = quiet AnyDue p (at (echo ∷ echo ∷ []) (echoed 0 ∷ echoed 1 ∷ []) (step 0 0 0 ∷ step 1 0 0 ∷ []) (step 2 0 0 ∷ step 1 0 0 ∷ [])) [] temp_there refl refl refl refl refl

pub heard-back : BreaksOnly part.HeardRise (echoes (echo ∷ echo ∷ []) (echoed 0 ∷ echoed 1 ∷ []) (step 0 0 0 ∷ step 1 0 0 ∷ []) (step 2 0 0 ∷ step 1 0 0 ∷ []))
heard-back = (heard-back-rest, λ h. (let a = (its-part part.HeardRise (at (echo ∷ echo ∷ []) (echoed 0 ∷ echoed 1 ∷ []) (step 0 0 0 ∷ step 1 0 0 ∷ []) (step 2 0 0 ∷ step 1 0 0 ∷ [])) [] temp_there refl refl h.0 0 1 (step 2 0 0) (step 1 0 0) (omega arith) refl refl).0 in omega (arith, a)))

logged-safe-each : (p : Part) → Holds AnyDue p (echoes (echo ∷ echo ∷ []) [] (step 0 0 1 ∷ step 0 1 1 ∷ []) [])
logged-safe-each part.Answered = answered-each (at (echo ∷ echo ∷ []) [] (step 0 0 1 ∷ step 0 1 1 ∷ []) []) [] temp_there refl refl ((answered-by _ temp_there 0 (step 0 0 1) echo [] (Added 0 temp ∷ []) refl tt (refl, tt) refl tt ((λ l. absurd (omega (arith, l))), ((λ l. omega arith), tt))), ((answered-by _ temp_there 1 (step 0 1 1) echo [] [] refl tt tt refl tt ((λ l. absurd (omega (arith, l))), ((λ l. absurd (omega (arith, l))), tt))), tt))
logged-safe-each p = quiet AnyDue p (at (echo ∷ echo ∷ []) [] (step 0 0 1 ∷ step 0 1 1 ∷ []) []) [] temp_there refl refl refl refl refl

pub logged-safe : IsSafeNow (echoes (echo ∷ echo ∷ []) [] (step 0 0 1 ∷ step 0 1 1 ∷ []) [])
logged-safe = whole AnyDue _ logged-safe-each

logged-by-two-rest : (p : Part) → (p ≡ part.HandledRise → ⊥) → Holds AnyDue p (echoes (echo ∷ echo ∷ []) [] (step 0 0 1 ∷ step 0 0 1 ∷ []) [])
logged-by-two-rest part.HandledRise ne = absurd (ne refl)
logged-by-two-rest part.Answered ne = answered-each (at (echo ∷ echo ∷ []) [] (step 0 0 1 ∷ step 0 0 1 ∷ []) []) [] temp_there refl refl ((answered-by _ temp_there 0 (step 0 0 1) echo [] (Added 0 temp ∷ []) refl tt (refl, tt) refl tt ((λ l. absurd (omega (arith, l))), ((λ l. omega arith), tt))), ((answered-by _ temp_there 1 (step 0 0 1) echo [] (Added 0 temp ∷ []) refl tt (refl, tt) refl tt ((λ l. absurd (omega (arith, l))), ((λ l. absurd (omega (arith, l))), tt))), tt))
logged-by-two-rest p ne = quiet AnyDue p (at (echo ∷ echo ∷ []) [] (step 0 0 1 ∷ step 0 0 1 ∷ []) []) [] temp_there refl refl refl refl refl

pub logged-by-two : BreaksOnly part.HandledRise (echoes (echo ∷ echo ∷ []) [] (step 0 0 1 ∷ step 0 0 1 ∷ []) [])
logged-by-two = (logged-by-two-rest, λ h. (let a = (its-part part.HandledRise (at (echo ∷ echo ∷ []) [] (step 0 0 1 ∷ step 0 0 1 ∷ []) []) [] temp_there refl refl h.0 0 1 (step 0 0 1) (step 0 0 1) (omega arith) refl refl).1 in omega (arith, a)))
