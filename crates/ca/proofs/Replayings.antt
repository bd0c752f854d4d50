-- How a replay ends.
use Rattle.std.proofs.Common.{◌≡◌, ℕ, List, Option, None, Some, Result, Err, inr, subst, sym}
use Rattle.ca_replay.specs.Replayed.{Reported}
use Rattle.ca_replay.proofs.Stops.{reported-stops}
use Rattle.ca_text.specs.declared.refusal.Refusal.{Refusal}
use Rattle.ca.specs.Replaying.{Replays, ended}

module _ {K : Type 0} (takes : K → List ℕ → K → Type 0) (faults : K → ℕ) (script : List ℕ) (seed : Option ℕ) (k0 k : K) where
  ends : (stop : Option Refusal) (text : List ℕ) → Reported script seed stop text → takes k0 text k → Replays takes faults script seed k0 k (ended stop)
  ends None text reported took = (text, reported, took)
  ends (Some e) text reported took =
      reported-stops (λ (x : Refusal). Reported script seed (Some x) text → Replays takes faults script seed k0 k (Err x)) (λ so. (text, so, took)) (λ so. inr (text, so, took))
      script seed e text reported reported

  -- a run whose report was taken ends as it stopped
  pub ends-told : (stop : Option Refusal) (text bytes : List ℕ) (r : Result (Unit {0}) Refusal) → Reported script seed stop text → bytes ≡ text → takes k0 bytes k → r ≡ ended stop → Replays takes faults script seed k0 k r
  ends-told stop text bytes r reported same took is =
      subst (λ (x : Result (Unit {0}) Refusal). Replays takes faults script seed k0 k x) (sym is) (ends stop text reported (subst (λ (b : List ℕ). takes k0 b k) same took))
