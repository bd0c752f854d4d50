-- What the program comes to, from its words to its exit status.
use Rattle.std.specs.Prelude.{ℕ, ◌≡◌, ◌⊎◌, List, Option, None, Some, Result, ⊤}
use Rattle.clap.specs.Words.{Text}
use Rattle.ca_link.specs.declared.source.Fault.{Fault}
use Rattle.ca.specs.declared.line.CommandLine.{CommandLine}
use Rattle.ca.specs.declared.line.CommandLine.TheVariants.{Answer, Repeater, Replay}
use Rattle.ca.specs.declared.repeater.line.RepeaterLine.{RepeaterLine}
use Rattle.ca.specs.Lines.{IsLine}
use Rattle.ca.specs.Repeating.{RepeatsFrom}
use Rattle.ca.specs.Replaying.{ReplaysTo}
use Rattle.ca.specs.AnswerWords.{file_in}
use Rattle.ca.specs.Runs.{Answers, Leaves}
use Rattle.ca_link.specs.Exits.{not_understood_status}

-- a repeater over a device of this type, of which nothing is known
abbrev pub RepeatsAnywhere : Type 0 → RepeaterLine → ℕ → Type 0
RepeatsAnywhere D line status =
    (bound : Result D Fault)
    × RepeatsFrom (λ _ _ _ _. ⊤) (λ _ _ _ _. ⊤) (λ _ _ _ _. ⊤) (λ _ _. ⊤) bound line status

module _ (D : Type 0) {S K : Type 0} (gives : S → List ℕ → S → Type 0)
    (takes : K → List ℕ → K → Type 0) (calls : S → ℕ) (calls' : K → ℕ) (faults : S → ℕ)
    (faults' : K → ℕ) (s0 s : S) (k0 k : K) (status : ℕ) where
  -- This line was done, or none: from s0 to s the source was read, and from k0 to k the sink took
  -- what is due. A repeater ran over a D.
  abbrev pub Does : Option CommandLine → Type 0
  Does (Some (Answer line)) =
      Answers gives takes calls calls' faults faults' s0 s k0 k (file_in line) status
  Does (Some (Repeater line)) =
      (s ≡ s0) × ((line.port ≡ 0 → ⊥) → k ≡ k0) × RepeatsAnywhere D line status
  Does (Some (Replay line)) =
      (s ≡ s0) ×
      (((k ≡ k0) × (status ≡ 1))
      ⊎ ((script : List ℕ) × ReplaysTo takes faults' script line.seed k0 k status))
  Does None = Leaves gives takes calls calls' faults faults' s0 s k0 k status not_understood_status

  -- What the words ask for was done; or there was no memory to read them.
  abbrev pub Ends : List Text → Type 0
  Ends words =
      ((line : Option CommandLine) × IsLine words line × Does line)
      ⊎ Leaves gives takes calls calls' faults faults' s0 s k0 k status 1
