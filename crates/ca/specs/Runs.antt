-- What a run over one circuit's bytes comes to.
use Rattle.std.specs.Prelude.{ℕ, ◌≡◌, ◌⊎◌, List, [], Option, None, Some, Result, Err}
use Rattle.ca_text.specs.declared.refusal.Refusal.{Refusal}
use Rattle.ca_answer.specs.Answering.{Streams}
use Rattle.ca_script.specs.Grammar.{Refuses}
use Rattle.ca_script.specs.RecordFiles.{FileReading, SaysFile}
use Rattle.ca.specs.Files.{Gives}
use Rattle.ca.specs.Standing.{standing}
use Rattle.ca_link.specs.Exits.{status_of}

-- What is served: what a text of records says; without one, the standing records, under no rules.
abbrev pub Says : Option (List ℕ) → FileReading → Type 0
Says None file = file ≡ record { records = standing; rules = [] }
Says (Some text) file = SaysFile text file

module _ {S K : Type 0} (gives : S → List ℕ → S → Type 0) (takes : K → List ℕ → K → Type 0)
    (calls : S → ℕ) (calls' : K → ℕ) (faults : S → ℕ) (faults' : K → ℕ) (s0 s : S) (k0 k : K) where
  -- The records were served to this outcome; or they could not be read, and nothing was read or
  -- written of the circuit.
  abbrev pub Serves : Option (List ℕ) → Result (Unit {0}) Refusal → Type 0
  Serves text outcome =
      ((file : FileReading) × Says text file
      × Streams gives takes calls calls' faults faults' file.rules file.records s0 s k0 k outcome)
      ⊎ ((s ≡ s0) × (k ≡ k0) × ((e : Refusal) × (outcome ≡ Err e) × Refuses (Says text) e))

  -- The records of a text were served to some outcome, which has this exit status.
  pub record RunsTo (text : Option (List ℕ)) (status : ℕ) : Type 0 where
    pub outcome : Result (Unit {0}) Refusal
    pub serves : Serves text outcome
    pub told : status ≡ status_of outcome

  -- Nothing was read or written of the circuit, and this is the status.
  abbrev pub Leaves : (status n : ℕ) → Type 0
  Leaves status n = (s ≡ s0) × (k ≡ k0) × (status ≡ n)

  -- The records of a file were served; or it could not be read.
  abbrev pub RunsFrom : {F E : Type 0} → (F → Option (List ℕ)) → Result F E → (status : ℕ) → Type 0
  RunsFrom remaining file status =
      Leaves status 1 ⊎ ((text : List ℕ) × Gives remaining file text × RunsTo (Some text) status)

  -- The records of the file of this name were served, or the standing ones if none is named.
  abbrev pub Answers : Option (List ℕ) → (status : ℕ) → Type 0
  Answers None status = RunsTo None status
  Answers (Some name) status = Leaves status 1 ⊎ ((text : List ℕ) × RunsTo (Some text) status)
