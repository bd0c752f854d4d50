-- What the replay of a script comes to: its events are run in a world, and the world's
-- report goes to a sink.
use Rattle.std.specs.Prelude.{ℕ, ◌≡◌, ◌<◌, ◌⊎◌, List, Option, None, Some, Result, Ok, Err, take}
use Rattle.ca_replay.specs.Replayed.{IsNotRead, Reported}
use Rattle.ca_text.specs.declared.refusal.Refusal.{Refusal}
use Rattle.ca_text.specs.declared.refusal.Refusal.TheVariants.{BadEvent, BadText, Device}
use Rattle.ca_text.specs.declared.refusal.Refusal.TheVariants.{OutOfMemory}
use Rattle.ca.specs.Files.{Gives}
use Rattle.ca_link.specs.Exits.{status_of}

-- how a run that stopped so ended
abbrev pub ended : Option Refusal → Result (Unit {0}) Refusal
ended None = Ok tt
ended (Some refusal) = Err refusal

module _ {K : Type 0} (takes : K → List ℕ → K → Type 0) (faults : K → ℕ) (script : List ℕ)
    (seed : Option ℕ) (k0 k : K) where
  -- From k0 to k the sink took the report of a run that ended so.
  abbrev pub Tells : Option Refusal → Type 0
  Tells stop = (text : List ℕ) × Reported script seed stop text × takes k0 text k

  -- It failed after the first bytes of a report.
  abbrev pub BreaksOff : Type 0
  BreaksOff =
      (stop : Option Refusal) × (text : List ℕ) × (n : ℕ) × Reported script seed stop text
      × takes k0 (take n text) k × (faults k0 < faults k)

  -- The replay ended so: well with the report of all events; at an event that cannot be done with
  -- the report of those before it; out of memory with such a report or with nothing; with nothing
  -- if the script does not read; refused as `Device` if the sink failed.
  abbrev pub Replays : Result (Unit {0}) Refusal → Type 0
  Replays (Ok _) = Tells None
  Replays (Err BadText) = (k ≡ k0) × IsNotRead script
  Replays (Err BadEvent) = Tells (Some BadEvent)
  Replays (Err OutOfMemory) = (k ≡ k0) ⊎ Tells (Some OutOfMemory)
  Replays (Err Device) = BreaksOff
  Replays (Err _) = ⊥

  -- The replay ended with some outcome, which has this exit status.
  pub record ReplaysTo (status : ℕ) : Type 0 where
    pub outcome : Result (Unit {0}) Refusal
    pub replays : Replays outcome
    pub told : status ≡ status_of outcome

-- The script of a file was replayed; or none could be read, and the sink took nothing.
abbrev pub ReplaysFrom : {F E K : Type 0} → (F → Option (List ℕ)) → (K → List ℕ → K → Type 0)
    → (K → ℕ) → Result F E → Option ℕ → K → K → ℕ → Type 0
ReplaysFrom remaining takes faults file seed k0 k status =
    ((k ≡ k0) × (status ≡ 1))
    ⊎ ((script : List ℕ) × Gives remaining file script
    × ReplaysTo takes faults script seed k0 k status)
