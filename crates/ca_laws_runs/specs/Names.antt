-- Working: the records of a server's life keep their names, by its log.
use Rattle.std.specs.Prelude.{ℕ, ◌≡◌, List, take}
use Rattle.ca_records.specs.Record.{RecordState}
use Rattle.ca_text.specs.Place.{At}
use Rattle.ca_model.specs.History.{Added, Circuit, Entry, Line, Removed}
use Rattle.ca_model.specs.Channels.{Has, KeepNames, OfCircuits}
use Rattle.ca_model.specs.World.{World, told}

-- A record is added once, when no other has its name, and removed only while it is there.
pub record KeepRecords (y : List Entry) : Type 0 where
  pub one_record : (i j r : ℕ) (a b : RecordState) → At y i (Added r a) → At y j (Added r b) → i ≡ j
  pub one_at_once : (i r q : ℕ) (s : RecordState) → At y i (Added r s) → Has (take i y) q s.name → ⊥
  pub was_there : (i r : ℕ) → At y i (Removed r) → (name : List ℕ) × Has (take i y) r name

-- So it is by the log of each life of a server.
abbrev pub AllKeepRecords : World → Type 0
AllKeepRecords w = (life : ℕ) (y : List Entry) → At w.server_logs life y → KeepRecords y

-- Channels and records keep their names, on all circuits with the logs that each joins.
abbrev pub NamesAreKept : World → Type 0
NamesAreKept w =
    OfCircuits (told w) (λ (n : ℕ) (c : Circuit) (x : List Line) (y : List Entry). KeepNames x y)
