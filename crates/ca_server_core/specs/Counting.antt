-- Vocabulary: a pump that says how much waits after it.
use Rattle.std.specs.Prelude.{ℕ, ◌≡◌, List, length}
use Rattle.ca_arena.specs.declared.handle.Handle.{Handle}
use Rattle.ca_ids.specs.Table.{under}
use Rattle.ca_model.specs.Server.{Server}
use Rattle.ca_model.specs.ServerSteps.{Pumps, Update, output_of}

-- updates leave the queues of an open end as by `pump`, and n bytes wait on it then
abbrev pub PumpsCounting : Server → Handle → (waiting : ℕ) → Server → Type 0
PumpsCounting old h waiting new =
    ((updates : List Update) × Pumps old h updates new)
    × (waiting ≡ length (output_of (under new.circuits h)))
