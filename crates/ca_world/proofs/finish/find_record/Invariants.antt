use Rattle.std.proofs.Common.{◌≡◌, ℕ, ◌<◌}
use Rattle.ca_text.specs.Place.{At}
use Rattle.ca_world_data.specs.declared.server.RecordSide.{RecordSide}
use Rattle.ca_world.proofs.finish.find_record.Given as goal

-- no record before this one has the name
abbrev pub invariant-loop-one : goal.invariant-loop-one
invariant-loop-one l =
    record { before : (place : ℕ) → place < l.one-index → (r : RecordSide) → At l.records place r → r.name.items ≡ l.name → ⊥ }
