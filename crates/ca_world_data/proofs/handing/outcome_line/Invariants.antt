use Rattle.std.proofs.Common.{◌<◌, ℕ}
use Rattle.ca_dbr.specs.declared.value.Outcome.{Outcome}
use Rattle.ca_text.specs.Place.{At}
use Rattle.ca_world_data.specs.declared.history.Line.TheVariants.{Noticed}
use Rattle.ca_world_data.proofs.handing.outcome_line.Given as goal

-- no line before this place tells it
abbrev pub invariant-loop-place : goal.invariant-loop-place
invariant-loop-place l = record { none : (place : ℕ) (o : Outcome) → place < l.place → At l.log place (Noticed l.meant o) → ⊥ }
