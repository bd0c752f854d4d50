-- Vocabulary: how far a run of events went.
use Rattle.std.specs.Prelude.{ℕ, ◌≡◌, ◌≤◌, List, Option, Some, None, length, slice_get, take}
use Rattle.ca_text.specs.declared.refusal.Refusal.{Refusal}
use Rattle.ca_text.specs.declared.refusal.Refusal.TheVariants.{BadEvent, OutOfMemory}
use Rattle.ca_model.specs.Worlds.{IsLegalWorld, IsSafeWorld}
use Rattle.ca_model.specs.Events.{Event, Tick}
use Rattle.ca_model.specs.Runs.{CanBe, Runs, TicksBefore}
use Rattle.ca_model.specs.World.{Setting, World}
use Rattle.ca_laws_parts.specs.Worlds.{AllStream}
use Rattle.ca_world_data.specs.Does.{MayLack}

-- Why a run ended at the event after this world, and in which world: no event was left; or the next
-- one cannot be done; or it can, and may lack memory; or it is a moment, which a beginning of the
-- clients had, and the next one had no memory for it. Else nothing changed.
abbrev pub EndsBefore : (before : World) → (next : Option Event) → Option Refusal → World → Type 0
EndsBefore before None None w = w ≡ before
EndsBefore before (Some e) (Some BadEvent) w = (CanBe before e → ⊥) × (w ≡ before)
EndsBefore before (Some (Tick moment)) (Some OutOfMemory) w = TicksBefore moment before w
EndsBefore before (Some e) (Some OutOfMemory) w = MayLack before e × (w ≡ before)
EndsBefore before next refusal w = ⊥

-- A run of these events from this setting did n of them, in order, and ended in this world, at the
-- next one if there is one. Whatever the events are, the world is safe, and legal; and the bytes on
-- its circuits are those of the messages that were sent and not read.
pub record HasRun (s : Setting) (es : List Event) (done : ℕ) (refusal : Option Refusal)
    (w : World) : Type 0 where
  pub within : done ≤ length es
  pub before : World
  pub runs : Runs s (take done es) None before
  pub why : EndsBefore before (slice_get es done) refusal w
  pub safe : IsSafeWorld w
  pub legal : IsLegalWorld w
  pub bytes : AllStream w
