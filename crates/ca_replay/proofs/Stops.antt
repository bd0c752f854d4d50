-- Why a replay stops.
use Rattle.std.proofs.Common.{ℕ, List, Option, None, Some}
use Rattle.std.specs.Prelude.{slice_get}
use Rattle.ca_model.specs.Events.{Event}
use Rattle.ca_model.specs.World.{World}
use Rattle.ca_text.specs.declared.refusal.Refusal.{Refusal}
use Rattle.ca_text.specs.declared.refusal.Refusal.TheVariants.{BadEvent, OutOfMemory}
use Rattle.ca_world.specs.Running.{EndsBefore}
use Rattle.ca_replay.specs.Replayed.{Reported}

-- a run stops at an event that cannot be done, or out of memory
stops-so : (P : Refusal → Type 0) → P BadEvent → P OutOfMemory → (before w : World) (next : Option Event) (e : Refusal) → EndsBefore before next (Some e) w → P e
stops-so P bad out before w None e why = absurd why
stops-so P bad out before w (Some next) BadEvent why = bad
stops-so P bad out before w (Some next) OutOfMemory why = out
stops-so P bad out before w (Some next) _ why = absurd why

-- so does a replay
pub reported-stops : (P : Refusal → Type 0) → P BadEvent → P OutOfMemory → (script : List ℕ) (seed : Option ℕ) (e : Refusal) (text : List ℕ)
    → Reported script seed (Some e) text → P e
reported-stops P bad out script seed e text reported =
    let r = reported.reports in stops-so P bad out r.runs.before r.w (slice_get reported.es r.done) e r.runs.why
